-- What contracts see of the machine's parts: the documented state.
use Rattle.run_model.specs.State.{State}
use Rattle.machine.specs.declared.parts.Parts.{Parts}

abbrev pub state_of : Parts → State
state_of m = record {
  limits = m.limits;
  moment = m.moment;
  inputs = m.counts.inputs;
  events = m.counts.events;
  runs = m.counts.runs;
  calls = m.counts.calls;
  entries = m.counts.entries;
  versions = m.counts.versions;
  functions = m.versions.current;
  retired = m.versions.retired;
  seen = m.seen;
  texts = m.texts.texts;
  live = m.runs.live;
  closing = m.runs.closing;
  items = m.admission.items;
  issues = m.admission.issues;
  sleeps = m.sleeps;
  waits = m.waits;
  invocations = m.invocations;
  rules = m.rules;
  windows = m.windows;
  starts = m.admission.starts;
  ended = m.ended;
}
