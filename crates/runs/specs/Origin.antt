-- A run as it is made.
use Rattle.std.specs.Prelude.{true, false}
use Rattle.kinds.specs.RunSteps.{no_steps}
use Rattle.runs.specs.Runs.{Run}
use Rattle.runs.specs.declared.run.Origin.{Origin}

-- it wants its first call
abbrev pub run_of : Origin → Run
run_of o = record {
  number = o.number;
  moment = o.moment;
  version = o.version;
  events = o.events;
  cells = o.cells;
  start = o.start;
  shift = o.shift;
  wanted = true;
  planned = false;
  started = false;
  parent = o.parent;
  steps = no_steps;
}
