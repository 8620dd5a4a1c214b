use Rattle.std.proofs.Common.{sym, ◌∙◌}
use Rattle.lists.specs.Entries.{has}
use Rattle.lists.proofs.Keyed.{filter_none}
use Rattle.awaited.specs.Entries.{invocation_run}
use Rattle.awaited.proofs.invocations.Invocations.drop_run.Goals as goal

pub returns : goal.returns
returns c = c.loop-test.ensures.same ∙ sym (filter_none (has invocation_run c.args.run) _ c.loop-test.ensures.none) ∙ c.loop.invariant
