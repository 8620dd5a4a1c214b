use Rattle.std.proofs.Common.{sym, ◌∙◌}
use Rattle.lists.specs.Entries.{has}
use Rattle.lists.proofs.Keyed.{filter_none}
use Rattle.matching.proofs.index.Index.drop_run.Goals as goal

pub returns : goal.returns
returns g c = c.loop-test.ensures.same ∙ sym (filter_none (has g.E.OfRun.run_of c.args.run) _ c.loop-test.ensures.none) ∙ c.loop.invariant
