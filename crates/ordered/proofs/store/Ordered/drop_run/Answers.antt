use Rattle.std.proofs.Common.{sym, ◌∙◌}
use Rattle.lists.specs.Entries.{has}
use Rattle.lists.proofs.Keyed.{filter_none}
use Rattle.ordered.proofs.store.Ordered.drop_run.Goals as goal

pub returns : goal.returns
returns g c = c.in_default.ensures.same ∙ sym (filter_none (has g.E.OfRun.run_of c.args.run) _ c.in_default.ensures.none) ∙ c.loop-entry.invariant
