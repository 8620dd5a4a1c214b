use Rattle.std.proofs.Common.{sym, ◌∙◌}
use Rattle.kinds.specs.Queue.{has_run}
use Rattle.lists.proofs.Keyed.{filter_none}
use Rattle.ready_queue.proofs.listed.Listed.remove_run.Goals as goal

pub returns-clause-left : goal.returns-clause-left
returns-clause-left c = c.in_default.ensures.same ∙ sym (filter_none (has_run c.args.run) _ c.in_default.ensures.none) ∙ c.loop-item.invariant.0
