use Rattle.std.proofs.Common.{◌∙◌, sym}
use Rattle.kinds.proofs.CellLemmas.{group_tied}
use Rattle.ready_queue.proofs.ready.Ready.intern.Goals as goal

pub returns-in-Ok : goal.returns-in-Ok
returns-in-Ok c = c.in-Ok.ensures ∙ sym (group_tied c.args.group c.in-Some.known.now c.in-Some.ensures.same_key)
