use Rattle.std.proofs.Common.{◌∙◌, ap}
use Rattle.std.specs.List.{find}
use Rattle.kinds.specs.Queue.{number_of, has_number}
use Rattle.lists.proofs.Stored.{numbered_found}
use Rattle.ready_queue.proofs.store.Store.get.Goals as goal

pub returns : goal.returns
returns c = c.find_at.ensures.value ∙ numbered_found number_of c.self.inside.items.entries c.args.number c.self.invariant.stored ∙ ap (find (has_number c.args.number)) c.self.view_is
