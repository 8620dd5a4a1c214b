use Rattle.std.proofs.Common.{◌∙◌, ap}
use Rattle.std.specs.List.{find}
use Rattle.kinds.specs.Queue.{number_of, has_number, without_number}
use Rattle.lists.proofs.Stored.{numbered_found}
use Rattle.ready_queue.proofs.ScanLemmas.{store_left}
use Rattle.ready_queue.proofs.store.Store.take.Goals as goal

pub invariant_of-self : goal.invariant_of-self
invariant_of-self c = (store_left c.self.inside.items.entries c.take_at.new.items.entries c.args.number c.self.invariant c.take_at.ensures.entries c.take_at.ensures.ordered).1

pub returns-clause-value : goal.returns-clause-value
returns-clause-value c = c.take_at.ensures.value ∙ numbered_found number_of c.self.inside.items.entries c.args.number c.self.invariant.stored ∙ ap (find (has_number c.args.number)) c.self.view_is

pub returns-clause-left : goal.returns-clause-left
returns-clause-left c =
    (store_left c.self.inside.items.entries c.take_at.new.items.entries c.args.number c.self.invariant c.take_at.ensures.entries c.take_at.ensures.ordered).0
    ∙ ap (without_number c.args.number) c.self.view_is
