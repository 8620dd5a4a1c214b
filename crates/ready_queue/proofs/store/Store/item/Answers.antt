use Rattle.std.proofs.Common.{List, sym, ap, ◌∙◌}
use Rattle.std.specs.List.{find}
use Rattle.kinds.specs.Queue.{number_of, has_number}
use Rattle.kinds.specs.declared.store.Item.{Item}
use Rattle.lists.proofs.Stored.{numbered_found}
use Rattle.ready_queue.proofs.LeastLemmas.{have_starts}
use Rattle.ready_queue.proofs.store.Store.item.Goals as goal

pub returns-in_default-clause-found : goal.returns-in_default-clause-found
returns-in_default-clause-found c =
    c.in_default.ensures.value ∙ numbered_found number_of c.self.inside.items.entries c.args.number c.self.invariant.stored ∙ ap (λ (is : List Item). find (has_number c.args.number) is) c.self.view_is

pub returns-clause-found : goal.returns-clause-found
returns-clause-found c =
    c.in-Some.ensures.value ∙ numbered_found number_of c.self.inside.items.entries c.args.number c.self.invariant.stored ∙ ap (λ (is : List Item). find (has_number c.args.number) is) c.self.view_is

pub returns-clause-start : goal.returns-clause-start
returns-clause-start c = have_starts c.self.inside.items.entries c.self.invariant c.args.number c.in-Some.item.now (sym c.in-Some.ensures.value)
