use Rattle.std.proofs.Common.{◌≡◌, Some, ◌+◌, ◌∙◌, sym, ap, subst}
use Rattle.ready_queue.specs.Held.{Group, Groups, name_at, holds, AreSame, AreFewer, IsNamed}
use Rattle.ready_queue.proofs.ReadyLemmas.{Names, named_given, held_given, fewer_given, name_given}
use Rattle.ready_queue.proofs.ready.Ready.give_name.Goals as goal

pub invariant_of-self-2 : goal.invariant_of-self-2
invariant_of-self-2 c =
    let none = ap (λ (r : Groups). name_at c.args.group.now r.held.names) c.self.view_is ∙ c.requires in
    let put = subst (λ (k : Group). Names k (Some c.self.inside.next) c.self.inside.names.entries c.insert.new.self.entries) c.in_ok-key.ensures c.in_ok-insert.ensures.updates.0 in
    subst (λ n. IsNamed c.insert.new.self.entries c.self.inside.index.keys n) (sym c.in-Some.ensures.1) (named_given c.args.group.now _ _ _ _ c.self.invariant none put)

pub returns-clause-same : goal.returns-clause-same
returns-clause-same c =
    let none = ap (λ (r : Groups). name_at c.args.group.now r.held.names) c.self.view_is ∙ c.requires in
    let put = subst (λ (k : Group). Names k (Some c.self.inside.next) c.self.inside.names.entries c.insert.new.self.entries) c.in_ok-key.ensures c.in_ok-insert.ensures.updates.0 in
    subst (λ (r : Groups). AreSame (holds r.held) (holds (record { names = c.insert.new.self.entries; keys = c.self.inside.index.keys }))) c.self.view_is
    (held_given c.args.group.now _ _ _ _ c.self.invariant none put)

pub returns-clause-parked : goal.returns-clause-parked
returns-clause-parked c =
    let none = ap (λ (r : Groups). name_at c.args.group.now r.held.names) c.self.view_is ∙ c.requires in
    let put = subst (λ (k : Group). Names k (Some c.self.inside.next) c.self.inside.names.entries c.insert.new.self.entries) c.in_ok-key.ensures c.in_ok-insert.ensures.updates.0 in
    subst (λ (r : Groups). AreFewer r (record { held = record { names = c.insert.new.self.entries; keys = c.self.inside.index.keys }; places = c.self.inside.index.places })) c.self.view_is
    (fewer_given c.args.group.now _ _ _ _ c.self.invariant none put c.self.inside.index.places)
