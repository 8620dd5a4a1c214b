use Rattle.std.proofs.Common.{◌≡◌, Some, None, ◌∙◌, sym, ap, subst}
use Rattle.ready_queue.specs.Held.{Groups, name_at, holds, Goes, AreFewer}
use Rattle.ready_queue.proofs.ReadyLemmas.{fewer_named, fewer_last, goes_nothing, named_fewer, goes_removed, named_last, goes_last}
use Rattle.ready_queue.proofs.ready.Ready.remove.Goals as goal

pub returns-in_default-clause-goes : goal.returns-in_default-clause-goes
returns-in_default-clause-goes c =
    subst (λ (r : Groups). Goes c.args.group.now c.args.score c.args.number (holds r.held) (holds r.held)) c.self.view_is
    (goes_nothing c.args.group.now c.args.score c.args.number _ _ (sym c.get.ensures.value ∙ sym c.in_default.ensures))

pub invariant_of-self : goal.invariant_of-self
invariant_of-self c =
    named_last c.args.group.now c.in-Some.name c.args.score c.args.number _ _ _ _ c.self.invariant (sym c.get.ensures.value ∙ sym c.in-Some.ensures) c.remove.ensures.changes
    _ c.if-not-remove.ensures.others c.remove-then-not-remove.ensures.updates.0

pub invariant_of-self-else-not-remove : goal.invariant_of-self-else-not-remove
invariant_of-self-else-not-remove c =
    named_fewer c.args.group.now c.in-Some.name c.args.score c.args.number _ _ _ _ c.self.invariant (sym c.get.ensures.value ∙ sym c.in-Some.ensures) c.remove.ensures.changes

pub returns-then-not-remove-clause-goes : goal.returns-then-not-remove-clause-goes
returns-then-not-remove-clause-goes c =
    subst (λ (r : Groups). Goes c.args.group.now c.args.score c.args.number (holds r.held) (holds (record { names = c.remove-then-not-remove.new.self.entries; keys = c.remove.new.self.keys }))) c.self.view_is
    (goes_last c.args.group.now c.in-Some.name c.args.score c.args.number _ _ _ _ c.self.invariant (sym c.get.ensures.value ∙ sym c.in-Some.ensures) c.remove.ensures.changes
    _ c.if-not-remove.ensures.others c.remove-then-not-remove.ensures.updates.0)

pub returns-else-not-remove-clause-goes : goal.returns-else-not-remove-clause-goes
returns-else-not-remove-clause-goes c =
    subst (λ (r : Groups). Goes c.args.group.now c.args.score c.args.number (holds r.held) (holds (record { names = c.self.inside.names.entries; keys = c.remove.new.self.keys }))) c.self.view_is
    (goes_removed c.args.group.now c.in-Some.name c.args.score c.args.number _ _ _ _ c.self.invariant (sym c.get.ensures.value ∙ sym c.in-Some.ensures) c.remove.ensures.changes)

pub returns-then-not-remove-clause-parked : goal.returns-then-not-remove-clause-parked
returns-then-not-remove-clause-parked c =
    subst (λ (r : Groups). AreFewer r (record { held = record { names = c.remove-then-not-remove.new.self.entries; keys = c.remove.new.self.keys }; places = c.remove.new.self.places })) c.self.view_is
    (fewer_last c.args.group.now c.in-Some.name c.args.score c.args.number _ _ _ _ c.self.invariant (sym c.get.ensures.value ∙ sym c.in-Some.ensures) c.remove.ensures.changes
    _ c.if-not-remove.ensures.others c.remove-then-not-remove.ensures.updates.0 _ _ c.remove.ensures.parked)

pub returns-else-not-remove-clause-parked : goal.returns-else-not-remove-clause-parked
returns-else-not-remove-clause-parked c =
    subst (λ (r : Groups). AreFewer r (record { held = record { names = c.self.inside.names.entries; keys = c.remove.new.self.keys }; places = c.remove.new.self.places })) c.self.view_is
    (fewer_named _ _ _ _ _ c.remove.ensures.parked)
