use Rattle.std.proofs.Common.{◌∙◌, sym, ap, subst}
use Rattle.ready_queue.specs.Held.{Groups, name_at, IsParked, AreFewer}
use Rattle.ready_queue.proofs.ReadyLemmas.{fewer_named, not_named, named_placed}
use Rattle.ready_queue.proofs.ready.Ready.unpark.Goals as goal

pub returns-in_default-clause-ok : goal.returns-in_default-clause-ok
returns-in_default-clause-ok c = not_named c.args.group.now _ (sym (ap (λ (r : Groups). name_at c.args.group.now r.held.names) c.self.view_is) ∙ sym c.get.ensures.value ∙ sym c.in_default.ensures)

pub returns-clause-parked : goal.returns-clause-parked
returns-clause-parked c =
    subst (λ (r : Groups). AreFewer r (record { held = record { names = c.self.inside.names.entries; keys = c.unpark.new.self.keys }; places = c.unpark.new.self.places })) c.self.view_is
    (fewer_named _ _ _ _ _ c.in_ok-unpark.ensures.parked)

pub returns-clause-ok : goal.returns-clause-ok
returns-clause-ok c = named_placed c.args.group.now c.in-Some.name _ _ _ (sym c.get.ensures.value ∙ sym c.in-Some.ensures) c.in_ok-unpark.ensures.ok

pub returns-in_err-unpark-clause-parked : goal.returns-in_err-unpark-clause-parked
returns-in_err-unpark-clause-parked c =
    subst (λ (r : Groups). AreFewer r (record { held = record { names = c.self.inside.names.entries; keys = c.unpark.new.self.keys }; places = c.unpark.new.self.places })) c.self.view_is
    (fewer_named _ _ _ _ _ c.in_err-unpark.ensures.parked)
