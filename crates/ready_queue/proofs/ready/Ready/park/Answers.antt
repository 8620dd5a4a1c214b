use Rattle.std.proofs.Common.{◌∙◌, sym, subst}
use Rattle.ready_queue.specs.Held.{Groups, AreOneMore}
use Rattle.ready_queue.proofs.ReadyLemmas.{one_named}
use Rattle.ready_queue.proofs.ready.Ready.park.Goals as goal

pub returns-clause-parked : goal.returns-clause-parked
returns-clause-parked c =
    subst (λ (r : Groups). AreOneMore c.args.group.now r (record { held = record { names = c.self.inside.names.entries; keys = c.park.new.self.keys }; places = c.park.new.self.places })) c.self.view_is
    (one_named c.args.group.now c.in-Some.name _ _ _ _ _ _ c.self.invariant (sym c.get.ensures.value ∙ sym c.in-Some.ensures) c.park.ensures.keys c.park.ensures.parked)
