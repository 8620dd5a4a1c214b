use Rattle.machine.specs.Words.{when_of}
use Rattle.machine.proofs.HeldEvents.{followed, still-given}
use Rattle.machine.proofs.HeldMaking.{on-ok}
use Rattle.machine.proofs.parts.Parts.follow.Goals as goal

pub offer_to_all-requires-clause-given : goal.offer_to_all-requires-clause-given
offer_to_all-requires-clause-given g c =
    still-given (when_of c.args.discovery) c.args.number c.args.name.now c.args.self.now c.wake_by.new.self
    c.requires.given c.in_ok-wake_by.ensures

pub returns : goal.returns
returns g c =
    on-ok c.offer_to_all.result _ _
    (λ became. followed (when_of c.args.discovery) c.args.number c.args.name.now c.args.self.now c.wake_by.new.self
    c.offer_to_all.new.self c.requires.given c.in_ok-wake_by.ensures became) c.offer_to_all.ensures
