use Rattle.std.proofs.Common.{refl}
use Rattle.machine.proofs.HeldMaking.{on-ok}
use Rattle.machine.proofs.Raised.{raised}
use Rattle.machine.proofs.parts.Parts.raise.Goals as goal

pub returns : goal.returns
returns g c =
    on-ok c.follow.result _ _
    (λ after. raised c.args.self.now c.add_event.new.self c.follow.new.self c.args.event.now _ _
    c.in_ok-number.ensures.number refl c.requires.held c.in_ok-number.ensures.now after) c.follow.ensures
