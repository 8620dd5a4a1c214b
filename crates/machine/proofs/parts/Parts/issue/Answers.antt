use Rattle.machine.specs.View.{state_of}
use Rattle.machine.proofs.HeldMaking.{on-ok}
use Rattle.machine.proofs.HeldSettle.{becomes-issued, says-issued}
use Rattle.machine.proofs.parts.Parts.issue.Goals as goal

pub returns-clause-state : goal.returns-clause-state
returns-clause-state c =
    on-ok c.make_call.result _ _
    (λ became. becomes-issued c.args.number c.args.outs.now (state_of c.args.self.now) c.args.self.now
    c.make_call.new.self became) c.make_call.ensures

pub returns-clause-outs : goal.returns-clause-outs
returns-clause-outs c =
    on-ok c.make_call.result _ _
    (λ became. says-issued c.args.number c.args.outs.now c.say_call.new.outs (state_of c.args.self.now)
    c.in_ok-say_call.ensures) c.make_call.ensures
