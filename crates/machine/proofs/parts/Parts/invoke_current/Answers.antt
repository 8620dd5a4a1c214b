use Rattle.machine.proofs.HeldMaking.{on-ok}
use Rattle.machine.proofs.Invoked.{becomes-current, becomes-unknown}
use Rattle.machine.proofs.parts.Parts.invoke_current.Goals as goal

pub returns-in-Some : goal.returns-in-Some
returns-in-Some c =
    on-ok c.invoke_version.result _ _
    (λ became. becomes-current c.args.function.now c.args.run c.args.hash c.args.payload.now c.args.timeout
    c.in-Some.version c.args.self.now c.invoke_version.new.self c.requires.held c.in-Some.ensures became)
    c.invoke_version.ensures

pub returns-in-None : goal.returns-in-None
returns-in-None c =
    on-ok c.refuse_invocation.result _ _
    (λ became. becomes-unknown c.args.function.now c.args.run c.args.hash c.args.payload.now c.args.timeout
    c.args.self.now c.refuse_invocation.new.self c.in-None.ensures became) c.refuse_invocation.ensures
