use Rattle.machine.proofs.HeldMaking.{on-ok}
use Rattle.machine.proofs.Invoked.{becomes-awaited}
use Rattle.machine.proofs.parts.Parts.invoke_version.Goals as goal

pub returns : goal.returns
returns c =
    on-ok c.add_invocation.result _ _
    (λ became. becomes-awaited c.args.version c.args.run c.args.hash c.args.payload.now c.args.timeout
    c.in_ok-child.child c.args.self.now c.make_child.new.self c.add_invocation.new.self c.in_ok-child.ensures
    c.in_ok-make_child.ensures became) c.add_invocation.ensures
