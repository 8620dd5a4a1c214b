use Rattle.machine.proofs.NextHeld.{all-discovered}
use Rattle.machine.proofs.parts.Parts.discover.Goals as goal

pub returns-clause-now : goal.returns-clause-now
returns-clause-now c =
    all-discovered c.args.self.now c.loop.self c.discover_next.new.self c.in_ok-discover_next.field-0 c.if-branch.false
    c.in_ok-discover_next.ensures c.loop.invariant.same c.loop.invariant.held c.loop.invariant.clock c.requires.held
