use Rattle.std.proofs.Common.{subst}
use Rattle.std.specs.Vec.Iter.{into_iter_items}
use Rattle.machine.specs.Words.{when_of}
use Rattle.machine.proofs.HeldEvents.{IsWaking, waking-on}
use Rattle.machine.proofs.parts.Parts.wake_by.Goals as goal

pub end_wait_by-requires : goal.end_wait_by-requires
end_wait_by-requires g c = record { held = c.loop-wait.invariant.held }

pub loop-wait-preserved : goal.loop-wait-preserved
loop-wait-preserved g c =
    let d = when_of c.args.discovery in
    waking-on d c.args.number c.args.name.now c.in-Some.wait (into_iter_items c.next.new.self) c.args.self.now
    c.loop-wait.self c.end_wait_by.new.self
    (subst (λ left. IsWaking d c.args.number c.args.name.now left c.args.self.now c.loop-wait.self)
    c.in-Some.ensures.steps.0 c.loop-wait.invariant) c.in_ok-end_wait_by.ensures
