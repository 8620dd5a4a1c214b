use Rattle.std.proofs.Common.{◌+◌, ◌≤◌, arith, get_or, length, Bor, List, ℕ, []}
use Rattle.sdk_call.proofs.Rooms.{parted-room}
use Rattle.sdk_call.proofs.room.events_room.Goals as goal

pub loop-event-preserved : goal.loop-event-preserved
loop-event-preserved c =
    let none : Bor (List ℕ) = record { ref_ptr = (0, 0); now = [] } in
    let size : ℕ = length (get_or c.args.events.now c.loop-event.event-index none).now in
    let same : size + 1 ≤ size + 1 = omega arith in
    let r = parted-room (λ (e : Bor (List ℕ)). e.now) c.args.events.now c.loop-event.event-index c.loop-event.room (size + 1) none c.loop-event-test.true c.loop-event.invariant same in
    omega (arith, r, c.in_ok-room.ensures, c.in_ok-checked_add.ensures)
