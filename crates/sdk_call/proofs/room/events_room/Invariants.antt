use Rattle.std.proofs.Common.{◌≤◌, length, map, take, Bor, List, ℕ}
use Rattle.sdk_call.specs.Body.{parted}
use Rattle.sdk_call.proofs.room.events_room.Given as goal

abbrev pub invariant-loop-event : goal.invariant-loop-event
invariant-loop-event l = length (parted (map (λ (e : Bor (List ℕ)). e.now) (take l.event-index l.events))) ≤ l.room
