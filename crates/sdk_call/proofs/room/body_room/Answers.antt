use Rattle.std.proofs.Common.{ap, arith, length, map, Bor, List, ℕ}
use Rattle.sdk_call.proofs.Rooms.{body-room}
use Rattle.sdk_call.proofs.room.body_room.Goals as goal

pub returns : goal.returns
returns c =
    let parts = c.args.parts.now in
    let r = body-room parts.run_id parts.attempt parts.planned (map (λ (e : Bor (List ℕ)). e.now) parts.events.now) parts.steps.now c.in_ok-context.context (length c.first_event-first.result.now) c.in_ok-events.events c.in_ok-steps.steps
    (c.in_ok-context.ensures parts.planned) (ap length c.first_event-first.ensures) c.in_ok-events.ensures c.in_ok-steps.ensures in
    omega (arith, r, c.in_ok-room.ensures, c.in_ok-texts.ensures, c.in_ok-checked_add.ensures, c.in_ok-checked_add-2.ensures)
