use Rattle.std.proofs.Common.{false, true}
use Rattle.machine.proofs.ViewLemmas.{at-most, not-most, refused-full, refused-runs}
use Rattle.machine.proofs.machine.Machine.check_room.Goals as goal

pub returns-then-kept-parts : goal.returns-then-kept-parts
returns-then-kept-parts c =
    refused-full c.parts-parts.result.now c.args.self.now c.kept-kept.result c.parts-parts.ensures.state c.kept-kept.ensures
    (at-most _ _ c.if-kept-parts.true)

pub returns-then-live-parts : goal.returns-then-live-parts
returns-then-live-parts c =
    refused-runs c.parts-parts.result.now c.args.self.now c.kept-kept.result c.live-live.result c.parts-parts.ensures.state
    c.kept-kept.ensures c.live-live.ensures (not-most _ _ c.if-kept-parts.false) true (at-most _ _ c.if-live-parts.true)

pub returns : goal.returns
returns c =
    refused-runs c.parts-parts.result.now c.args.self.now c.kept-kept.result c.live-live.result c.parts-parts.ensures.state
    c.kept-kept.ensures c.live-live.ensures (not-most _ _ c.if-kept-parts.false) false
    (not-most _ _ c.if-live-parts.false)
