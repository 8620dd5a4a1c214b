use Rattle.std.proofs.Common.{arith, ◌≤◌, ◌∙◌, ap}
use Rattle.cel_parse.specs.Frames.{weight_of}
use Rattle.cel_parse.proofs.Stacks.{depth-step, weight-low}
use Rattle.cel_parse.proofs.frame.Stack.depth.Goals as goal

pub loop-frame-preserved : goal.loop-frame-preserved
loop-frame-preserved c =
    let inv = c.loop-frame.invariant in
    let e = c.weight-depth.ensures in
    let low = weight-low _ in
    let test = c.loop-frame-test.true in
    (depth-step _ c.loop-frame.frame-index _ _ c.frame-item.result test inv.0 (e ∙ ap weight_of c.frame-item.is), let k : c.weight-depth.result ≤ 1 = (rw e low) in let b = inv.1 in omega (arith, k, b))
