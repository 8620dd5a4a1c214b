use Rattle.cel_parse.specs.Frames.{open_in}
use Rattle.cel_parse.proofs.step.step.Goals as goal

pub returns-in-BehindDot : goal.returns-in-BehindDot
returns-in-BehindDot c = rw c.in-BehindDot.is (c.step_dot.ensures (open_in c.args.stack.now))
