use Rattle.std.proofs.Common.{◌∙◌, ap}
use Rattle.cel_parse.specs.Frames.{frames_of}
use Rattle.cel_parse.proofs.Stacks.{frames-end}
use Rattle.cel_parse.proofs.frame.Stack.push.Goals as goal

pub returns : goal.returns
returns c = ap frames_of c.in_ok-push.ensures.items ∙ frames-end c.args.self.now.frames.items c.args.frame
