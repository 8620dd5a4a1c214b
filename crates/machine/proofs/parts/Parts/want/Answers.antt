use Rattle.machine.proofs.HeldRecording.{held-want}
use Rattle.machine.proofs.parts.Parts.want.Goals as goal

pub returns : goal.returns
returns c =
    held-want c.args.self.now c.args.run c.insert.new.self c.want.new.self c.want.ensures.live c.want.ensures.closing
    c.in_ok-insert.ensures c.requires.held
