use Rattle.machine.proofs.Told.{held-forgotten}
use Rattle.machine.proofs.parts.Parts.forget_invocation.Goals as goal

pub returns : goal.returns
returns c =
    held-forgotten c.args.self.now c.args.parent.now c.remove_of.new.self c.remove_of.ensures c.requires.held
