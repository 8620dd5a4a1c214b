use Rattle.std.proofs.Common.{subst}
use Rattle.rig.specs.MemoryRig.{LeavesImage}
use Rattle.rig.proofs.MemoryFiles.{image_of-allowed}
use Rattle.rig.proofs.memory_rig.MemRig.restart.Goals as goal

pub returns-in_err-a-clause-allowed : goal.returns-in_err-a-clause-allowed
returns-in_err-a-clause-allowed c =
    subst (LeavesImage c.args.image) c.self.view_is
    (record { a = image_of-allowed c.args.image c.self.inside.a c.self.invariant.1; b = image_of-allowed c.args.image c.self.inside.b c.self.invariant.2 })

pub returns-in_err-b-clause-allowed : goal.returns-in_err-b-clause-allowed
returns-in_err-b-clause-allowed c =
    subst (LeavesImage c.args.image) c.self.view_is
    (record { a = image_of-allowed c.args.image c.self.inside.a c.self.invariant.1; b = image_of-allowed c.args.image c.self.inside.b c.self.invariant.2 })

pub returns-clause-allowed : goal.returns-clause-allowed
returns-clause-allowed c =
    subst (LeavesImage c.args.image) c.self.view_is
    (record { a = image_of-allowed c.args.image c.self.inside.a c.self.invariant.1; b = image_of-allowed c.args.image c.self.inside.b c.self.invariant.2 })
