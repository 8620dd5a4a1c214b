use Rattle.std.proofs.Common.{refl}
use Rattle.rig.specs.Told.{Stays}
use Rattle.rig.proofs.MemoryRigSteps.{rig_stays}
use Rattle.rig.proofs.memory_rig.MemRigRig.rest.Goals as goal

pub returns-clause-told : goal.returns-clause-told
returns-clause-told c = rig_stays c.args.self.now Stays refl
