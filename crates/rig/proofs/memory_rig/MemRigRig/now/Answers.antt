use Rattle.std.proofs.Common.{nat_lt}
use Rattle.rig.specs.MemoryRig.{next_reading}
use Rattle.rig.proofs.MemoryRigSteps.{rig_reads_clock}
use Rattle.rig.proofs.memory_rig.MemRigRig.now.Goals as goal

pub returns-clause-told : goal.returns-clause-told
returns-clause-told c =
    let rig = c.args.self.now in
    rw (c.read_clock.ensures.left, c.read_clock.ensures.reading)
    (rig_reads_clock (nat_lt 0 rig.room) (next_reading rig.readings rig.last) rig)
