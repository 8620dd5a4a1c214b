use Rattle.std.proofs.Common.{ap}
use Rattle.rig.specs.MemoryRig.{MemoryRig}
use Rattle.journal_core.proofs.tests.records_stand_one_behind_another.Goals as goal
use Rattle.journal_core.proofs.Blank.{blank_file}

pub open-requires : goal.open-requires
open-requires g c = blank_file c.in_ok-rig.rig (ap (λ (r : MemoryRig). r.a.bytes) c.in_ok-rig.ensures.value)
