use Rattle.std.proofs.Common.{ap, ◌∙◌}
use Rattle.rig.specs.MemoryRig.{MemoryRig}
use Rattle.journal_core.proofs.tests.with_fault.Goals as goal
use Rattle.journal_core.proofs.Blank.{blank_file}

pub open-requires : goal.open-requires
open-requires c = blank_file c.fail_at.new.self (ap (λ (r : MemoryRig). r.a.bytes) c.in_ok-fail_at.ensures.ok ∙ ap (λ (r : MemoryRig). r.a.bytes) c.in_ok-rig.ensures.value)
