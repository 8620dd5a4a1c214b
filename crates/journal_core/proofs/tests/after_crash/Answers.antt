use Rattle.std.proofs.Common.{ap, ◌∙◌}
use Rattle.rig.specs.MemoryRig.{MemoryRig}
use Rattle.journal_core.proofs.tests.after_crash.Goals as goal
use Rattle.journal_core.proofs.Blank.{blank_file}

pub open-requires : goal.open-requires
open-requires c = blank_file c.stop_at.new.self (ap (λ (r : MemoryRig). r.a.bytes) c.stop_at.ensures ∙ ap (λ (r : MemoryRig). r.a.bytes) c.in_ok-rig.ensures.value)
