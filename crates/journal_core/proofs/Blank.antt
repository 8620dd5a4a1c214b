-- A rig in memory whose file A is empty.
use Rattle.std.proofs.Common.{◌≡◌, [], ap, ◌∙◌}
use Rattle.rig.specs.MemoryRig.{MemoryRig, rig_tells}
use Rattle.rig.specs.Told.{WhereTold, reads_of}
use Rattle.rig.specs.declared.side.Side.TheVariants.{A}

pub blank_file : (rig : MemoryRig) → rig.a.bytes ≡ [] → WhereTold rig_tells rig (λ now. reads_of A now ≡ [])
blank_file rig empty history at_rig = ap (reads_of A) at_rig.1 ∙ empty
