-- The laws of a rig, of the rig in memory.
use Rattle.std.proofs.Common.{sym, ◌∙◌, subst}
use Rattle.rig.specs.Disk.{IsSoundDisk}
use Rattle.rig.specs.Told.{Moment, HasOneNow, WhereTold}
use Rattle.rig.specs.MemoryRig.{MemoryRig, rig_tells}

pub one_now_lem : (rig : MemoryRig) → HasOneNow rig_tells rig
one_now_lem rig h k at_h at_k = at_h.1 ∙ sym at_k.1

pub sound_lem : (rig : MemoryRig) → WhereTold rig_tells rig (λ now. IsSoundDisk now.disk)
sound_lem rig h at_h = subst (λ (m : Moment). IsSoundDisk m.disk) (sym at_h.1) at_h.2
