-- A rig that tells nothing.
use Rattle.rig.specs.Disk.{IsSoundDisk}
use Rattle.rig.specs.MemoryRig.{MemoryRig}
use Rattle.rig.specs.Told.{History, HasOneNow, WhereTold}

abbrev pub tells_nothing : MemoryRig → History → Type 0
tells_nothing rig history = ⊥

pub silent_one_now : (rig : MemoryRig) → HasOneNow tells_nothing rig
silent_one_now rig h k at_h at_k = absurd at_h

pub silent_sound : (rig : MemoryRig) → WhereTold tells_nothing rig (λ now. IsSoundDisk now.disk)
silent_sound rig h at_h = absurd at_h
