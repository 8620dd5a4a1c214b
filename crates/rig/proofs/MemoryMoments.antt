-- What was told of calls on a rig in memory, as a fact of its values.
use Rattle.std.proofs.Common.{◌≡◌, [], true, refl}
use Rattle.rig.specs.Disk.{IsSoundDisk}
use Rattle.rig.specs.MemoryRig.{MemoryRig, rig_tells, moment_of, disk_of}
use Rattle.rig.specs.Told.{History, GoesOn, StillTells}

-- A step was made from a history that ends at the old value's moment to one that ends at the new value's.
pub record TookPlace (old new : MemoryRig) (step : History → History → Type 0) : Type 0 where
  pub telling : new.telling ≡ true
  pub sound : IsSoundDisk (disk_of new)
  pub before : History
  pub after : History
  pub was : before.now ≡ moment_of old
  pub is : after.now ≡ moment_of new
  pub went : step before after

pub took_place : (old new : MemoryRig) (step : History → History → Type 0) → old.telling ≡ true → IsSoundDisk (disk_of old) → StillTells rig_tells old new → GoesOn rig_tells old new step → TookPlace old new step
took_place old new step telling sound still goes =
    let first : History = record { now = moment_of old; past = [] } in
    let told = still first (telling, refl, sound) in
    let later = goes.each first (telling, refl, sound) told.0 told.1 in
    record { telling = later.1.0; sound = later.1.2; before = first; after = later.0; was = refl; is = later.1.1; went = later.2 }
