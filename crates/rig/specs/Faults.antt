-- Counts of faults.
use Rattle.std.specs.Prelude.{ℕ, ◌+◌, ◌≡◌, ◌≤◌, ◌⊎◌, min, max, Result, MatchResult}

-- a count of 64 bits with one more, which stays at its last value
abbrev pub one_more : ℕ → ℕ
one_more count = min (count + 1) (max count 18446744073709551615)

-- A count of 64 bits went up by one at least, or stands at its last value.
abbrev pub HasRisen : ℕ → ℕ → Type 0
HasRisen old new = one_more old ≤ new

-- how often the calls of a rig have failed
pub record Counts : Type 0 where
  pub disk_faults : ℕ  -- on the disk
  pub net_faults : ℕ  -- on the network
  pub starved : ℕ  -- on either, because the rig itself was out of memory

-- after a call on the disk that failed
abbrev pub after_disk_fault : Counts → Counts
after_disk_fault counts = record counts { disk_faults = one_more counts.disk_faults }

-- and after one that was out of memory
abbrev pub after_starving : Counts → Counts
after_starving counts = record (after_disk_fault counts) { starved = one_more counts.starved }

-- A call on the disk failed, and its fault was counted.
abbrev pub HasDiskFailed : Counts → Counts → Type 0
HasDiskFailed old new = (new ≡ after_disk_fault old) ⊎ (new ≡ after_starving old)

-- A call on the disk counts its fault exactly where it fails.
abbrev pub CountsDisk : {T E : Type 0} → Result T E → Counts → Counts → Type 0
CountsDisk result old new = MatchResult result (λ _. new ≡ old) (λ _. HasDiskFailed old new)
