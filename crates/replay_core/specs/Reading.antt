-- What is read of a source.
use Rattle.std.specs.Prelude.{◌≡◌, List, [], ◌++◌, ℕ, Option, Some}
use Rattle.rig.specs.Flow.{Flow, Incoming}

-- what was read and not run yet: the next line, as far as it was taken, and the bytes behind it
pub record Ahead : Type 0 where
  pub line : List ℕ
  pub unread : List ℕ

-- so much of what a source had left was read
pub record IsRead (old : Flow) (bytes : List ℕ) (new : Option Flow) : Type 0 where
  pub rest : List ℕ
  pub left : old.left ≡ bytes ++ rest
  pub flow : new ≡ Some (record { given = old.given ++ bytes; left = rest })

-- These bytes were read at once, where the source tells: none only at its end. No fault was counted.
pub record ReadsOn (bytes : List ℕ) (old new : Incoming) : Type 0 where
  pub faults : new.faults ≡ old.faults
  pub told : (flow : Flow) → old.flow ≡ Some flow → IsRead flow bytes new.flow
      × (bytes ≡ [] → flow.left ≡ [])
