-- Sets of numbers, by what is in them.
use Rattle.std.specs.Prelude.{ℕ, ◌≡◌, ◌≤◌, Bool, true, false, cond, List, [], ◌∷◌, Option, Some, None}
use Rattle.std.specs.BTreeMap.{is_at}
use Rattle.std.specs.List.{AllByRecursion, list_any}
use Rattle.std.specs.Ordering.{nat_cmp}
use Rattle.machine.specs.declared.loose.Loose.{Loose}

abbrev pub has_number : List ℕ → ℕ → Bool
has_number ns n = list_any (is_at (nat_cmp n)) ns

-- all that was there is there still
abbrev pub Keeps : List ℕ → List ℕ → Type 0
Keeps old new = (n : ℕ) → has_number old n ≡ true → has_number new n ≡ true

-- one number more is there
pub record IsJoined (n : ℕ) (old new : List ℕ) : Type 0 where
  pub there : has_number new n ≡ true
  pub kept : Keeps old new

-- one number more is there, where there is one
abbrev pub IsJoinedBy : Option ℕ → List ℕ → List ℕ → Type 0
IsJoinedBy None old new = new ≡ old
IsJoinedBy (Some n) old new = IsJoined n old new

-- these are there too
pub record AreJoined (ns old new : List ℕ) : Type 0 where
  pub there : AllByRecursion (λ n. has_number new n ≡ true) ns
  pub kept : Keeps old new

-- nothing was touched
abbrev pub nothing : Loose
nothing = record { runs = []; events = []; versions = [] }

-- what a run's version and its events add to what a step touched
pub record IsTouched (version : ℕ) (named : List ℕ) (old new : Loose) : Type 0 where
  pub runs : new.runs ≡ old.runs
  pub events : AreJoined named old.events new.events
  pub versions : IsJoined version old.versions new.versions

-- the least was taken out
pub record IsTaken (n : ℕ) (old new : List ℕ) : Type 0 where
  pub first : old ≡ n ∷ new
  pub least : (k : ℕ) → has_number old k ≡ true → n ≤ k
  pub left : (k : ℕ) → has_number new k ≡ cond (is_at (nat_cmp n) k) false (has_number old k)

-- the least was taken out, or there was none
abbrev pub IsRest : Option ℕ → List ℕ → List ℕ → Type 0
IsRest None old new = (old ≡ []) × (new ≡ [])
IsRest (Some n) old new = IsTaken n old new
