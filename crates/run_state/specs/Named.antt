-- What the indexes of a run's steps hold.
use Rattle.std.specs.Prelude.{◌≡◌, ◌≤◌, ℕ, suc, Bool, true, false, List, [], ◌∷◌, Option, Some}
use Rattle.std.specs.Prelude.{None, ◌||◌, nat_lt, find, if◌then◌else◌}
use Rattle.std.specs.BTreeMap.{is_at}
use Rattle.std.specs.Cmp.Lexicographic.{slice_cmp}
use Rattle.std.specs.Map.{lookup}
use Rattle.std.specs.Option.{option_map}
use Rattle.std.specs.Ordering.{nat_cmp}
use Rattle.kinds.specs.RunSteps.{RunSteps, has_name, is_recorded, is_planned, is_pending, names}
use Rattle.kinds.specs.RunSteps.{most_names}
use Rattle.kinds.specs.declared.store.Pending.{Pending}
use Rattle.kinds.specs.declared.store.StepEntry.{StepEntry}

abbrev pub steps_from : List StepEntry → List (List ℕ) → List (List ℕ × Pending) → RunSteps
steps_from recorded planned pending =
    record { recorded = recorded; planned = planned; pending = pending }

-- where a name stands among the recorded steps
abbrev pub place_of : List ℕ → List StepEntry → Option ℕ
place_of name [] = None
place_of name (e ∷ es) = if has_name name e then Some 0 else option_map suc (place_of name es)

-- the name has a place among the run's names, or there is room for it
abbrev pub has_place : List ℕ → RunSteps → Bool
has_place name s = is_planned name s || is_pending name s || nat_lt (names s) most_names

-- no name is recorded twice
abbrev pub AreOnce : List StepEntry → Type 0
AreOnce [] = Unit {0}
AreOnce (e ∷ es) = (find (has_name e.hash) es ≡ None) × AreOnce es

-- A name has one state at most, and a run has at most 1,000 names.
pub record AreApart (s : RunSteps) : Type 0 where
  pub recorded : AreOnce s.recorded
  pub planned : (name : List ℕ) → is_planned name s ≡ true → is_recorded name s ≡ false
  pub pending : (name : List ℕ) → is_pending name s ≡ true → is_recorded name s ≡ false
  pub waiting : (name : List ℕ) → is_pending name s ≡ true → is_planned name s ≡ false
  pub few : names s ≤ most_names

abbrev pub place_in : List ℕ → List (List ℕ × ℕ) → Option ℕ
place_in name places = lookup (is_at (slice_cmp nat_cmp name)) places

-- a map has the place of each recorded name
pub record IsNamed (s : RunSteps) (places : List (List ℕ × ℕ)) : Type 0 where
  pub apart : AreApart s
  pub placed : (name : List ℕ) → place_in name places ≡ place_of name s.recorded
