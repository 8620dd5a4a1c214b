-- Keys of group, score and number, and which of them is the least of its group, or of those that are
-- open. Groups have numbers here, and scores are counted from the least that there is.
use Rattle.std.specs.Prelude.{◌≡◌, ◌⊎◌, ℕ, cond, ◌==◌, nat_lt, nat_le, Bool, true, false, ◌&&◌, ◌||◌}
use Rattle.std.specs.Prelude.{List, Option, Some, None, MatchOption}
use Rattle.std.specs.List.{list_any}
use Rattle.std.specs.BTreeMap.{is_at}
use Rattle.std.specs.Ordering.{nat_cmp, ordering_then}
use Rattle.std.specs.declared.cmp.Ordering.{Ordering}

abbrev pub key_cmp : ℕ × ℕ × ℕ → ℕ × ℕ × ℕ → Ordering
key_cmp a b = ordering_then (ordering_then (nat_cmp a.0 b.0) (nat_cmp a.1 b.1)) (nat_cmp a.2 b.2)

-- whether the set has a key
unfoldable pub has : List (ℕ × ℕ × ℕ) → ℕ → ℕ → ℕ → Bool
has keys a b c = list_any (is_at (key_cmp (a, b, c))) keys

-- the first (score, number) isn't after the second
unfoldable pub at_most : ℕ × ℕ → ℕ × ℕ → Bool
at_most a b = nat_lt a.0 b.0 || (a.0 == b.0 && nat_le a.1 b.1)

-- h is the least of a group
abbrev pub IsHeadAt : List (ℕ × ℕ × ℕ) → ℕ → ℕ × ℕ → Type 0
IsHeadAt keys g h =
    (has keys g h.0 h.1 ≡ true) × ((s n : ℕ) → has keys g s n ≡ true → at_most h (s, n) ≡ true)

abbrev pub IsHead : List (ℕ × ℕ × ℕ) → ℕ → Option (ℕ × ℕ) → Type 0
IsHead keys g r = MatchOption r ((s n : ℕ) → has keys g s n ≡ false) (IsHeadAt keys g)

-- ---- which are open, by their numbers

-- the keys of one group are all open or all closed
abbrev pub AreAlike : (ℕ → Bool) → List (ℕ × ℕ × ℕ) → Type 0
AreAlike open_at keys =
    (g s n r m : ℕ) → has keys g s n ≡ true → has keys g r m ≡ true → open_at n ≡ open_at m

-- the pair is an open key's
abbrev pub IsOpenKey : (ℕ → Bool) → List (ℕ × ℕ × ℕ) → ℕ × ℕ → Type 0
IsOpenKey open_at keys b = (g : ℕ) × (has keys g b.0 b.1 ≡ true) × (open_at b.1 ≡ true)

-- what was found so far is at most this
abbrev pub IsUpTo : Option (ℕ × ℕ) → ℕ × ℕ → Type 0
IsUpTo None x = ⊥
IsUpTo (Some b) x = at_most b x ≡ true

-- nothing from an entry on comes before what was found
abbrev pub stops : Option (ℕ × ℕ) → ℕ × ℕ → Bool
stops None x = false
stops (Some b) x = at_most b x

abbrev pub IsSound : (ℕ → Bool) → List (ℕ × ℕ × ℕ) → Option (ℕ × ℕ) → Type 0
IsSound open_at keys None = Unit {0}
IsSound open_at keys (Some b) = IsOpenKey open_at keys b

-- One look at a group: what was sound stays so, what was within stays so, and the group's open keys are
-- within.
pub record IsLooked (open_at : ℕ → Bool) (keys : List (ℕ × ℕ × ℕ)) (g : ℕ)
    (old new : Option (ℕ × ℕ)) : Type 0 where
  pub sound : IsSound open_at keys old → IsSound open_at keys new
  pub kept : (x : ℕ × ℕ) → IsUpTo old x → IsUpTo new x
  pub within : (s n : ℕ) → has keys g s n ≡ true → open_at n ≡ true → IsUpTo new (s, n)

-- the least open key
pub record IsLeastOpen (open_at : ℕ → Bool) (keys : List (ℕ × ℕ × ℕ)) (r : Option (ℕ × ℕ)) : Type 0 where
  pub sound : IsSound open_at keys r
  pub least : (g s n : ℕ) → has keys g s n ≡ true → open_at n ≡ true → IsUpTo r (s, n)

-- an entry of this group that isn't after the pair
abbrev pub IsLed : List (ℕ × ℕ × ℕ) → ℕ → ℕ → ℕ → Type 0
IsLed entries g s n = (p : ℕ) × (m : ℕ) × (has entries p m g ≡ true) × (at_most (p, m) (s, n) ≡ true)

-- each open key has an entry that isn't after it
abbrev pub Lead : (ℕ → Bool) → List (ℕ × ℕ × ℕ) → List (ℕ × ℕ × ℕ) → Type 0
Lead open_at entries keys = (g s n : ℕ) → has keys g s n ≡ true → open_at n ≡ true → IsLed entries g s n

-- one key came or went
unfoldable pub Changes : ℕ → ℕ → ℕ → Bool → List (ℕ × ℕ × ℕ) → List (ℕ × ℕ × ℕ) → Type 0
Changes p m g b old new =
    (q : ℕ × ℕ × ℕ) → list_any (is_at (key_cmp q)) new
    ≡ cond (is_at (key_cmp (p, m, g)) q) b (list_any (is_at (key_cmp q)) old)
