-- Which numbers a thing is mentioned by.
use Rattle.std.specs.Prelude.{◌≡◌, ℕ, ◌==◌, Bool, not, ◌&&◌, ◌||◌, List, map, filter}
use Rattle.std.specs.BTreeMap.{is_at}
use Rattle.std.specs.List.{list_any}
use Rattle.lists.specs.Entries.{pair_cmp}
use Rattle.runs.specs.Runs.{is_in}

-- the pair stands among others
abbrev pub mentions : List (ℕ × ℕ) → ℕ → ℕ → Bool
mentions pairs p n = list_any (is_at (pair_cmp (p, n))) pairs

-- the numbers that a thing is mentioned by
abbrev pub numbers_of : ℕ → List (ℕ × ℕ) → List ℕ
numbers_of p pairs = map (λ (q : ℕ × ℕ). q.1) (filter (λ (q : ℕ × ℕ). p == q.0) pairs)

-- the number mentions these from now on
pub record IsJoined (parts : List ℕ) (number : ℕ) (old new : List (ℕ × ℕ)) : Type 0 where
  pub each : (p n : ℕ) → mentions new p n ≡ ((is_in p parts && n == number) || mentions old p n)

-- the number mentions these no more
pub record IsParted (parts : List ℕ) (number : ℕ) (old new : List (ℕ × ℕ)) : Type 0 where
  pub each : (p n : ℕ) → mentions new p n ≡ (not (is_in p parts && n == number) && mentions old p n)

-- the pairs tell what each of the entries mentions
pub record IsTold {X : Type 0} (number : X → ℕ) (parts : X → List ℕ) (xs : List X) (pairs : List (ℕ × ℕ))
    : Type 0 where
  pub each : (p n : ℕ) → mentions pairs p n ≡ list_any (λ x. is_in p (parts x) && n == number x) xs
