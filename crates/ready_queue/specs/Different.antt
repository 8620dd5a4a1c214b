-- How many different groups a list of their numbers has.
use Rattle.std.specs.Prelude.{◌≡◌, ℕ, ◌+◌, ◌==◌, Bool, true, cond, List, [], ◌∷◌}
use Rattle.std.specs.List.{list_any}
use Rattle.ready_queue.specs.Keys.{has}

unfoldable pub has_group : ℕ → List ℕ → Bool
has_group g gs = list_any (λ x. x == g) gs

-- the groups that none after them equals
unfoldable pub different : List ℕ → ℕ
different [] = 0
different (g ∷ gs) = cond (has_group g gs) 0 1 + different gs

-- the list has each key's group
abbrev pub HasGroups : List ℕ → List (ℕ × ℕ × ℕ) → Type 0
HasGroups gs keys = (g s n : ℕ) → has keys g s n ≡ true → has_group g gs ≡ true
