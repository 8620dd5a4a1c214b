-- The first due item of each group.
use Rattle.std.specs.Prelude.{◌≡◌, ℕ, ℤ, ◌+◌, ◌≤◌, cond, Bool, not, ◌&&◌, List, [], ◌∷◌}
use Rattle.std.specs.Prelude.{Option, Some, None, nat_le, if◌then◌else◌}
use Rattle.std.specs.List.{list_any}
use Rattle.std.specs.Ordering.{int_cmp, nat_cmp, ordering_then, is_lt, is_gt}
use Rattle.std.specs.declared.cmp.Ordering.{Ordering}
use Rattle.kinds.specs.Queue.{item_cmp, same_group}
use Rattle.kinds.specs.declared.store.Item.{Item}

unfoldable pub has_lesser : ℕ → List Item → Item → Bool
has_lesser t items item = list_any (λ (other : Item).
    nat_le other.due t && (is_lt (item_cmp other item) && same_group other item)) items

-- the item is due, and no due item of its group comes before it
unfoldable pub leads : ℕ → List Item → Item → Bool
leads t items item = nat_le item.due t && not (has_lesser t items item)

abbrev pub rank : Item → ℤ × ℕ
rank item = (item.score, item.number)

abbrev pub rank_cmp : ℤ × ℕ → ℤ × ℕ → Ordering
rank_cmp a b = ordering_then (int_cmp a.0 b.0) (nat_cmp a.1 b.1)

-- the first of two, where there are two
abbrev pub joined : Option (ℤ × ℕ) → Option (ℤ × ℕ) → Option (ℤ × ℕ)
joined None o = o
joined (Some b) None = Some b
joined (Some b) (Some c) = if is_gt (rank_cmp b c) then Some c else Some b

unfoldable pub least_rank : (Item → Bool) → List Item → Option (ℤ × ℕ)
least_rank passes [] = None
least_rank passes (i ∷ is) =
    if passes i then joined (Some (rank i)) (least_rank passes is) else least_rank passes is

abbrev pub second : {A : Type 0} → Option (A × ℕ) → Option ℕ
second None = None
second (Some b) = Some b.1

-- what is found so far, after one more item
abbrev pub IsStep :
    (Item → Bool) → (Item → Bool) → Item → Option (ℤ × ℕ) → Option (ℤ × ℕ) → ℕ → ℕ → Type 0
IsStep heads passes item best new was now =
    (new ≡ (if heads item && passes item then joined best (Some (rank item)) else best))
    × (now ≤ was + cond (heads item) 1 0)
