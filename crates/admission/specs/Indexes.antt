-- Sets of what is found by run and target, and by due and number.
use Rattle.std.specs.Prelude.{◌≡◌, ℕ, ◌+◌, ◌*◌, ◌%◌, ◌^◌, Bool, false, true, not, bytes_eq}
use Rattle.std.specs.Prelude.{List, filter, fold, find, Option, Some, None}
use Rattle.std.specs.BTreeMap.{is_at}
use Rattle.std.specs.BTreeMap.Range.{range_contains}
use Rattle.std.specs.declared.ops.Bound.TheVariants.{Included, Excluded}
use Rattle.std.specs.List.{list_any, AllByRecursion}
use Rattle.kinds.specs.Cells.{IsStart}
use Rattle.kinds.specs.Queue.{number_of, has_number, without_number}
use Rattle.kinds.specs.declared.store.Item.{Item}
use Rattle.lists.specs.Entries.{pair_cmp}
use Rattle.ordered.specs.Indexes.{group_cmp, IsListed}
use Rattle.admission.specs.declared.issue.Issue.{Issue}

-- a number that stands for the bytes of a target; others may have the same
unfoldable pub digest : List ℕ → ℕ
digest target = fold (λ sum byte. ((sum * 31) % 2 ^ 32 + byte) % 2 ^ 32) 0 target

abbrev pub Keys : Type 0
Keys = List ((ℕ × ℕ) × ℕ)

unfoldable pub has_key : Keys → ℕ × ℕ → ℕ → Bool
has_key keys part n = list_any (is_at (group_cmp pair_cmp (part, n))) keys

-- the keys of a part, as a range of the set gives them
abbrev pub is_within : ℕ → ℕ → (ℕ × ℕ) × ℕ → Bool
is_within a b key =
    range_contains (group_cmp pair_cmp) (Included ((a, b), 0)) (Excluded ((a, b + 1), 0)) key

abbrev pub keys_of : ℕ → ℕ → Keys → Keys
keys_of a b keys = filter (is_within a b) keys

abbrev pub place_of : Item → ℕ × ℕ
place_of i = (i.run, digest i.target)

abbrev pub issue_place : Issue → ℕ × ℕ
issue_place i = place_of i.item

abbrev pub limit_key : Issue → ℕ × ℕ
limit_key i = (i.due, i.limit)

abbrev pub is_target : List ℕ → Option Item → Bool
is_target target None = false
is_target target (Some i) = bytes_eq target i.target

abbrev pub item_in : Option Issue → Option Item
item_in None = None
item_in (Some i) = Some i.item

abbrev pub without : (Item → Bool) → List Item → List Item
without passes items = filter (λ i. not (passes i)) items

-- the items are found by run and target, and wait for starts of throttles
pub record IsWaiting (items : List Item) (places : Keys) : Type 0 where
  pub listed : IsListed pair_cmp place_of number_of items places
  pub starts : AllByRecursion (λ (i : Item). IsStart i.start) items

-- the item of this number passes, so that dropping it first drops nothing else that a drop of all that
-- pass leaves
pub record IsIn (passes : Item → Bool) (n : ℕ) (items : List Item) : Type 0 where
  pub item : Item
  pub found : find (has_number n) items ≡ Some item
  pub passing : passes item ≡ true
  pub rest : without passes (without_number n items) ≡ without passes items
