-- Items that are ready in their groups, and items that wait for their dues.
use Rattle.std.specs.Prelude.{◌≡◌, ◌⊎◌, ◌≤◌, ◌<◌, ℕ, Bool, true, List, Some, find}
use Rattle.std.specs.List.{list_any}
use Rattle.std.specs.BTreeMap.{is_at}
use Rattle.kinds.specs.Queue.{has_number, group_of}
use Rattle.kinds.specs.declared.store.Item.{Item}
use Rattle.lists.specs.Entries.{pair_cmp}
use Rattle.ready_queue.specs.Held.{Group, Groups, Held}
use Rattle.ready_queue.specs.Store.{lifted}

unfoldable pub has_pair : List (ℕ × ℕ) → ℕ → ℕ → Bool
has_pair pairs a b = list_any (is_at (pair_cmp (a, b))) pairs

pub record Pool : Type 0 where
  pub items : List Item
  pub ready : Groups
  pub waiting : List (ℕ × ℕ)
  pub horizon : ℕ
  pub clear : ℕ

-- an item of this number has this group and score, and is due by the horizon
pub record IsReady (items : List Item) (horizon : ℕ) (k : Group) (s n : ℕ) : Type 0 where
  pub item : Item
  pub found : find (has_number n) items ≡ Some item
  pub group : group_of item ≡ k
  pub score : lifted item.score ≡ s
  pub due : item.due ≤ horizon

-- an item of this number is due then
pub record IsLate (items : List Item) (d n : ℕ) : Type 0 where
  pub item : Item
  pub found : find (has_number n) items ≡ Some item
  pub due : item.due ≡ d

abbrev pub is_held : Held → Item → ℕ → Bool
is_held held item n = held (group_of item) (lifted item.score) n

-- What is ready is an item that is due by the horizon, what waits is an item that is due after the clear
-- moment, and each item is ready or waits.
pub record IsPool (items : List Item) (held : Held) (waiting : List (ℕ × ℕ))
    (horizon clear : ℕ) : Type 0 where
  pub ready : (k : Group) (s n : ℕ) → held k s n ≡ true → IsReady items horizon k s n
  pub kept : (n : ℕ) (item : Item) → find (has_number n) items ≡ Some item
      → (is_held held item n ≡ true) ⊎ (has_pair waiting item.due n ≡ true)
  pub waits : (d n : ℕ) → has_pair waiting d n ≡ true → IsLate items d n
  pub late : (d n : ℕ) → has_pair waiting d n ≡ true → clear < d
  pub near : clear ≤ horizon

abbrev pub NoneDue : List (ℕ × ℕ) → ℕ → Type 0
NoneDue waiting t = (d n : ℕ) → has_pair waiting d n ≡ true → t < d
