-- The first item of the first group that isn't parked.
use Rattle.std.specs.Prelude.{◌≡◌, ℕ, true, List, Some, None, find}
use Rattle.kinds.specs.Queue.{has_number, group_of}
use Rattle.kinds.specs.declared.store.Item.{Item}
use Rattle.ready_queue.specs.Held.{Group, Groups, holds, IsParked}
use Rattle.ready_queue.specs.Keys.{has}
use Rattle.ready_queue.specs.Places.{Indexed, place_at}

-- a key has this number, and its group has a place
pub record IsFrontAt (i : Indexed) (n : ℕ) : Type 0 where
  pub group : ℕ
  pub score : ℕ
  pub key : has i.keys group score n ≡ true
  pub placed : place_at group i.places ≡ None → ⊥

-- a group that isn't parked holds this number
pub record IsFrontHeld (gs : Groups) (n : ℕ) : Type 0 where
  pub group : Group
  pub score : ℕ
  pub here : holds gs.held group score n ≡ true
  pub waits : IsParked gs group → ⊥

-- each group that holds anything is parked
abbrev pub AllParked : Groups → Type 0
AllParked gs = (k : Group) (s n : ℕ) → holds gs.held k s n ≡ true → IsParked gs k

-- the item is of a group that isn't parked
pub record IsFront (items : List Item) (ready : Groups) (i : Item) : Type 0 where
  pub number : ℕ
  pub found : find (has_number number) items ≡ Some i
  pub waits : IsParked ready (group_of i) → ⊥
