-- Items by their runs and targets.
use Rattle.std.specs.Prelude.{ℕ, ◌==◌, Bool, not, ◌&&◌, List, filter, bytes_eq}
use Rattle.kinds.specs.declared.store.Item.{Item}

abbrev pub is_item_of : ℕ → List ℕ → Item → Bool
is_item_of run target i = (run == i.run) && bytes_eq target i.target

abbrev pub without_item : ℕ → List ℕ → List Item → List Item
without_item run target items = filter (λ i. not (is_item_of run target i)) items
