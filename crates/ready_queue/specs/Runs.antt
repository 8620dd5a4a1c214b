-- The runs of items.
use Rattle.std.specs.Prelude.{ℕ}
use Rattle.kinds.specs.declared.store.Item.{Item}

abbrev pub run_of : Item → ℕ
run_of item = item.run
