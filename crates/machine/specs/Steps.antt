-- What a step does first, and what it does with the calls that were open.
use Rattle.std.specs.Prelude.{drop, Option}
use Rattle.std.specs.List.{slice_get}
use Rattle.std.specs.Option.{option_map}
use Rattle.kinds.specs.declared.store.Item.{Item}
use Rattle.run_model.specs.Fit.{item_of}
use Rattle.run_model.specs.State.{State}

-- the item of the open call of least number
abbrev pub first_item : State → Option Item
first_item s = option_map item_of (slice_get s.issues 0)

abbrev pub without_first : State → State
without_first s = record s { issues = drop 1 s.issues }

-- an item that is due now
abbrev pub due_now : Item → State → Item
due_now i s = record i { due = s.moment }
