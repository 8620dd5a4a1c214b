-- Lists that their copies share.
use Rattle.std.specs.Prelude.{Option, Some, None, List, []}

-- an empty list takes no room
abbrev pub items_in : {X : Type 0} → Option (List X) → List X
items_in None = []
items_in (Some items) = items
