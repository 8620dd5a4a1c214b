-- What the examples' matcher says, and the entries that it is right about.
use Rattle.std.specs.Prelude.{◌≡◌, ℕ, ◌==◌, false, List, Some, decimal}
use Rattle.std.specs.List.{AllByRecursion}
use Rattle.kinds.specs.declared.event.Event.{Event}
use Rattle.kinds.specs.Stores.{Condition, Truth, Values, is_hidden}

-- the fresh event has the number of the first one
abbrev pub is_own : Truth
is_own expr first fresh = first == fresh.number

-- one value at each path of each event
abbrev pub given : List ℕ → Values
given value event path = Some value

-- In no event whose value is its number is a condition hidden.
abbrev pub OnOwn : Condition → Type 0
OnOwn c = (event : Event) → is_hidden is_own (given (decimal event.number)) event c ≡ false

abbrev pub AreOnOwn : {X : Type 0} → (X → Condition) → List X → Type 0
AreOnOwn condition es = AllByRecursion (λ e. OnOwn (condition e)) es
