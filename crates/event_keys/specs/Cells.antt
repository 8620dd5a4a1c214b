-- The cells of a run, from its function and the text of its first event: those that its calls count in,
-- with their limits, and the one in which its start counts.
use Rattle.std.specs.Prelude.{ℕ, List, [], ◌∷◌, ◌++◌, min, Option, if◌then◌else◌}
use Rattle.std.specs.Option.{option_map}
use Rattle.kinds.specs.Cells.{has_cell, is_cell}
use Rattle.kinds.specs.declared.cell.Cell.{Cell}
use Rattle.kinds.specs.declared.cell.Cell.TheVariants as cell
use Rattle.kinds.specs.declared.cell.CellLimit.{CellLimit}
use Rattle.kinds.specs.declared.function.Function.{Function}
use Rattle.kinds.specs.declared.function.Limit.{Limit}
use Rattle.kinds.specs.declared.function.Scope.{Scope}
use Rattle.kinds.specs.declared.function.Scope.TheVariants as scope
use Rattle.kinds.specs.declared.function.Throttle.{Throttle}
use Rattle.event_keys.specs.Expressions.{key_value}

-- ## Concurrency

abbrev pub cell_with : Scope → List ℕ → ℕ → List ℕ → Cell
cell_with scope.Own function place value = cell.Own function place value
cell_with scope.Env function place value = cell.Env value
cell_with scope.Account function place value = cell.Account value

abbrev pub cell_of : List ℕ → List ℕ → Limit → Cell
cell_of function event l = cell_with l.scope function l.place (key_value l.key event)

abbrev pub lesser_at : CellLimit → CellLimit → CellLimit
lesser_at l other =
    if is_cell l.cell other.cell then record other { limit = min l.limit other.limit } else other

abbrev pub lowered : CellLimit → List CellLimit → List CellLimit
lowered l [] = []
lowered l (other ∷ others) = lesser_at l other ∷ lowered l others

-- A cell stands once, with the lesser limit.
abbrev pub with_limit : List CellLimit → CellLimit → List CellLimit
with_limit ls l = if has_cell l.cell ls then lowered l ls else ls ++ l ∷ []

abbrev pub cells_with : List ℕ → List ℕ → List CellLimit → List Limit → List CellLimit
cells_with function event ls [] = ls
cells_with function event ls (l ∷ rest) =
    cells_with function event
    (with_limit ls (record { cell = cell_of function event l; limit = l.limit })) rest

abbrev pub cells_of : Function → List ℕ → List CellLimit
cells_of f event = cells_with f.id event [] f.limits

-- ## The throttle

abbrev pub throttle_cell : List ℕ → List ℕ → Throttle → Cell
throttle_cell function event t =
    cell.Throttle function t.limit t.period t.burst t.key (key_value t.key event)

abbrev pub start_of : Function → List ℕ → Option Cell
start_of f event = option_map (throttle_cell f.id event) f.throttle
