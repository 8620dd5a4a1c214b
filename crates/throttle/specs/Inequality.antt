-- The entries beside the lists of starts that they stand for.
use Rattle.std.specs.Prelude.{◌≡◌, ℕ, Bool, List, [], ◌∷◌, ◌++◌}
use Rattle.kinds.specs.Cells.{lets_start, put_start, StandsFor}
use Rattle.kinds.specs.declared.cell.Cell.{Cell}
use Rattle.kinds.specs.declared.cell.StartEntry.{StartEntry}

-- the answer is the inequality's over each list of starts that the cell may have had
abbrev pub FollowsInequality : List StartEntry → Cell → ℕ → Bool → Type 0
FollowsInequality entries cell t answer =
    (starts : List ℕ) → StandsFor entries cell starts → answer ≡ lets_start cell starts t

-- whatever starts the cell may have had, it now may have had one more
abbrev pub StandsForOneMore : List StartEntry → List StartEntry → Cell → ℕ → Type 0
StandsForOneMore old new cell t =
    (starts : List ℕ) → StandsFor old cell starts → StandsFor new cell (starts ++ t ∷ [])

abbrev pub put_greatest : Cell → ℕ → List StartEntry → List StartEntry
put_greatest cell greatest entries = put_start (record { cell = cell; greatest = greatest }) entries
