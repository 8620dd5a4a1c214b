-- Cells: which open issues count in one, and when a throttle lets a run start.
use Rattle.std.specs.Prelude.{◌≡◌, ℕ, ◌+◌, ◌-◌, ◌*◌, ◌/◌, ◌<◌, ◌≤◌, Bool, true, not, ◌&&◌, List, [], ◌∷◌, length, filter, find, Option, Some, None, nat_lt, nat_le, ◌==◌, if◌then◌else◌, max}
use Rattle.std.specs.List.{list_any}
use Rattle.std.specs.BTreeMap.{is_at}
use Rattle.std.specs.Ordering.{match_ordering}
use Rattle.std.specs.declared.cmp.Ordering.{Ordering}
use Rattle.kinds.specs.contracts.cell.CellOrd.TheImpl as cell_order
pub use Rattle.kinds.specs.Moments.{last_moment}
use Rattle.kinds.specs.declared.cell.Cell.{Cell}
use Rattle.kinds.specs.declared.cell.Cell.TheVariants.{Own, Env, Account, Throttle}
use Rattle.kinds.specs.declared.cell.CellLimit.{CellLimit}
use Rattle.kinds.specs.declared.cell.IssueEntry.{IssueEntry}
use Rattle.kinds.specs.declared.cell.StartEntry.{StartEntry}

-- by kind and then by the fields in order: numbers, bytes as in dictionaries, an absent key before any other
abbrev pub cell_cmp : Cell → Cell → Ordering
cell_cmp = cell_order.ghosts.cmp

abbrev pub is_cell : Cell → Cell → Bool
is_cell cell other = is_at (cell_cmp cell) other

-- ---- issues

abbrev pub has_cell : Cell → List CellLimit → Bool
has_cell cell limits = list_any (λ (l : CellLimit). is_cell cell l.cell) limits

abbrev pub counts_in : Cell → IssueEntry → Bool
counts_in cell entry = has_cell cell entry.cells

-- how many open issues have the cell, each once
abbrev pub open_in : Cell → List IssueEntry → ℕ
open_in cell issues = length (filter (counts_in cell) issues)

-- as many issues are open in the cell as its limit, or more
abbrev pub is_full : List IssueEntry → CellLimit → Bool
is_full issues l = nat_le l.limit (open_in l.cell issues)

-- none of the cells is full
abbrev pub are_free : List CellLimit → List IssueEntry → Bool
are_free limits issues = not (list_any (is_full issues) limits)

abbrev pub has_issue : ℕ → IssueEntry → Bool
has_issue issue entry = issue == entry.issue

abbrev pub without_issue : ℕ → List IssueEntry → List IssueEntry
without_issue issue issues = filter (λ e. not (has_issue issue e)) issues

-- the entry in its place, where entries stand by the numbers of their issues
abbrev pub insert_issue : IssueEntry → List IssueEntry → List IssueEntry
insert_issue entry [] = entry ∷ []
insert_issue entry (e ∷ es) =
    if nat_lt entry.issue e.issue then entry ∷ e ∷ es else e ∷ insert_issue entry es

-- ---- throttles

-- a throttle's cell whose limit, period and burst are in their ranges
abbrev pub IsThrottle : Cell → Type 0
IsThrottle (Own function place value) = ⊥
IsThrottle (Env value) = ⊥
IsThrottle (Account value) = ⊥
IsThrottle (Throttle function limit period burst key value) =
    (0 < limit) × (limit ≤ 1000000) × (0 < period) × (period ≤ 31622400000) × (0 < burst)
    × (burst ≤ 1000000)

abbrev pub IsStart : Option Cell → Type 0
IsStart None = Unit {0}
IsStart (Some cell) = IsThrottle cell

-- the time between two starts: the period divided by the limit, rounded up
abbrev pub spacing : Cell → ℕ
spacing (Own function place value) = 0
spacing (Env value) = 0
spacing (Account value) = 0
spacing (Throttle function limit period burst key value) = (period + (limit - 1)) / limit

-- how far ahead of its spacing a cell may run: that of all starts of a burst but one
abbrev pub slack : Cell → ℕ
slack (Own function place value) = 0
slack (Env value) = 0
slack (Account value) = 0
slack (Throttle function limit period burst key value) = (burst - 1) * ((period + (limit - 1)) / limit)

-- For each earlier start s, `m * spacing ≤ (t - s) + slack`, where m counts the starts from s on, s included. Here s
-- stands on the left.
abbrev pub lets_start : Cell → List ℕ → ℕ → Bool
lets_start cell [] t = true
lets_start cell (s ∷ later) t =
    nat_le (s + (1 + length later) * spacing cell) (t + slack cell) && lets_start cell later t

-- the greatest `s + m * spacing` over the starts
abbrev pub greatest_of : Cell → List ℕ → ℕ
greatest_of cell [] = 0
greatest_of cell (s ∷ later) = max (s + (1 + length later) * spacing cell) (greatest_of cell later)

abbrev pub has_start : Cell → StartEntry → Bool
has_start cell entry = is_cell cell entry.cell

abbrev pub greatest_in : Option StartEntry → ℕ
greatest_in None = 0
greatest_in (Some entry) = entry.greatest

-- the greatest of the cell's entry, and 0 where it has none
abbrev pub greatest_at : Cell → List StartEntry → ℕ
greatest_at cell entries = greatest_in (find (has_start cell) entries)

abbrev pub is_allowed : Cell → ℕ → List StartEntry → Bool
is_allowed cell t entries = nat_le (greatest_at cell entries) (t + slack cell)

-- the least moment at which the cell lets a run start
abbrev pub release_moment : Cell → List StartEntry → ℕ
release_moment cell entries = greatest_at cell entries - slack cell

-- where there is a throttle, it lets the run start
abbrev pub may_start : Option Cell → ℕ → List StartEntry → Bool
may_start None t entries = true
may_start (Some cell) t entries = is_allowed cell t entries

-- the starts of a cell may have been these
abbrev pub StandsFor : List StartEntry → Cell → List ℕ → Type 0
StandsFor entries cell starts = greatest_of cell starts ≡ greatest_at cell entries

-- the entry in its place, where entries stand by their cells, or in the place of the one of its cell
abbrev pub put_start : StartEntry → List StartEntry → List StartEntry
put_start entry [] = entry ∷ []
put_start entry (e ∷ es) =
    match_ordering (cell_cmp entry.cell e.cell) (entry ∷ e ∷ es) (entry ∷ es) (e ∷ put_start entry es)

-- a run starts
abbrev pub after_start : Cell → ℕ → List StartEntry → List StartEntry
after_start cell t entries =
    put_start
    (record { cell = cell; greatest = max (greatest_at cell entries) t + spacing cell })
    entries

-- the entries that tell anything of starts after a moment
abbrev pub later_starts : ℕ → List StartEntry → List StartEntry
later_starts t entries = filter (λ (e : StartEntry). nat_lt t e.greatest) entries
