-- The calls that are made in a history, and those among them that are starts of a throttle's cell.
use Rattle.std.specs.Prelude.{ℕ, zero, suc, ◌≡◌, ◌≤◌, ◌⊎◌, ◌+◌, ◌-◌, ◌*◌, Bool, true, false, List, [], ◌∷◌, ◌++◌, map, filter, find, length, Option, Some, None}
use Rattle.std.specs.List.{AllByRecursion}
use Rattle.kinds.specs.Cells.{greatest_of, has_start, is_cell, lets_start, slack, spacing, StandsFor}
use Rattle.kinds.specs.Inputs.{reading}
use Rattle.kinds.specs.declared.cell.Cell.{Cell}
use Rattle.kinds.specs.declared.input.Input.{Input}
use Rattle.kinds.specs.declared.limits.Limits.{Limits}
use Rattle.kinds.specs.declared.out.Out.{Out}
use Rattle.kinds.specs.declared.out.Out.TheVariants as out
use Rattle.kinds.specs.declared.store.Item.{Item}
use Rattle.run_model.specs.Advance.{advance}
use Rattle.run_model.specs.Laws.{IsIn}
use Rattle.run_model.specs.Machine.{act, count_input, step}
use Rattle.run_model.specs.Making.{unless}
use Rattle.run_model.specs.Settle.{Settled, issue_found, item_at, next_issued}
use Rattle.run_model.specs.State.{State, Run, empty, live_run, moment_at}

-- ## The calls of a history

-- a call that is made: its number, its item, its run as this stood before the call, and the moment
pub record Made : Type 0 where
  pub call : ℕ
  pub item : Item
  pub run : Option Run
  pub moment : ℕ

abbrev pub made_of : Option Item → State → List Made
made_of None s = []
made_of (Some i) s =
    record { call = s.calls + 1; item = i; run = live_run i.run s; moment = s.moment } ∷ []

-- those of settling, turn by turn: each makes the call of the item that is issued next
unfoldable pub made_by : ℕ → Settled → List Made
made_by zero a = []
made_by (suc n) a = elim (next_issued a.state) as (λ _. List Made) [
  | None ↦ []
  | Some number ↦
      made_of (item_at number a.state) a.state ++ made_by n (issue_found (item_at number a.state) a)
]

-- time has gone on and the input has acted, and no call is made yet
abbrev pub acted_on : State → Input → State
acted_on s input = (act input (advance (moment_at (reading input) s) (count_input s)).state).state

-- those of a step
abbrev pub made_in : State → Input → List Made
made_in s input =
    made_by (length (acted_on s input).items) (record { state = acted_on s input; outs = [] })

abbrev pub made_after : State → List Input → List Made
made_after s [] = []
made_after s (input ∷ inputs) = made_in s input ++ made_after (step s input).state inputs

-- those of a history, the first of them first
abbrev pub made : Limits → List Input → List Made
made limits inputs = made_after (empty limits) inputs

-- behind so many calls, each is numbered next
abbrev pub AreNumberedFrom : ℕ → List Made → Type 0
AreNumberedFrom count [] = Unit {0}
AreNumberedFrom count (m ∷ ms) = (m.call ≡ count + 1) × AreNumberedFrom (count + 1) ms

-- it has this number, run, target and attempt
abbrev pub IsCall : ℕ → ℕ → List ℕ → ℕ → Made → Type 0
IsCall call run target attempt m =
    (m.call ≡ call) × ((m.item.run ≡ run) × ((m.item.target ≡ target) × (m.item.attempt ≡ attempt)))

-- where a call is said, it is one of these
abbrev pub IsMade : List Made → Out → Type 0
IsMade calls (out.Call call function target run attempt steps events host port path body) =
    (m : Made) × (IsIn m calls × IsCall call run target attempt m)
IsMade calls (out.Answer status body) = Unit {0}
IsMade calls (out.Hang call) = Unit {0}

-- ## The starts of a cell

-- A run starts with its first call, in the cell of its throttle, where it has one.
abbrev pub start_of : Option Run → Option Cell
start_of None = None
start_of (Some r) = unless r.started r.start

abbrev pub is_start : Cell → Option Cell → Bool
is_start cell None = false
is_start cell (Some other) = is_cell cell other

abbrev pub starts_of : Cell → List Made → List ℕ
starts_of cell calls =
    map (λ (m : Made). m.moment) (filter (λ (m : Made). is_start cell (start_of m.run)) calls)

-- the moments of all starts of the cell in a history
abbrev pub starts : Limits → List Input → Cell → List ℕ
starts limits inputs cell = starts_of cell (made limits inputs)

-- For each start t and each start s before it, `m * spacing ≤ (t - s) + slack`, where m counts the starts from s on
-- and before t.
abbrev pub KeepsPace : Cell → List ℕ → Type 0
KeepsPace cell moments = (before between after : List ℕ) (s t : ℕ)
    → moments ≡ before ++ s ∷ (between ++ t ∷ after)
    → (s ≤ t) × ((1 + length between) * spacing cell ≤ (t - s) + slack cell)

-- each start was let by those before it
abbrev pub AreLet : Cell → List ℕ → Type 0
AreLet cell moments = (before after : List ℕ) (t : ℕ) → moments ≡ before ++ t ∷ after
    → lets_start cell before t ≡ true

-- the cell's entry stands for these starts, or it has none, and they let the next whenever it comes
abbrev pub TellsOf : State → Cell → List ℕ → Type 0
TellsOf s cell moments =
    StandsFor s.starts cell moments
    ⊎ ((find (has_start cell) s.starts ≡ None) × (greatest_of cell moments ≤ s.moment))

-- ## Counts

abbrev pub counts_of : State → List ℕ
counts_of s = s.inputs ∷ s.events ∷ s.runs ∷ s.calls ∷ s.entries ∷ s.versions ∷ []

-- none of these is over the greatest
abbrev pub AreUpTo : ℕ → List ℕ → Type 0
AreUpTo most counts = AllByRecursion (λ n. n ≤ most) counts

-- the state with one number in the place of each of its counts
abbrev pub counted_to : ℕ → State → State
counted_to most s =
    record s { inputs = most; events = most; runs = most; calls = most; entries = most; versions = most }
