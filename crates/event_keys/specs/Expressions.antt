-- What expressions of functions, waits and rules are worth over the texts of events.
use Rattle.std.specs.Prelude.{ℕ, ℤ, pos, negsuc, neg_ℤ, unsigned_abs, ◌+◌, ◌/◌, ◌%◌, ◌^◌, ◌==◌, Bool, true, false, List, [], min, Option, Some, None, Result, Ok, Err, if◌then◌else◌}
use Rattle.cel_eval.specs.Cells.{cell_text}
use Rattle.cel_eval.specs.Data.{over}
use Rattle.cel_eval.specs.Table.{value_of}
use Rattle.cel_eval.specs.declared.fault.EvalFault.{EvalFault}
use Rattle.cel_eval.specs.declared.fault.EvalFault.TheVariants as fault
use Rattle.cel_eval.specs.declared.value.Value.{Value}
use Rattle.cel_eval.specs.declared.value.Value.TheVariants as value
use Rattle.json_text.specs.Grammar.{Json}
use Rattle.json_text.specs.Texts.{read_text}
use Rattle.json_text.specs.declared.fault.JsonFault.{JsonFault}

-- ## Values

abbrev pub Worth : Type 0
Worth = Result Value EvalFault

-- An event of the server's own may nest too deep to be read: every expression on it fails.
abbrev pub unread : Worth
unread = Err fault.NoField

-- what an event's text holds, where it can be read
abbrev pub json_in : Result Json JsonFault → Option Json
json_in (Ok j) = Some j
json_in (Err e) = None

abbrev pub json_of : List ℕ → Option Json
json_of event = json_in (read_text event)

abbrev pub over_one : List ℕ → Option Json → Worth
over_one expr None = unread
over_one expr (Some j) = value_of expr (over j None)

-- over the text of one event
abbrev pub worth_over : List ℕ → List ℕ → Worth
worth_over expr event = over_one expr (json_of event)

abbrev pub over_two : List ℕ → Option Json → Option Json → Worth
over_two expr None fresh = unread
over_two expr (Some j) None = unread
over_two expr (Some j) (Some k) = value_of expr (over j (Some k))

-- over the texts of an event and a fresh one
abbrev pub worth_over_both : List ℕ → List ℕ → List ℕ → Worth
worth_over_both expr event fresh = over_two expr (json_of event) (json_of fresh)

-- ## Conditions

abbrev pub is_true : Worth → Bool
is_true (Ok (value.Bool b)) = b
is_true _ = false

-- an absent condition is true
abbrev pub holds_over : Option (List ℕ) → List ℕ → Bool
holds_over None event = true
holds_over (Some expr) event = is_true (worth_over expr event)

-- whether an expression is true of an event and a fresh one
abbrev pub holds_over_both : List ℕ → List ℕ → List ℕ → Bool
holds_over_both expr event fresh = is_true (worth_over_both expr event fresh)

-- ## Keys

-- the value of a key: empty where there is none
abbrev pub key_value : Option (List ℕ) → List ℕ → List ℕ
key_value None event = []
key_value (Some expr) event = cell_text (worth_over expr event)

-- ## Shifts

-- the units of one
abbrev pub one : ℕ
one = 10 ^ 18

abbrev pub most_shift : ℕ
most_shift = 600

-- a number brought into -600 to 600
abbrev pub clamped : ℤ → ℤ
clamped (pos n) = pos (min n most_shift)
clamped (negsuc n) = neg_ℤ (pos (min (n + 1) most_shift))

abbrev pub with_sign : ℤ → ℕ → ℤ
with_sign (pos n) m = pos m
with_sign (negsuc n) m = neg_ℤ (pos m)

-- the whole number of so many units, and 0 where it isn't whole
abbrev pub whole : ℤ → ℤ
whole units =
    if unsigned_abs units % one == 0 then with_sign units (unsigned_abs units / one) else pos 0

abbrev pub shift_of : Worth → ℤ
shift_of (Ok (value.Number units)) = clamped (whole units)
shift_of _ = pos 0

-- the shift of a run by its function's priority
abbrev pub priority_shift : Option (List ℕ) → List ℕ → ℤ
priority_shift None event = pos 0
priority_shift (Some expr) event = shift_of (worth_over expr event)
