-- The entries of timers, waits and cancel rules: their parts, their orders, and which of them an event meets.
use Rattle.std.specs.Prelude.{◌≡◌, ℕ, Bool, true, false, not, ◌&&◌, List, map, filter, Option, Some, None}
use Rattle.std.specs.Option.{is_some}
use Rattle.std.specs.Str.{bytes_eq}
use Rattle.std.specs.List.{AllByRecursion}
use Rattle.lists.specs.Entries.{insert_in, insert_by, in_order}
use Rattle.kinds.specs.declared.event.Event.{Event}
use Rattle.kinds.specs.declared.store.Bucket.{Bucket}
use Rattle.kinds.specs.declared.store.Due.{Due}
use Rattle.kinds.specs.declared.store.Wait.{Wait}
use Rattle.kinds.specs.declared.store.Rule.{Rule}

-- ---- dues, in order of due and number

abbrev pub due_moment : Due → ℕ
due_moment d = d.due

abbrev pub due_number : Due → ℕ
due_number d = d.number

abbrev pub due_run : Due → ℕ
due_run d = d.run

abbrev pub due_at : ℕ → ℕ → ℕ → Due
due_at due number run = record { due = due; number = number; run = run }

abbrev pub insert_due : Due → List Due → List Due
insert_due d ds = insert_in due_moment due_number d ds

-- ---- waits and rules, in order of number

abbrev pub wait_number : Wait → ℕ
wait_number w = w.number

abbrev pub wait_run : Wait → ℕ
wait_run w = w.run

abbrev pub insert_wait : Wait → List Wait → List Wait
insert_wait w ws = insert_by wait_number w ws

abbrev pub rule_number : Rule → ℕ
rule_number r = r.number

abbrev pub rule_run : Rule → ℕ
rule_run r = r.run

abbrev pub insert_rule : Rule → List Rule → List Rule
insert_rule r rs = insert_by rule_number r rs

-- ---- what an event meets

-- whether the expression of this text is true of the event with this number and the fresh one
abbrev pub Truth : Type 0
Truth = List ℕ → ℕ → Event → Bool

-- the cell value of an event's member at a path
abbrev pub Values : Type 0
Values = Event → List (List ℕ) → Option (List ℕ)

-- what a wait or a rule asks of an event
pub record Condition : Type 0 where
  pub name : List ℕ
  pub first : ℕ
  pub cond : Option (List ℕ)
  pub bucket : Option Bucket

abbrev pub wait_condition : Wait → Condition
wait_condition w = record { name = w.name; first = w.first; cond = w.cond; bucket = w.bucket }

abbrev pub rule_condition : Rule → Condition
rule_condition r = record { name = r.name; first = r.first; cond = r.cond; bucket = r.bucket }

abbrev pub is_true_of : Truth → ℕ → Event → Option (List ℕ) → Bool
is_true_of truth first event None = true
is_true_of truth first event (Some expr) = truth expr first event

-- The names are equal, and the condition is absent or true.
abbrev pub is_met : Truth → Event → Condition → Bool
is_met truth event c = bytes_eq c.name event.name && is_true_of truth c.first event c.cond

-- the numbers of the waits that an event meets, in order
abbrev pub woken : Truth → Event → List Wait → List ℕ
woken truth event ws = map wait_number (filter (λ w. is_met truth event (wait_condition w)) ws)

-- the runs of the rules that an event meets, each once, in order
abbrev pub cancelled : Truth → Event → List Rule → List ℕ
cancelled truth event rs =
    in_order (map rule_run (filter (λ r. is_met truth event (rule_condition r)) rs))

-- ---- buckets

abbrev pub is_value : List ℕ → Option (List ℕ) → Bool
is_value value None = false
is_value value (Some found) = bytes_eq value found

-- There is no bucket, or the event has its value at its path.
abbrev pub is_in_bucket : Values → Event → Option Bucket → Bool
is_in_bucket values event None = true
is_in_bucket values event (Some b) = is_value b.value (values event b.path)

-- what may be evaluated for an event: a condition of its name that is in the event's bucket or in none
abbrev pub is_asked : Values → Event → Condition → Bool
is_asked values event c =
    bytes_eq c.name event.name && is_some c.cond && is_in_bucket values event c.bucket

-- The event meets a condition, and isn't in its bucket.
abbrev pub is_hidden : Truth → Values → Event → Condition → Bool
is_hidden truth values event c =
    is_met truth event c && is_some c.cond && not (is_in_bucket values event c.bucket)

-- Buckets are right for an event: none hides a condition that the event meets.
abbrev pub AreBucketsRight : {X : Type 0} → (X → Condition) → Truth → Values → Event → List X → Type 0
AreBucketsRight condition truth values event es =
    AllByRecursion (λ e. is_hidden truth values event (condition e) ≡ false) es
