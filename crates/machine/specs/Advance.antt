-- What is due next, by its number, and what happens then.
use Rattle.std.specs.Prelude.{ℕ, ◌≡◌, ◌||◌, ◌&&◌, ◌==◌, List, [], ◌∷◌, find, Option, Some, None, codes, nat_le, nat_lt, if◌then◌else◌}
use Rattle.std.specs.Option.{option_map}
use Rattle.admission.specs.declared.issue.CallLimit.{CallLimit}
use Rattle.awaited.specs.Entries.{invocation_number, sleep_number, waiting_number}
use Rattle.kinds.specs.ErrorObject.{error_object}
use Rattle.kinds.specs.Windows as windows
use Rattle.kinds.specs.declared.out.Out.{Out}
use Rattle.kinds.specs.declared.out.Out.TheVariants.{Hang}
use Rattle.kinds.specs.declared.store.Due.{Due}
use Rattle.kinds.specs.declared.window.Window.{Window}
use Rattle.lists.specs.Entries.{AreApart, has}
use Rattle.run_model.specs.Advance as model
use Rattle.run_model.specs.Replies.{fail_found}
use Rattle.run_model.specs.State.{State, Invocation, Sleep, Waiting, open_issue}
use Rattle.machine.specs.Held.{IsHeld}
use Rattle.machine.specs.View.{state_of}
use Rattle.machine.specs.declared.advance.Next.{Next}
use Rattle.machine.specs.declared.advance.Timed.{Timed}
use Rattle.machine.specs.declared.advance.Timed.TheVariants as timed
use Rattle.machine.specs.declared.parts.Parts.{Parts}

abbrev pub entry_by : model.Timed → Timed
entry_by (model.sleep_end e) = timed.Sleep
entry_by (model.wait_end e) = timed.Wait
entry_by (model.invocation_end e) = timed.Invocation
entry_by (model.window_end w) = timed.Window
entry_by (model.rule_end e) = timed.Rule
entry_by (model.call_limit i) = timed.Limit i.call

-- by the numbers alone
abbrev pub next_by : model.Next → Next
next_by n = record { due = n.due; number = model.number_of n.entry; entry = entry_by n.entry }

abbrev pub next_from : Timed → Due → Next
next_from entry d = record { due = d.due; number = d.number; entry = entry }

abbrev pub limited : CallLimit → Next
limited l = record { due = l.due; number = l.number; entry = timed.Limit l.call }

-- the first of two, where the other doesn't come before it
abbrev pub sooner : Option Next → Option Next → Option Next
sooner None b = b
sooner (Some a) None = Some a
sooner (Some a) (Some b) =
    if nat_lt b.due a.due || ((b.due == a.due) && nat_lt b.number a.number) then Some b else Some a

abbrev pub due_at : Next → ℕ
due_at n = n.due

-- the next, where it is due by a moment
abbrev pub due_within : ℕ → Option Next → Option Next
due_within t None = None
due_within t (Some n) = if nat_le n.due t then Some n else None

-- no two of what is awaited have one number
pub record AreAwaitedApart (s : State) : Type 0 where
  pub sleeps : AreApart sleep_number s.sleeps
  pub waits : AreApart waiting_number s.waits
  pub invocations : AreApart invocation_number s.invocations
  pub windows : AreApart windows.number_of s.windows

abbrev pub hang : ℕ → Out
hang call = Hang call

abbrev pub moved : ℕ → State → State
moved moment s = record s { moment = moment }

abbrev pub sleep_over : Option Sleep → State → State
sleep_over None s = s
sleep_over (Some e) s = model.fire (model.sleep_end e) s

abbrev pub wait_over : Option Waiting → State → State
wait_over None s = s
wait_over (Some w) s = model.fire (model.wait_end w) s

abbrev pub invocation_over : Option Invocation → State → State
invocation_over None s = s
invocation_over (Some e) s = model.fire (model.invocation_end e) s

abbrev pub window_over : Option Window → State → State
window_over None s = s
window_over (Some w) s = model.end_window w s

-- what is due is over, by its number
abbrev pub over_by : Timed → ℕ → State → State
over_by timed.Sleep number s = sleep_over (find (has sleep_number number) s.sleeps) s
over_by timed.Wait number s = wait_over (find (has waiting_number number) s.waits) s
over_by timed.Invocation number s = invocation_over (find (has invocation_number number) s.invocations) s
over_by timed.Window number s = window_over (find (windows.has_number number) s.windows) s
over_by timed.Rule number s = model.without_rule number s
over_by (timed.Limit call) number s =
    fail_found (open_issue call s) (error_object (codes "call limit")) s

abbrev pub hangs_of : Timed → List Out
hangs_of (timed.Limit call) = Hang call ∷ []
hangs_of _ = []

-- what is due next by a moment, or nothing is
abbrev pub IsDue : ℕ → State → Option Next → Type 0
IsDue t s next = next ≡ option_map next_by (model.due_by t s)

-- the parts are those of a state, at a moment that has come for all of them
pub record Arrives (s : State) (new : Parts) : Type 0 where
  pub state : state_of new ≡ s
  pub held : IsHeld new
  pub now : new.admission.moment ≡ new.moment
