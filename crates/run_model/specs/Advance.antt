-- Time goes on: what is due happens, the least by moment and number first, each at its own moment.
use Rattle.std.specs.Prelude.{ℕ, zero, suc, ◌^◌, ◌==◌, Bool, not, ◌&&◌, ◌||◌, List, [], ◌∷◌, ◌++◌, map, filter, codes, Option, Some, None, nat_lt, nat_le, if◌then◌else◌}
use Rattle.kinds.specs.ErrorObject.{error_object}
use Rattle.kinds.specs.Windows as windows
use Rattle.kinds.specs.declared.store.Rule.{Rule}
use Rattle.kinds.specs.declared.window.Window.{Window}
use Rattle.functions.specs.declared.entry.FunctionEntry.{FunctionEntry}
use Rattle.run_model.specs.Events.{end_wait}
use Rattle.run_model.specs.Making.{discover, make_run}
use Rattle.run_model.specs.Recording.{error_result, wake_step}
use Rattle.run_model.specs.Replies.{fail_call}
use Rattle.run_model.specs.State.{State, Issue, Sleep, Waiting, Invocation, at_moment, function_at}

-- ## What is due

pub data Timed : Type 0 where
  sleep_end : Sleep → Timed
  wait_end : Waiting → Timed
  invocation_end : Invocation → Timed
  window_end : Window → Timed
  rule_end : Rule → Timed
  call_limit : Issue → Timed

-- an invocation or a rule may have no end
abbrev pub due_of : Timed → Option ℕ
due_of (sleep_end e) = Some e.due
due_of (wait_end e) = Some e.wait.due
due_of (invocation_end e) = e.due
due_of (window_end w) = Some (windows.due_of w)
due_of (rule_end e) = e.due
due_of (call_limit i) = Some i.due

abbrev pub number_of : Timed → ℕ
number_of (sleep_end e) = e.number
number_of (wait_end e) = e.wait.number
number_of (invocation_end e) = e.number
number_of (window_end w) = windows.number_of w
number_of (rule_end e) = e.number
number_of (call_limit i) = i.limit

unfoldable pub timed : State → List Timed
timed s =
    map sleep_end s.sleeps ++ map wait_end s.waits ++ map invocation_end s.invocations
    ++ map window_end s.windows ++ map rule_end s.rules ++ map call_limit s.issues

-- ## The least of them

-- what is due next, and when
pub record Next : Type 0 where
  pub due : ℕ
  pub entry : Timed

abbrev pub comes_before : Next → Next → Bool
comes_before a b =
    nat_lt a.due b.due || ((a.due == b.due) && nat_lt (number_of a.entry) (number_of b.entry))

abbrev pub earlier : Next → Option Next → Option Next
earlier a None = Some a
earlier a (Some b) = if comes_before b a then Some b else Some a

abbrev pub with_due : Timed → Option ℕ → Option Next → Option Next
with_due e None next = next
with_due e (Some due) next = earlier (record { due = due; entry = e }) next

unfoldable pub least : List Timed → Option Next
least [] = None
least (e ∷ es) = with_due e (due_of e) (least es)

-- ## What happens then

abbrev pub without_sleep : ℕ → State → State
without_sleep number s = record s { sleeps = filter (λ (e : Sleep). not (number == e.number)) s.sleeps }

abbrev pub without_invocation : ℕ → State → State
without_invocation number s =
    record s { invocations = filter (λ (e : Invocation). not (number == e.number)) s.invocations }

abbrev pub without_rule : ℕ → State → State
without_rule number s = record s { rules = filter (λ (e : Rule). not (number == e.number)) s.rules }

abbrev pub without_window : ℕ → State → State
without_window number s = record s { windows = windows.without_number number s.windows }

abbrev pub timed_out : List ℕ
timed_out = error_result (error_object (codes "invocation timed out"))

abbrev pub make_found : Option FunctionEntry → Window → State → State
make_found None w s = s
make_found (Some f) w s = make_run f (windows.events_of w) None s

abbrev pub end_window : Window → State → State
end_window w s =
    make_found (function_at (windows.version_of w) s) w (without_window (windows.number_of w) s)

-- the child of an invocation goes on
abbrev pub fire : Timed → State → State
fire (sleep_end e) s = discover (wake_step e.run e.hash (codes "null") (without_sleep e.number s))
fire (wait_end e) s = discover (end_wait (codes "{\"data\":null}") e s)
fire (invocation_end e) s = discover (wake_step e.run e.hash timed_out (without_invocation e.number s))
fire (window_end w) s = end_window w s
fire (rule_end e) s = without_rule e.number s
fire (call_limit i) s = fail_call i (error_object (codes "call limit")) s

-- the connection of a call past its limit is hung
abbrev pub hung : Timed → List ℕ
hung (call_limit i) = i.call ∷ []
hung _ = []

-- a state on the way to a moment, and the calls that were hung
pub record Advanced : Type 0 where
  pub state : State
  pub hangs : List ℕ

abbrev pub fired : Next → Advanced → Advanced
fired next a = record {
  state = fire next.entry (record a.state { moment = next.due });
  hangs = a.hangs ++ hung next.entry;
}

-- the next, where it is due by a moment
abbrev pub within : ℕ → Option Next → Option Next
within t None = None
within t (Some next) = if nat_le next.due t then Some next else None

abbrev pub due_by : ℕ → State → Option Next
due_by t s = within t (least (timed s))

-- more than ever falls due by one moment: the numbers of entries end long before
abbrev pub most : ℕ
most = 2 ^ 64

unfoldable pub fire_by : ℕ → ℕ → Advanced → Advanced
fire_by zero t a = a
fire_by (suc n) t a =
    elim (due_by t a.state) as (λ _. Advanced) [ None ↦ a | Some next ↦ fire_by n t (fired next a) ]

abbrev pub arrived : ℕ → Advanced → Advanced
arrived t a = record a { state = at_moment t a.state }

unfoldable pub advance : ℕ → State → Advanced
advance t s = arrived t (fire_by most t (record { state = s; hangs = [] }))
