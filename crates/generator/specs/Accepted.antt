-- What is said of the generator's histories: each input is accepted in its turn, and in the end each run is over.
use Rattle.std.specs.Prelude.{ℕ, suc, ◌≡◌, ◌+◌, ◌*◌, ◌<◌, Option, IfSome, None}
use Rattle.kinds.specs.Limits.{shipped}
use Rattle.kinds.specs.declared.input.Input.{Input}
use Rattle.run_model.specs.Machine.{Accepts}
use Rattle.run_model.specs.State.{State, empty, live}
use Rattle.generator.specs.Inputs.{drawn, event_input, registration, user_of}
use Rattle.generator.specs.Session.{after_events, after_input, after_replies, first_open, next_reply}

-- the state behind the registration
abbrev pub registered : State
registered = after_input (empty shipped) registration

-- the i-th event of a generator that begins with n
abbrev pub drawn_event : ℕ → ℕ → Input
drawn_event n i = event_input (user_of (drawn n i)) i

-- where there is an input, it is accepted
abbrev pub AcceptsAny : State → Option Input → Type 0
AcceptsAny s input = IfSome input (Accepts s)

-- the i-th event is, and the reply that follows it
pub record AcceptsEvent (n i : ℕ) (s : State) : Type 0 where
  pub event : Accepts s (drawn_event n i)
  pub reply : AcceptsAny (after_input s (drawn_event n i))
      (next_reply (10 * i) i (after_input s (drawn_event n i)))

-- the reply that comes next at the end is
abbrev pub AcceptsReply : ℕ → State → Type 0
AcceptsReply n s = AcceptsAny s (next_reply (10 * n) n s)

-- each input is, in the state that those before it lead to
pub record AreAccepted (n : ℕ) : Type 0 where
  pub registration_first : Accepts (empty shipped) registration
  pub events : (i : ℕ) → i < n → AcceptsEvent n (suc i) (after_events n i registered)
  pub replies : (count : ℕ)
      → AcceptsReply n (after_replies (10 * n) n count (after_events n n registered))

-- so many inputs were taken, no run is left, and no call is open
pub record HasEnded (n : ℕ) (s : State) : Type 0 where
  pub inputs : s.inputs ≡ 3 * n + 1
  pub calls : s.calls ≡ 2 * n
  pub runs : s.runs ≡ n
  pub over : live s ≡ 0
  pub none_open : first_open s.issues ≡ None
