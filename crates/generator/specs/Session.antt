-- What the generator's inputs make of the documented machine. Each event is followed by one reply, and at the end
-- calls are replied to until none is open: two a run.
use Rattle.std.specs.Prelude.{ℕ, zero, suc, ◌*◌, Option, Some, None}
use Rattle.std.specs.Option.{option_map}
use Rattle.kinds.specs.Limits.{shipped}
use Rattle.kinds.specs.declared.input.Input.{Input}
use Rattle.run_model.specs.Machine as machine
pub use Rattle.run_model.specs.Next.{first_open, has_results, is_begun}
use Rattle.run_model.specs.State.{State, Issue, empty}
use Rattle.generator.specs.Inputs.{drawn, event_input, registration, reply_input, user_of}

-- the reply to the first open call, where one is open, at a moment and with the number of the last event
abbrev pub next_reply : ℕ → ℕ → State → Option Input
next_reply at i s =
    option_map (λ (o : Issue). reply_input at o.call (has_results s o) i) (first_open s.issues)

abbrev pub after_input : State → Input → State
after_input s input = (machine.step s input).state

abbrev pub after_any : Option Input → State → State
after_any None s = s
after_any (Some input) s = after_input s input

abbrev pub after_reply : ℕ → ℕ → State → State
after_reply at i s = after_any (next_reply at i s) s

-- the i-th event, and a reply
abbrev pub after_event : ℕ → ℕ → State → State
after_event n i s = after_reply (10 * i) i (after_input s (event_input (user_of (drawn n i)) i))

-- so many events of a generator that begins with n
unfoldable pub after_events : ℕ → ℕ → State → State
after_events n zero s = s
after_events n (suc i) s = after_event n (suc i) (after_events n i s)

-- so many replies, as long as a call is open
unfoldable pub after_replies : ℕ → ℕ → ℕ → State → State
after_replies at i zero s = s
after_replies at i (suc count) s = after_replies at i count (after_reply at i s)

-- the state at the end
abbrev pub generated : ℕ → State
generated n =
    after_replies (10 * n) n (2 * n) (after_events n n (after_input (empty shipped) registration))
