-- The inputs that the generator makes: a registration, events whose data is drawn, and replies.
use Rattle.std.specs.Prelude.{ℕ, zero, suc, ◌+◌, ◌*◌, ◌%◌, ◌^◌, Bool, true, false, List, [], ◌∷◌, ◌++◌, Some, None, codes, decimal}
use Rattle.kinds.specs.declared.event.EventIn.{EventIn}
use Rattle.kinds.specs.declared.function.Function.{Function}
use Rattle.kinds.specs.declared.function.Limit.{Limit}
use Rattle.kinds.specs.declared.function.Scope.TheVariants.{Own}
use Rattle.kinds.specs.declared.input.Input.{Input}
use Rattle.kinds.specs.declared.input.Input.TheVariants.{Events, Register, Reply}
use Rattle.kinds.specs.declared.reply.ReplyIn.{ReplyIn}

-- ## The registration

-- two calls of a user at a time
abbrev pub user_limit : Limit
user_limit = record { place = 0; limit = 2; scope = Own; key = Some (codes "event.data.u") }

abbrev pub function : Function
function = record {
  id = codes "a-f";
  triggers = (record { event = codes "x"; cond = None }) ∷ [];
  host = codes "127.0.0.1";
  port = 9;
  path = codes "/api";
  query = codes "fnId=a-f&stepId=step";
  retries = 4;
  limits = user_limit ∷ [];
  throttle = None;
  debounce = None;
  batch = None;
  priority = None;
  cancels = [];
}

abbrev pub registration : Input
registration = Register 0 (record { name = codes "a"; functions = function ∷ [] })

-- ## Events

-- the next number of a linear congruential generator, with the constants of the C standard's example
abbrev pub drawn_next : ℕ → ℕ
drawn_next x = (1103515245 * x + 12345) % 2 ^ 31

-- the i-th number that is drawn, of a generator that begins with n
unfoldable pub drawn : ℕ → ℕ → ℕ
drawn n zero = n
drawn n (suc i) = drawn_next (drawn n i)

-- one of seven users
abbrev pub user_of : ℕ → ℕ
user_of x = x % 7

-- the i-th event, of a user
abbrev pub event : ℕ → ℕ → EventIn
event user i = record {
  name = codes "x";
  content = codes "{\"u\":" ++ decimal user ++ codes "}";
  id = Some (codes "g" ++ decimal i);
  ts = None;
  user = None;
  v = None;
}

-- one comes every ten milliseconds
abbrev pub event_input : ℕ → ℕ → Input
event_input user i = Events (10 * i) (event user i ∷ [])

-- ## Replies

-- the hash of the step "abc"
abbrev pub step : List ℕ
step = codes "a9993e364706816aba3e25717850c26c9cd0d89d"

-- one step ran, and its result is a number
abbrev pub step_reply : ℕ → ReplyIn
step_reply i = record {
  status = 206;
  no_retry = None;
  retry = None;
  body =
      codes "[{\"id\":\"" ++ step ++ codes "\",\"op\":\"StepRun\",\"data\":" ++ decimal i ++ codes "}]";
}

-- the function has ended
abbrev pub end_reply : ReplyIn
end_reply = record { status = 200; no_retry = None; retry = None; body = codes "null" }

-- to a call by whether it has results, with the number of the last event
abbrev pub reply : Bool → ℕ → ReplyIn
reply true i = end_reply
reply false i = step_reply i

abbrev pub reply_input : ℕ → ℕ → Bool → ℕ → Input
reply_input at call has_results i = Reply at call (reply has_results i)
