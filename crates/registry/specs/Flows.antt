-- When a function's runs start, how many of its calls are open at once, and what cancels a run.
use Rattle.std.specs.Prelude.{ℕ, ◌==◌, nat_eq, if◌then◌else◌, List, [], ◌++◌, codes, bytes_eq, Option, Some, None, option_and_then, option_to_list, Result, Ok, Err}
use Rattle.std.specs.List.{starts_with}
use Rattle.kinds.specs.declared.function.Batch.{Batch}
use Rattle.kinds.specs.declared.function.CancelEntry.{CancelEntry}
use Rattle.kinds.specs.declared.function.Debounce.{Debounce}
use Rattle.kinds.specs.declared.function.Limit.{Limit}
use Rattle.kinds.specs.declared.function.Scope.{Scope}
use Rattle.kinds.specs.declared.function.Scope.TheVariants.{Own, Env, Account}
use Rattle.kinds.specs.declared.function.Throttle.{Throttle}
use Rattle.serde_json.specs.Data.{Data, Items, no_items, item}
use Rattle.serde_json.specs.Find.{as_array, as_str}
use Rattle.registry.specs.declared.flaw.Flaw.{Flaw}
use Rattle.registry.specs.declared.flaw.Flaw.TheVariants as flaw
use Rattle.registry.specs.Expressions.{condition_in, expression_of, period_in, timeout_in}
use Rattle.registry.specs.Members.{◌>>=◌, found_or, has_count, is_object, part, read_behind, whole, whole_in}

-- the greatest number of calls, or of runs in a period
abbrev pub most_limit : ℕ
most_limit = 1000000

-- ## Concurrency

abbrev pub named_scope : List ℕ → Option Scope
named_scope text =
    if bytes_eq text (codes "fn") then Some Own
    else if bytes_eq text (codes "env") then Some Env
    else if bytes_eq text (codes "account") then Some Account
    else None

abbrev pub scope_of : Option Data → Result Scope Flaw
scope_of None = Ok Own
scope_of (Some d) = found_or flaw.Limit (option_and_then named_scope (as_str d))

-- a limit of 0 is none
abbrev pub counted : Limit → Option Limit
counted limit = if limit.limit == 0 then None else Some limit

-- the limit that an object is, in this place among the function's limits
unfoldable pub limit_of : ℕ → Data → Result (Option Limit) Flaw
limit_of place d = do
  limit ← found_or flaw.Limit (whole_in 0 most_limit (codes "limit") d)
  scope ← scope_of (part (codes "scope") d)
  key ← condition_in (codes "key") d
  Ok (counted (record { place = place; limit = limit; scope = scope; key = key }))

-- the limit that a number is
unfoldable pub bare_limit : Data → Result (Option Limit) Flaw
bare_limit d = do
  limit ← found_or flaw.Limit (whole 0 most_limit d)
  Ok (counted (record { place = 0; limit = limit; scope = Own; key = None }))

-- an object or a number
abbrev pub one_limit : Data → Result (Option Limit) Flaw
one_limit d = if is_object d then limit_of 0 d else bare_limit d

abbrev pub alone : Result (Option Limit) Flaw → Result (List Limit) Flaw
alone limit = limit >>= λ l. Ok (option_to_list l)

-- an array's limits, at most two, with their places before those of 0 go
abbrev pub listed_limits : Items → Result (List Limit) Flaw
listed_limits no_items = Ok []
listed_limits (item d no_items) = alone (limit_of 0 d)
listed_limits (item d (item e no_items)) = do
  first ← limit_of 0 d
  second ← limit_of 1 e
  Ok (option_to_list first ++ option_to_list second)
listed_limits (item d (item e (item f ds))) = Err flaw.TooManyLimits

abbrev pub limits_by : Option Items → Data → Result (List Limit) Flaw
limits_by (Some ds) d = listed_limits ds
limits_by None d = alone (one_limit d)

abbrev pub limits_of : Option Data → Result (List Limit) Flaw
limits_of None = Ok []
limits_of (Some d) = limits_by (as_array d) d

-- the concurrency limits of a function: a number, an object, or an array of objects
unfoldable pub limits_in : Data → Result (List Limit) Flaw
limits_in d = limits_of (part (codes "concurrency") d)

-- ## Throttle, debounce, batch, priority. What is no object lacks its first part

-- a member that may be absent, read by this rule
abbrev pub optional : {A : Type 0} → (Data → Result A Flaw) → Option Data → Result (Option A) Flaw
optional read None = Ok None
optional read (Some d) = read d >>= λ value. Ok (Some value)

abbrev pub burst_of : Option Data → Result ℕ Flaw
burst_of None = Ok 1
burst_of (Some d) = found_or flaw.Limit (whole 1 most_limit d)

unfoldable pub throttle_of : Data → Result Throttle Flaw
throttle_of d = do
  limit ← found_or flaw.Limit (whole_in 1 most_limit (codes "limit") d)
  burst ← burst_of (part (codes "burst") d)
  period ← period_in (codes "period") d
  key ← condition_in (codes "key") d
  Ok (record { limit = limit; period = period; burst = burst; key = key })

abbrev pub throttle_in : Data → Result (Option Throttle) Flaw
throttle_in d = optional throttle_of (part (codes "throttle") d)

unfoldable pub debounce_of : Data → Result Debounce Flaw
debounce_of d = do
  period ← period_in (codes "period") d
  timeout ← timeout_in (codes "timeout") d
  key ← condition_in (codes "key") d
  Ok (record { period = period; timeout = timeout; key = key })

abbrev pub debounce_in : Data → Result (Option Debounce) Flaw
debounce_in d = optional debounce_of (part (codes "debounce") d)

abbrev pub most_batch : ℕ
most_batch = 100

unfoldable pub batch_of : Data → Result Batch Flaw
batch_of d = do
  size ← found_or flaw.Limit (whole_in 1 most_batch (codes "maxSize") d)
  timeout ← period_in (codes "timeout") d
  key ← condition_in (codes "key") d
  Ok (record { size = size; timeout = timeout; key = key })

abbrev pub batch_in : Data → Result (Option Batch) Flaw
batch_in d = optional batch_of (part (codes "batchEvents") d)

abbrev pub run_of : Option Data → Result (List ℕ) Flaw
run_of None = Err (flaw.Expression 0)
run_of (Some d) = expression_of d

unfoldable pub priority_of : Data → Result (List ℕ) Flaw
priority_of d = run_of (part (codes "run") d)

abbrev pub priority_in : Data → Result (Option (List ℕ)) Flaw
priority_in d = optional priority_of (part (codes "priority") d)

-- ## Cancellation

abbrev pub most_cancels : ℕ
most_cancels = 5

-- events of the server's own cancel nothing
abbrev pub not_own : List ℕ → Option (List ℕ)
not_own text = if starts_with nat_eq text (codes "inngest/") then None else Some text

abbrev pub cancel_event : Data → Option (List ℕ)
cancel_event d = option_and_then not_own (option_and_then as_str (part (codes "event") d))

unfoldable pub cancel_in : Data → Result CancelEntry Flaw
cancel_in d = do
  event ← found_or flaw.CancelName (cancel_event d)
  cond ← condition_in (codes "if") d
  timeout ← timeout_in (codes "timeout") d
  Ok (record { event = event; cond = cond; timeout = timeout })

-- the entry that an item is
abbrev pub cancel_of : Data → Result CancelEntry Flaw
cancel_of d = if is_object d then cancel_in d else Err flaw.Limit

abbrev pub listed_cancels : Items → Result (List CancelEntry) Flaw
listed_cancels ds =
    if has_count 0 most_cancels ds then read_behind (λ _. cancel_of) [] ds else Err flaw.Limit

abbrev pub cancels_by : Option Items → Result (List CancelEntry) Flaw
cancels_by None = Err flaw.Limit
cancels_by (Some ds) = listed_cancels ds

abbrev pub cancels_of : Option Data → Result (List CancelEntry) Flaw
cancels_of None = Ok []
cancels_of (Some d) = cancels_by (as_array d)

-- what cancels a function's runs
unfoldable pub cancels_in : Data → Result (List CancelEntry) Flaw
cancels_in d = cancels_of (part (codes "cancel") d)
