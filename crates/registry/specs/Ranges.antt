-- The ranges of the numbers of a function that was read.
use Rattle.std.specs.Prelude.{ℕ, ◌≤◌, ◌<◌}
use Rattle.std.specs.Option.{IfSome}
use Rattle.kinds.specs.declared.function.Batch.{Batch}
use Rattle.kinds.specs.declared.function.Debounce.{Debounce}
use Rattle.kinds.specs.declared.function.Function.{Function}
use Rattle.kinds.specs.declared.function.Throttle.{Throttle}
use Rattle.text_num.specs.Duration.{longest}
use Rattle.registry.specs.Flows.{most_batch, most_limit}

-- from 1 to this
pub record IsWithin (most n : ℕ) : Type 0 where
  pub some : 0 < n
  pub few : n ≤ most

pub record IsThrottleRead (t : Throttle) : Type 0 where
  pub limit : IsWithin most_limit t.limit
  pub burst : IsWithin most_limit t.burst
  pub period : IsWithin longest t.period

pub record IsDebounceRead (d : Debounce) : Type 0 where
  pub period : IsWithin longest d.period
  pub timeout : IfSome d.timeout (IsWithin longest)

pub record IsBatchRead (b : Batch) : Type 0 where
  pub size : IsWithin most_batch b.size
  pub timeout : IsWithin longest b.timeout

pub record IsFunctionRead (f : Function) : Type 0 where
  pub throttle : IfSome f.throttle IsThrottleRead
  pub debounce : IfSome f.debounce IsDebounceRead
  pub batch : IfSome f.batch IsBatchRead
