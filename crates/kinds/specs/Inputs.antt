-- What all inputs have.
use Rattle.std.specs.Prelude.{ℕ}
use Rattle.kinds.specs.declared.input.Input.{Input}
use Rattle.kinds.specs.declared.input.Input.TheVariants.{Events, Register, Reply, CallFailed, Tick, Cancel, Reopened}

-- the clock reading that it was taken at, in milliseconds since 1970
abbrev pub reading : Input → ℕ
reading (Events at events) = at
reading (Register at app) = at
reading (Reply at call reply) = at
reading (CallFailed at call) = at
reading (Tick at) = at
reading (Cancel at run) = at
reading (Reopened at) = at
