use Rattle.std.proofs.Common.{◌≡◌, ◌+◌, drop}
use Rattle.sdk_call.specs.Query.{until}
use Rattle.sdk_call.proofs.query.until.Given as goal

abbrev pub invariant-loop-index : goal.invariant-loop-index
invariant-loop-index l = until l.byte l.text ≡ l.index + until l.byte (drop l.index l.text)
