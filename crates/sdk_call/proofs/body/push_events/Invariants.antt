use Rattle.std.proofs.Common.{◌≡◌, ◌++◌, map, take, Bor, List, ℕ}
use Rattle.sdk_call.specs.Body.{parted}
use Rattle.sdk_call.proofs.body.push_events.Given as goal

abbrev pub invariant-loop-index : goal.invariant-loop-index
invariant-loop-index l = l.body ≡ l.initial.body ++ parted (map (λ (e : Bor (List ℕ)). e.now) (take l.index l.events))
