use Rattle.std.proofs.Common.{◌≡◌, ℕ, true, false, subst}
use Rattle.ready_queue.specs.Keys.{has}
use Rattle.ready_queue.specs.Places.{Indexed}
use Rattle.ready_queue.proofs.index.Index.head.Goals as goal

pub returns-in_default-clause-none : goal.returns-in_default-clause-none
returns-in_default-clause-none c = subst (λ (i : Indexed). (s n : ℕ) → has i.keys c.args.group s n ≡ false) c.self.view_is c.in_default.ensures

pub returns-clause-some : goal.returns-clause-some
returns-clause-some c = subst (λ (i : Indexed). (s : ℕ) × (has i.keys c.args.group s c.in-Some.least.1 ≡ true)) c.self.view_is (c.in-Some.least.0, c.in-Some.ensures.0)
