use Rattle.std.proofs.Common.{subst}
use Rattle.machine.specs.Numbers.{IsRest}
use Rattle.machine.proofs.Joined.{left-by, rest-by}
use Rattle.machine.proofs.numbers.NumberSet.pop_first.Goals as goal

pub returns : goal.returns
returns c =
    subst (λ ns. IsRest c.pop_first.result ns c.pop_first.new.self.keys) c.self.view_is
    (rest-by c.pop_first.result c.self.inside.numbers.keys c.pop_first.new.self.keys c.pop_first.ensures.variant
    c.pop_first.ensures.removal c.pop_first.ensures.least
    (left-by c.pop_first.result _ _ (λ n u. u.0) c.pop_first.ensures.updates) c.pop_first.ensures.unchanged)
