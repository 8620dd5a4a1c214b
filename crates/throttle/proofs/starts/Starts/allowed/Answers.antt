use Rattle.std.proofs.Common.{◌+◌, nat_le, sym, ◌∙◌, ap₂}
use Rattle.throttle.proofs.StartLemmas.{lets_greatest}
use Rattle.throttle.proofs.starts.Starts.allowed.Goals as goal

pub returns-clause-inequality : goal.returns-clause-inequality
returns-clause-inequality c = λ starts h.
    ap₂ (λ g s. nat_le g (c.args.t + s)) (c.greatest.ensures ∙ sym h) c.pace_of.ensures.slack
    ∙ sym (lets_greatest c.args.cell.now starts c.args.t)
