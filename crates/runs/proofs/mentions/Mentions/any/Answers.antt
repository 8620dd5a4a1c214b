use Rattle.std.proofs.Common.{◌≡◌, ℕ, true, false, sym, ◌∙◌, ap, subst}
use Rattle.ordered.proofs.Listed.{at_first, from_zero, no_other}
use Rattle.runs.specs.Mentions.{mentions}
use Rattle.runs.proofs.Mentioned.{false_unless}
use Rattle.runs.proofs.mentions.Mentions.any.Goals as goal

pub returns-in_default-clause-none : goal.returns-in_default-clause-none
returns-in_default-clause-none c =
    subst (λ ps. (n : ℕ) → mentions ps c.args.part n ≡ false) c.self.view_is
    (λ n. (c.range.ensures.in_range tt).5 c.in_default.ensures.steps.0 (c.args.part, n) (from_zero c.args.part n, tt))

pub returns-then-found-part-clause-none : goal.returns-then-found-part-clause-none
returns-then-found-part-clause-none c =
    subst (λ ps. (n : ℕ) → mentions ps c.args.part n ≡ false) c.self.view_is
    (λ n. false_unless (mentions c.self.inside.pairs.keys c.args.part n) (λ h.
    no_other c.args.part n c.in-Some.field-0.now.0 c.in-Some.field-0.now.1
    (at_first _ _ _ _ c.in-Some.ensures.steps (c.range.ensures.in_range tt).1).0.0
    (at_first _ _ _ _ c.in-Some.ensures.steps ((c.range.ensures.in_range tt).2 (c.args.part, n) (from_zero c.args.part n, tt) h))
    c.if-found-part.true))

pub returns-clause-some : goal.returns-clause-some
returns-clause-some c =
    subst (λ ps. (n : ℕ) × (mentions ps c.args.part n ≡ true)) c.self.view_is
    (c.in-Some.field-0.now.1, ap (λ a. mentions c.self.inside.pairs.keys a c.in-Some.field-0.now.1) (sym c.if-found-part.false) ∙ (at_first _ _ _ _ c.in-Some.ensures.steps (c.range.ensures.in_range tt).1).1)
