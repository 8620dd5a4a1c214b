use Rattle.std.proofs.Common.{sym, ◌∙◌, subst, arith}
use Rattle.admission_tests.proofs.Below.{AreBelow}
use Rattle.admission_tests.proofs.tests.is_above.Goals as goal

pub loop-open-init : goal.loop-open-init
loop-open-init c = (
  tt,
  tt,
  subst (AreBelow c.args.call) (c.into_iter-open-iterator.ensures.into_iter_gives ∙ c.issues-open-items.ensures),
)

pub loop-open-preserved : goal.loop-open-preserved
loop-open-preserved c = (
  tt,
  tt,
  λ rest. c.loop-open.invariant.2 (subst (AreBelow c.args.call) (sym c.in-Some.ensures.steps) (omega arith, rest)),
)

pub returns : goal.returns
returns c = c.loop-open.invariant.2 (subst (AreBelow c.args.call) (sym c.in-None.ensures.steps.0) tt)
