use Rattle.std.proofs.Common.{arith, sym, ◌∙◌}
use Rattle.kinds.specs.RunSteps.{plan_step}
use Rattle.run_state.proofs.Names.{noted_new}
use Rattle.run_state.proofs.active.Active.plan.Goals as goal

pub returns-in-Err-clause-noted : goal.returns-in-Err-clause-noted
returns-in-Err-clause-noted c = ((plan_step c.args.hash.now c.args.self, noted_new c.args.hash.now c.args.self _ (sym c.is_known.ensures ∙ c.if-is_known.false) (grind (arith, c.names.ensures.count, c.if-names-ge-MOST_NAMES.false))), c.in-Err.ensures.err)
