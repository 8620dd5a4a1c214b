use Rattle.kinds.specs.RunSteps.{note_plan, plan_step}
use Rattle.runs.proofs.Noting.{plan_adds, back_ok, back_err}
use Rattle.runs.proofs.steps.plan.Goals as goal

pub returns-clause-ok : goal.returns-clause-ok
returns-clause-ok c =
    back_ok (note_plan c.args.hash.now) (plan_step c.args.hash.now) c.taken.result c.args.steps.now c.plan-noted.result c.taken.ensures c.plan-noted.ensures.noted c.put_back.result c.put_back.new.steps
    (plan_adds c.args.hash.now) c.put_back.ensures.ok c.put_back.ensures.steps

pub returns-clause-err : goal.returns-clause-err
returns-clause-err c =
    back_err (note_plan c.args.hash.now) (plan_step c.args.hash.now) c.taken.result c.args.steps.now c.plan-noted.result c.taken.ensures c.plan-noted.ensures.noted c.put_back.result c.put_back.new.steps
    c.put_back.ensures.err c.put_back.ensures.steps
