use Rattle.runs.specs.Changes.{with_plan}
use Rattle.runs.proofs.Written.{noted_at, failed_at}
use Rattle.runs.proofs.map.plan_at.Goals as goal

pub returns-clause-now : goal.returns-clause-now
returns-clause-now c = noted_at c.args.number (with_plan c.args.hash.now) _ c.plan.new.self c.args.runs.now.entries _ c.in-Some.ensures.value (c.get_mut.follows.holds c.plan.new.self).0 _ c.plan.result c.plan.ensures.ok

pub returns-clause-err : goal.returns-clause-err
returns-clause-err c = failed_at c.args.number (with_plan c.args.hash.now) _ c.plan.new.self c.args.runs.now.entries _ c.in-Some.ensures.value (c.get_mut.follows.holds c.plan.new.self).0 c.plan.result c.plan.ensures.err
