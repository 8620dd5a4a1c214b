use Rattle.runs.specs.Changes.{with_result}
use Rattle.runs.proofs.Written.{woken_at, failed_at}
use Rattle.runs.proofs.map.wake_at.Goals as goal

pub returns-clause-ok : goal.returns-clause-ok
returns-clause-ok c = woken_at c.args.number (with_result c.args.hash.now c.args.text) _ c.wake.new.self c.args.runs.now.entries _ c.in-Some.ensures.value (c.get_mut.follows.holds c.wake.new.self).0 c.wake.result c.wake.ensures.ok

pub returns-clause-err : goal.returns-clause-err
returns-clause-err c = failed_at c.args.number (with_result c.args.hash.now c.args.text) _ c.wake.new.self c.args.runs.now.entries _ c.in-Some.ensures.value (c.get_mut.follows.holds c.wake.new.self).0 c.wake.result c.wake.ensures.err
