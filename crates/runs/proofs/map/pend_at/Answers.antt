use Rattle.runs.specs.Changes.{with_pending}
use Rattle.runs.proofs.Written.{noted_at, failed_at}
use Rattle.runs.proofs.map.pend_at.Goals as goal

pub returns-clause-now : goal.returns-clause-now
returns-clause-now c = noted_at c.args.number (with_pending c.args.hash.now c.args.kind) _ c.pend.new.self c.args.runs.now.entries _ c.in-Some.ensures.value (c.get_mut.follows.holds c.pend.new.self).0 _ c.pend.result c.pend.ensures.ok

pub returns-clause-err : goal.returns-clause-err
returns-clause-err c = failed_at c.args.number (with_pending c.args.hash.now c.args.kind) _ c.pend.new.self c.args.runs.now.entries _ c.in-Some.ensures.value (c.get_mut.follows.holds c.pend.new.self).0 c.pend.result c.pend.ensures.err
