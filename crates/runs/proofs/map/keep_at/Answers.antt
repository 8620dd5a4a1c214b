use Rattle.runs.specs.Changes.{with_result}
use Rattle.runs.proofs.Written.{noted_at, failed_at}
use Rattle.runs.proofs.map.keep_at.Goals as goal

pub returns-clause-now : goal.returns-clause-now
returns-clause-now c = noted_at c.args.number (with_result c.args.hash.now c.args.text) _ c.keep.new.self c.args.runs.now.entries _ c.in-Some.ensures.value (c.get_mut.follows.holds c.keep.new.self).0 _ c.keep.result c.keep.ensures.ok

pub returns-clause-err : goal.returns-clause-err
returns-clause-err c = failed_at c.args.number (with_result c.args.hash.now c.args.text) _ c.keep.new.self c.args.runs.now.entries _ c.in-Some.ensures.value (c.get_mut.follows.holds c.keep.new.self).0 c.keep.result c.keep.ensures.err
