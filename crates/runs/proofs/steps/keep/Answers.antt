use Rattle.kinds.specs.RunSteps.{keep_step, record_step}
use Rattle.runs.proofs.Noting.{keep_adds, back_ok, back_err}
use Rattle.runs.proofs.steps.keep.Goals as goal

pub returns-clause-ok : goal.returns-clause-ok
returns-clause-ok c =
    back_ok (keep_step c.args.hash.now c.args.text) (record_step c.args.hash.now c.args.text) c.taken.result c.args.steps.now c.keep-noted.result c.taken.ensures c.keep-noted.ensures.noted c.put_back.result c.put_back.new.steps
    (keep_adds c.args.hash.now c.args.text) c.put_back.ensures.ok c.put_back.ensures.steps

pub returns-clause-err : goal.returns-clause-err
returns-clause-err c =
    back_err (keep_step c.args.hash.now c.args.text) (record_step c.args.hash.now c.args.text) c.taken.result c.args.steps.now c.keep-noted.result c.taken.ensures c.keep-noted.ensures.noted c.put_back.result c.put_back.new.steps
    c.put_back.ensures.err c.put_back.ensures.steps
