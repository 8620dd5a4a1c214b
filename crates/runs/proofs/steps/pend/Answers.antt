use Rattle.kinds.specs.RunSteps.{note_pending, pend_step}
use Rattle.runs.proofs.Noting.{pend_adds, back_ok, back_err}
use Rattle.runs.proofs.steps.pend.Goals as goal

pub returns-clause-ok : goal.returns-clause-ok
returns-clause-ok c =
    back_ok (note_pending c.args.hash.now c.args.kind) (pend_step c.args.hash.now c.args.kind) c.taken.result c.args.steps.now c.pend-noted.result c.taken.ensures c.pend-noted.ensures.noted c.put_back.result c.put_back.new.steps
    (pend_adds c.args.hash.now c.args.kind) c.put_back.ensures.ok c.put_back.ensures.steps

pub returns-clause-err : goal.returns-clause-err
returns-clause-err c =
    back_err (note_pending c.args.hash.now c.args.kind) (pend_step c.args.hash.now c.args.kind) c.taken.result c.args.steps.now c.pend-noted.result c.taken.ensures c.pend-noted.ensures.noted c.put_back.result c.put_back.new.steps
    c.put_back.ensures.err c.put_back.ensures.steps
