use Rattle.std.proofs.lemmas.Result.{err_from_is_err_and}
use Rattle.expr.specs.Trees.{tree_of}
use Rattle.cel_eval.specs.Operands.{datum_of}
use Rattle.cel_eval.proofs.TextLemmas.{faulty, valued}
use Rattle.cel_eval.proofs.evaluate.value_over.Goals as goal

pub returns-in_err-worth-clause-value : goal.returns-in_err-worth-clause-value
returns-in_err-worth-clause-value c =
    let p = err_from_is_err_and c.from_residual.result c.from_residual.ensures.1 in
    rw (p.1, p.2) (faulty c.args.expr.now (tree_of c.term.result.now) c.args.scope.now c.in_err-worth.field-0.0 c.term.ensures c.in_err-worth.ensures)

pub returns-clause-value : goal.returns-clause-value
returns-clause-value c =
    valued c.args.expr.now (tree_of c.term.result.now) c.args.scope.now (datum_of c.in_ok-worth.field-0) c.shown.result c.term.ensures c.in_ok-worth.ensures c.shown.ensures.value
