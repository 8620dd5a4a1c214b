use Rattle.std.proofs.Common.{◌∙◌}
use Rattle.std.proofs.lemmas.Result.{err_from_is_err_and}
use Rattle.top.proofs.SaysLemmas.{fault-first, fault-last, fault-number}
use Rattle.top.proofs.entry.say_script_fault.Goals as goal

pub returns-in_err-say : goal.returns-in_err-say
returns-in_err-say g c =
    let p = err_from_is_err_and c.from_residual.result c.from_residual.ensures.1 in
    rw p.1 (fault-first c.args.line _ _ c.in_err-say.ensures)

pub returns-in_err-say-2 : goal.returns-in_err-say-2
returns-in_err-say-2 g c =
    let p = err_from_is_err_and c.from_residual-in_err-say-2.result c.from_residual-in_err-say-2.ensures.1 in
    rw p.1 (fault-number c.args.line c.as_bytes.result.now _ _ _ (c.as_bytes.ensures.value ∙ c.format.ensures.text) c.in_ok-say.ensures c.in_err-say-2.ensures)

pub returns : goal.returns
returns g c = fault-last c.args.line c.as_bytes.result.now _ _ _ _ _ (c.as_bytes.ensures.value ∙ c.format.ensures.text) c.in_ok-say.ensures c.in_ok-say-2.ensures c.say-3.ensures
