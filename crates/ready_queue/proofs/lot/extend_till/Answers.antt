use Rattle.std.proofs.Common.{◌∙◌, ap, sym, Some}
use Rattle.std.proofs.lemmas.Map.Steps.{set_value_same}
use Rattle.ready_queue.proofs.lot.extend_till.Goals as goal

pub returns-in-Err-clause-err : goal.returns-in-Err-clause-err
returns-in-Err-clause-err c =
    (c.get_mut.follows.holds c.insert.new.self).0 ∙ set_value_same _ _ c.insert.new.self (sym c.in-Some.ensures.value ∙ ap Some (sym c.in-Err.ensures.err))
