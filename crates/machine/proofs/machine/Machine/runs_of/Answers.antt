use Rattle.std.proofs.Common.{◌≡◌, ◌∙◌, IfOk, ap, subst}
use Rattle.machine.specs.Words.{runs_of}
use Rattle.machine.proofs.ViewLemmas.{runs-in-order}
use Rattle.machine.proofs.machine.Machine.runs_of.Goals as goal

pub returns : goal.returns
returns c =
    subst (λ numbers. IfOk c.to_numbers.result (λ ns. ns ≡ numbers))
    (runs-in-order _ _ c.as_slice.result.now c.as_slice-2.result.now c.new-runs.result.keys c.add_all.new.set.keys
    c.add_all-2.new.set.keys (c.as_slice.ensures ∙ c.in_ok-live.ensures) (c.as_slice-2.ensures ∙ c.in_ok-ended.ensures)
    c.new-runs.ensures.empty c.in_ok-add_all.ensures c.in_ok-add_all-2.ensures
    ∙ ap (runs_of c.args.event) c.parts-parts.ensures.state)
    c.to_numbers.ensures
