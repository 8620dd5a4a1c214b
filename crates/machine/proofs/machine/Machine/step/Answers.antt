use Rattle.std.proofs.Common.{◌∙◌, ap, subst, sym}
use Rattle.std.proofs.lemmas.Result.{err_from_is_err_and}
use Rattle.run_model.specs.Machine.{Accepts, step}
use Rattle.machine.specs.Held.{IsReady}
use Rattle.machine.specs.View.{state_of}
use Rattle.machine.specs.declared.parts.Parts.{Parts}
use Rattle.machine.proofs.machine.Machine.step.Goals as goal

pub step-requires-clause-ready : goal.step-requires-clause-ready
step-requires-clause-ready g c = subst IsReady (sym c.deref_mut.ensures.value) c.self.invariant

pub step-requires-clause-accepted : goal.step-requires-clause-accepted
step-requires-clause-accepted g c =
    subst (λ (m : Parts). Accepts (state_of m) c.args.input) (sym c.deref_mut.ensures.value)
    (subst (λ s. Accepts s c.args.input) (sym c.self.view_is) c.requires.accepted)

pub step-requires-clause-ranges : goal.step-requires-clause-ranges
step-requires-clause-ranges g c = c.requires.ranges

pub returns-in_err-outs : goal.returns-in_err-outs
returns-in_err-outs g c =
    let p = err_from_is_err_and c.from_residual.result c.from_residual.ensures.1 in
    rw p.1 tt

pub returns : goal.returns
returns g c = (
  c.in_ok-outs.ensures.state
      ∙ ap (λ (m : Parts). (step (state_of m) c.args.input).state) c.deref_mut.ensures.value
      ∙ ap (λ s. (step s c.args.input).state) c.self.view_is,
  c.in_ok-outs.ensures.outs
      ∙ ap (λ (m : Parts). (step (state_of m) c.args.input).outs) c.deref_mut.ensures.value
      ∙ ap (λ s. (step s c.args.input).outs) c.self.view_is,
)

pub invariant_of-result : goal.invariant_of-result
invariant_of-result g c = c.in_ok-outs.ensures.ready
