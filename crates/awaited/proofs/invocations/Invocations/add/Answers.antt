use Rattle.std.proofs.Common.{◌<◌, ◌∙◌, refl, sym, subst}
use Rattle.std.specs.List.{AllByRecursion}
use Rattle.ordered.proofs.Listed.{listed_put, listed_back}
use Rattle.timers.proofs.DueLemmas.{below_none}
use Rattle.awaited.specs.Entries.{invocation_number}
use Rattle.awaited.specs.Beside.{step_of}
use Rattle.awaited.proofs.BehindLemmas.{insert_last}
use Rattle.awaited.proofs.StepLemmas.{step_total}
use Rattle.awaited.proofs.invocations.Invocations.add.Goals as goal

pub invariant_of-self-in-Ok : goal.invariant_of-self-in-Ok
invariant_of-self-in-Ok c =
    let below = subst (AllByRecursion (λ e. invocation_number e < invocation_number c.args.invocation)) (sym c.self.view_is) c.requires.below in
    listed_put step_total step_of invocation_number (λ _. 0) c.args.invocation _ _ _ _ _ _ c.self.invariant refl refl
    (below_none invocation_number (invocation_number c.args.invocation) _ below)
    (c.in-Ok.ensures.ok ∙ sym (insert_last invocation_number (λ _. 0) (λ _. refl) c.args.invocation _ below)) c.in_ok-insert.ensures.updates.0

pub invariant_of-self-in-Err : goal.invariant_of-self-in-Err
invariant_of-self-in-Err c =
    let below = subst (AllByRecursion (λ e. invocation_number e < invocation_number c.args.invocation)) (sym c.self.view_is) c.requires.below in
    listed_back step_total step_of invocation_number (c.args.invocation.run, c.args.invocation.hash) c.args.invocation.number c.self.inside.invocations _ _ _ _ c.self.invariant
    (below_none invocation_number (invocation_number c.args.invocation) _ below) c.in-Err.ensures.err c.in_ok-insert.ensures.updates.0 c.remove.ensures.updates.0
