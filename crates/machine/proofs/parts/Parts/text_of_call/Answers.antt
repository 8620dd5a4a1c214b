use Rattle.std.proofs.Common.{◌≡◌, ◌∙◌, IfOk, List, ℕ, Bor, ap, map, subst}
use Rattle.run_model.specs.Making.{text_or_none}
use Rattle.run_model.specs.State.{text_of}
use Rattle.machine.specs.View.{state_of}
use Rattle.machine.proofs.HeldSettle.{call-body}
use Rattle.machine.proofs.parts.Parts.text_of_call.Goals as goal

pub returns-clause-body : goal.returns-clause-body
returns-clause-body c =
    let r = c.args.run.now in
    let s = state_of c.args.self.now in
    subst (λ body. IfOk c.call_text.result (λ text. text.body ≡ body))
    (call-body _ _ c.args.item.now.attempt _ _ _ _ _ _ c.in_ok-id_of.ensures.id c.has_planned.ensures
    (ap (map (λ (t : Bor (List ℕ)). t.now)) c.as_slice-2.ensures.value ∙ c.in_ok-events.ensures
    ∙ ap (map (λ n. text_or_none (text_of n s))) c.events.ensures)
    c.steps.ensures) c.call_text.ensures.body
