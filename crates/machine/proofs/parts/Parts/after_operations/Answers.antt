use Rattle.std.proofs.Common.{◌∙◌, refl, subst, sym}
use Rattle.machine.specs.Held.{Becomes}
use Rattle.machine.specs.View.{state_of}
use Rattle.run_model.specs.State.{live_run}
use Rattle.machine.proofs.HeldMaking.{on-ok}
use Rattle.machine.proofs.HeldWords.{becomes-same}
use Rattle.machine.proofs.Replied.{busy-found, idle-found}
use Rattle.machine.proofs.parts.Parts.after_operations.Goals as goal

pub returns-then-is_idle : goal.returns-then-is_idle
returns-then-is_idle g c =
    let m = c.args.self.now in
    on-ok c.retry_with.result _ _
    (λ became. subst (λ s. Becomes s m c.retry_with.new.self)
    (sym (idle-found c.args.item c.args.after (live_run c.args.item.run (state_of m)) (state_of m) refl
    (sym c.is_idle.ensures ∙ c.if-is_idle.true))) became) c.retry_with.ensures

pub returns : goal.returns
returns g c =
    let m = c.args.self.now in
    subst (λ s. Becomes s m m)
    (sym (busy-found c.args.item c.args.after (live_run c.args.item.run (state_of m)) (state_of m)
    (sym c.is_idle.ensures ∙ c.if-is_idle.false))) (becomes-same m c.requires.held)
