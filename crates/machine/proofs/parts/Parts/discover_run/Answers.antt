use Rattle.std.proofs.Common.{◌∙◌, refl, subst, sym}
use Rattle.machine.specs.Held.{Becomes}
use Rattle.machine.specs.View.{state_of}
use Rattle.run_model.specs.State.{live_run}
use Rattle.machine.proofs.Discovered.{at-unwanted, at-wanted}
use Rattle.machine.proofs.HeldMaking.{on-ok}
use Rattle.machine.proofs.HeldWords.{becomes-same}
use Rattle.machine.proofs.parts.Parts.discover_run.Goals as goal

pub returns-then-wants-clause-now : goal.returns-then-wants-clause-now
returns-then-wants-clause-now c =
    let m = c.args.self.now in
    on-ok c.queue_new.result _ _
    (λ became. subst (λ s. Becomes s m c.queue_new.new.self)
    (sym (at-wanted c.args.run (live_run c.args.run (state_of m)) (state_of m) refl
    (sym c.wants.ensures ∙ c.if-wants.true))) became) c.queue_new.ensures.now

pub returns-else-wants-clause-now : goal.returns-else-wants-clause-now
returns-else-wants-clause-now c =
    let m = c.args.self.now in
    subst (λ s. Becomes s m m)
    (sym (at-unwanted c.args.run (live_run c.args.run (state_of m)) (state_of m) refl
    (sym c.wants.ensures ∙ c.if-wants.false))) (becomes-same m c.requires.held)
