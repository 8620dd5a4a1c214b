use Rattle.std.proofs.Common.{◌∙◌, subst, sym}
use Rattle.machine.specs.Held.{Becomes}
use Rattle.machine.specs.View.{state_of}
use Rattle.machine.specs.declared.replies.Next.TheVariants as next
use Rattle.machine.proofs.HeldMaking.{on-ok}
use Rattle.machine.proofs.HeldWords.{becomes-same}
use Rattle.machine.proofs.Replied.{retried}
use Rattle.machine.proofs.parts.Parts.retry.Goals as goal

pub returns-in-Nothing : goal.returns-in-Nothing
returns-in-Nothing g c =
    let m = c.args.self.now in
    subst (λ s. Becomes s m m)
    (sym (retried c.args.item c.args.after c.args.error.now (state_of m) next.Nothing
    (sym c.in-Nothing.is ∙ c.next_of.ensures.next))) (becomes-same m c.requires.held)

pub returns-in-Want : goal.returns-in-Want
returns-in-Want g c =
    let m = c.args.self.now in
    on-ok c.want.result _ _
    (λ became. subst (λ s. Becomes s m c.want.new.self)
    (sym (retried c.args.item c.args.after c.args.error.now (state_of m) next.Want
    (sym c.in-Want.is ∙ c.next_of.ensures.next))) became) c.want.ensures

pub returns-in-Again : goal.returns-in-Again
returns-in-Again g c =
    let m = c.args.self.now in
    on-ok c.queue_again.result _ _
    (λ became. subst (λ s. Becomes s m c.queue_again.new.self)
    (sym (retried c.args.item c.args.after c.args.error.now (state_of m) next.Again
    (sym c.in-Again.is ∙ c.next_of.ensures.next))) became) c.queue_again.ensures

pub returns-in-Fail : goal.returns-in-Fail
returns-in-Fail g c =
    let m = c.args.self.now in
    on-ok c.fail_run.result _ _
    (λ became. subst (λ s. Becomes s m c.fail_run.new.self)
    (sym (retried c.args.item c.args.after c.args.error.now (state_of m) next.Fail
    (sym c.in-Fail.is ∙ c.next_of.ensures.next))) became) c.fail_run.ensures
