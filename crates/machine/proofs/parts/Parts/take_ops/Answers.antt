use Rattle.std.proofs.Common.{◌∙◌, subst, sym}
use Rattle.machine.specs.Held.{Becomes}
use Rattle.machine.specs.View.{state_of}
use Rattle.machine.proofs.HeldMaking.{on-ok}
use Rattle.machine.proofs.HeldReplies.{lacks-at, operations-again, operations-aside, operations-on, operations-stop}
use Rattle.machine.proofs.Replied.{ops-lack}
use Rattle.machine.proofs.parts.Parts.take_ops.Goals as goal

pub returns-then-lacks_target : goal.returns-then-lacks_target
returns-then-lacks_target g c =
    let m = c.args.self.now in
    on-ok c.retry_with.result _ _
    (λ became. subst (λ s. Becomes s m c.retry_with.new.self)
    (sym (ops-lack c.args.item c.args.ops c.args.no_retry c.args.after (state_of m)
    (sym (lacks-at c.args.item c.args.ops _ _ c.lacks_target.result c.lacks_target.ensures c.as_slice.ensures c.as_slice-2.ensures) ∙ c.if-lacks_target.true))) became) c.retry_with.ensures

pub returns-in-Stops : goal.returns-in-Stops
returns-in-Stops g c =
    operations-stop c.args.self.now c.take_operations.new.self c.take_operations.new.self c.args.item c.args.ops
    c.args.no_retry c.args.after (sym c.if-lacks_target.false ∙ (lacks-at c.args.item c.args.ops _ _ c.lacks_target.result c.lacks_target.ensures c.as_slice.ensures c.as_slice-2.ensures)) c.in_ok-taken.ensures.now
    c.requires.held (sym c.in-Stops.is ∙ c.in_ok-taken.ensures.taken)

pub retry-requires-clause-aside : goal.retry-requires-clause-aside
retry-requires-clause-aside g c =
    operations-aside c.args.self.now c.take_operations.new.self c.take_operations.new.self c.args.item c.args.ops
    c.args.no_retry c.args.after (sym c.if-lacks_target.false ∙ (lacks-at c.args.item c.args.ops _ _ c.lacks_target.result c.lacks_target.ensures c.as_slice.ensures c.as_slice-2.ensures)) c.in_ok-taken.ensures.now
    c.requires.aside

pub returns-in-Again : goal.returns-in-Again
returns-in-Again g c =
    on-ok c.retry.result _ _
    (λ became. operations-again c.args.self.now c.take_operations.new.self c.retry.new.self c.args.item c.args.ops
    c.args.no_retry c.args.after (sym c.if-lacks_target.false ∙ (lacks-at c.args.item c.args.ops _ _ c.lacks_target.result c.lacks_target.ensures c.as_slice.ensures c.as_slice-2.ensures)) c.in_ok-taken.ensures.now
    (sym c.in-Again.is ∙ c.in_ok-taken.ensures.taken) became) c.retry.ensures

pub after_operations-requires-clause-aside : goal.after_operations-requires-clause-aside
after_operations-requires-clause-aside g c =
    operations-aside c.args.self.now c.take_operations.new.self c.take_operations.new.self c.args.item c.args.ops
    c.args.no_retry c.args.after (sym c.if-lacks_target.false ∙ (lacks-at c.args.item c.args.ops _ _ c.lacks_target.result c.lacks_target.ensures c.as_slice.ensures c.as_slice-2.ensures)) c.in_ok-taken.ensures.now
    c.requires.aside

pub returns-in-GoesOn : goal.returns-in-GoesOn
returns-in-GoesOn g c =
    on-ok c.after_operations.result _ _
    (λ became. operations-on c.args.self.now c.take_operations.new.self c.after_operations.new.self c.args.item
    c.args.ops c.args.no_retry c.args.after (sym c.if-lacks_target.false ∙ (lacks-at c.args.item c.args.ops _ _ c.lacks_target.result c.lacks_target.ensures c.as_slice.ensures c.as_slice-2.ensures))
    c.in_ok-taken.ensures.now (sym c.in-GoesOn.is ∙ c.in_ok-taken.ensures.taken) became) c.after_operations.ensures
