use Rattle.std.proofs.lemmas.Result.{err_from_is_err_and}
use Rattle.registry.specs.Triggers.{trigger_of}
use Rattle.registry.specs.declared.flaw.Flaw.TheVariants.{Memory}
use Rattle.registry.proofs.Arrays.{after_item, at_fault, at_end}
use Rattle.registry.proofs.trigger.triggers_from.Goals as goal

pub returns-in_err-trigger_of : goal.returns-in_err-trigger_of
returns-in_err-trigger_of c =
    let p = err_from_is_err_and c.from_residual.result c.from_residual.ensures.1 in
    rw (p.1, p.2) (at_fault (λ _. trigger_of) Memory _ c.loop-item.triggers c.args.items.now c.loop-item.item-index c.item-item.result c.in_err-trigger_of.field-0.0 c.loop-item.invariant c.loop-item-test.true c.item-item.is c.in_err-trigger_of.ensures)

pub loop-item-preserved : goal.loop-item-preserved
loop-item-preserved c =
    rw c.in_ok-push.ensures.ok (after_item (λ _. trigger_of) _ c.loop-item.triggers c.args.items.now c.loop-item.item-index c.item-item.result c.in_ok-trigger_of.field-0 c.loop-item.invariant c.loop-item-test.true c.item-item.is c.in_ok-trigger_of.ensures)

pub returns : goal.returns
returns c = at_end (λ _. trigger_of) _ c.loop-item.triggers c.args.items.now c.loop-item.item-index c.loop-item.invariant c.loop-item-test.false
