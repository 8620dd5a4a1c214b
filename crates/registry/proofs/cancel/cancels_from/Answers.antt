use Rattle.std.proofs.lemmas.Result.{err_from_is_err_and}
use Rattle.registry.specs.Flows.{cancel_of}
use Rattle.registry.specs.declared.flaw.Flaw.TheVariants.{Memory}
use Rattle.registry.proofs.Arrays.{after_item, at_fault, at_end}
use Rattle.registry.proofs.cancel.cancels_from.Goals as goal

pub returns-in_err-cancel_of : goal.returns-in_err-cancel_of
returns-in_err-cancel_of c =
    let p = err_from_is_err_and c.from_residual.result c.from_residual.ensures.1 in
    rw (p.1, p.2) (at_fault (λ _. cancel_of) Memory _ c.loop-item.cancels c.args.items.now c.loop-item.item-index c.item-item.result c.in_err-cancel_of.field-0.0 c.loop-item.invariant c.loop-item-test.true c.item-item.is c.in_err-cancel_of.ensures)

pub loop-item-preserved : goal.loop-item-preserved
loop-item-preserved c =
    rw c.in_ok-push.ensures.ok (after_item (λ _. cancel_of) _ c.loop-item.cancels c.args.items.now c.loop-item.item-index c.item-item.result c.in_ok-cancel_of.field-0 c.loop-item.invariant c.loop-item-test.true c.item-item.is c.in_ok-cancel_of.ensures)

pub returns : goal.returns
returns c = at_end (λ _. cancel_of) _ c.loop-item.cancels c.args.items.now c.loop-item.item-index c.loop-item.invariant c.loop-item-test.false
