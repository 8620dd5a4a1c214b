use Rattle.std.proofs.Common.{◌≡◌, ◌⊎◌, List, subst, Ok, Err}
use Rattle.std.proofs.lemmas.Result.{err_from_is_err_and}
use Rattle.kinds.specs.declared.function.Function.{Function}
use Rattle.serde_json.specs.View.{view}
use Rattle.registry.specs.Functions.{function_of}
use Rattle.registry.specs.declared.fault.RegisterFault.TheVariants.{Memory}
use Rattle.registry.proofs.Arrays.{after_item, at_fault, at_end}
use Rattle.registry.proofs.app.functions_from.Goals as goal

pub returns-in_err-function : goal.returns-in_err-function
returns-in_err-function c =
    let p = err_from_is_err_and c.from_residual.result c.from_residual.ensures.1 in
    let failed = subst (λ (earlier : List Function). (function_of earlier (view c.item-item.result) ≡ Err c.in_err-function.field-0.0) ⊎ (c.in_err-function.field-0.0 ≡ Memory)) c.as_slice.ensures c.in_err-function.ensures in
    rw (p.1, p.2) (at_fault function_of Memory _ c.loop-item.functions c.args.items.now c.loop-item.item-index c.item-item.result c.in_err-function.field-0.0 c.loop-item.invariant c.loop-item-test.true c.item-item.is failed)

pub loop-item-preserved : goal.loop-item-preserved
loop-item-preserved c =
    let read = subst (λ (earlier : List Function). function_of earlier (view c.item-item.result) ≡ Ok c.in_ok-function.function) c.as_slice.ensures c.in_ok-function.ensures in
    rw c.in_ok-push.ensures.ok (after_item function_of _ c.loop-item.functions c.args.items.now c.loop-item.item-index c.item-item.result c.in_ok-function.function c.loop-item.invariant c.loop-item-test.true c.item-item.is read)

pub returns : goal.returns
returns c = at_end function_of _ c.loop-item.functions c.args.items.now c.loop-item.item-index c.loop-item.invariant c.loop-item-test.false
