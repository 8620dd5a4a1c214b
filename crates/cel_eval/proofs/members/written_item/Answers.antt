use Rattle.std.proofs.Common.{◌≡◌, ap, ◌∙◌, sym, inl, Some, arith, length, ◌≤◌, ◌<◌}
use Rattle.cel_eval.specs.Operations.{found}
use Rattle.cel_eval.specs.Operands.{datum_of}
use Rattle.cel_eval.proofs.ItemLemmas.{item_there, no_item}
use Rattle.cel_eval.proofs.members.written_item.Goals as goal

pub returns-then-k-len : goal.returns-then-k-len
returns-then-k-len c =
    let h = item_there c.args.items.items c.args.k c.swap_remove.result (omega (arith, c.if-k-len.true, c.len.ensures, c.args.items.ok.0)) in
    ap found h ∙ ap (λ o. found (Some (datum_of o))) (sym c.swap_remove.ensures.value)

pub returns : goal.returns
returns c = inl (ap found (no_item c.args.items.items c.args.k (omega (arith, c.if-k-len.false, c.len.ensures, c.args.items.ok.0))))
