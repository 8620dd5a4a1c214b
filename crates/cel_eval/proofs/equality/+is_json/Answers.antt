use Rattle.std.proofs.Common.{◌≡◌, ◌<◌, ◌∙◌, sym, ap, arith, rules, length, Some, None, true, false, get_or}
use Rattle.std.specs.Prelude.{slice_get}
use Rattle.std.proofs.lemmas.Grind.{common_steps}
use Rattle.json_text.specs.Nodes.{items_of}
use Rattle.cel_eval.specs.Equality.{is_json}
use Rattle.cel_eval.specs.Operands.{datum_of}
use Rattle.cel_eval.proofs.LoopLemmas.{parts_end, parts_step, parts_differ}
use Rattle.cel_eval.proofs.equality.+is_json.Goals as goal

pub are_parts-returns-in_default : goal.are_parts-returns-in_default
are_parts-returns-in_default t c =
    let e : slice_get (items_of c.args.part.now) c.loop-k.k ≡ None = cc in
    let h : c.loop-k.k < length c.args.items.now.items = omega (arith, ap length c.deref-item-items.ensures.value) in
    sym (c.loop-k.invariant ∙ parts_end c.args.items.now.items (items_of c.args.part.now) c.loop-k.k c.item-item.result h e)

pub are_parts-returns-then-not-branch : goal.are_parts-returns-then-not-branch
are_parts-returns-then-not-branch t c =
    let e : slice_get (items_of c.args.part.now) c.loop-k.k ≡ Some c.in-Some.value = cc in
    let h : c.loop-k.k < length c.args.items.now.items = omega (arith, ap length c.deref-item-items.ensures.value) in
    let i : get_or c.args.items.now.items c.loop-k.k c.item-item.result ≡ c.item-item.result = cc in
    let d : is_json (datum_of (get_or c.args.items.now.items c.loop-k.k c.item-item.result)) c.in-Some.value ≡ false = rw i (first_of (grind (arith, common_steps, c.in_ok-is_json.ensures, c.if-not-branch.true), search (rules, c.in_ok-is_json.ensures, c.if-not-branch.true))) in
    sym (c.loop-k.invariant ∙ parts_differ c.args.items.now.items (items_of c.args.part.now) c.loop-k.k c.item-item.result c.in-Some.value h e d)

pub are_parts-loop-k-preserved : goal.are_parts-loop-k-preserved
are_parts-loop-k-preserved t c =
    let e : slice_get (items_of c.args.part.now) c.loop-k.k ≡ Some c.in-Some.value = cc in
    let h : c.loop-k.k < length c.args.items.now.items = omega (arith, ap length c.deref-item-items.ensures.value) in
    let i : get_or c.args.items.now.items c.loop-k.k c.item-item.result ≡ c.item-item.result = cc in
    let d : is_json (datum_of (get_or c.args.items.now.items c.loop-k.k c.item-item.result)) c.in-Some.value ≡ true = rw i (first_of (grind (arith, common_steps, c.in_ok-is_json.ensures, c.if-not-branch.false), search (rules, c.in_ok-is_json.ensures, c.if-not-branch.false))) in
    c.loop-k.invariant ∙ parts_step c.args.items.now.items (items_of c.args.part.now) c.loop-k.k c.item-item.result c.in-Some.value h e d
