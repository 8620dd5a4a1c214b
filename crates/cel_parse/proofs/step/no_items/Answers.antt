use Rattle.std.proofs.Common.{sym, ◌∙◌, ap, length}
use Rattle.expr.specs.Reading.{goes, have, held}
use Rattle.expr.specs.Tree.{Tree}
use Rattle.cel_parse.proofs.Stacks.{full-refused, empty-closes, is-zero, not-zero}
use Rattle.cel_parse.proofs.step.no_items.Goals as goal

pub returns-then-is_none : goal.returns-then-is_none
returns-then-is_none c = λ fs.
    empty-closes c.args.items.items fs (sym (ap length c.as_slice.ensures.value) ∙ is-zero _ c.is_none.result c.is_none.ensures c.if-is_none.true)
    ∙ ap (λ (t : Tree). goes (have (held fs t))) (sym c.list_of.ensures)

pub returns : goal.returns
returns c = λ fs. full-refused c.args.items.items fs (λ e. not-zero _ c.is_none.result c.is_none.ensures c.if-is_none.false (ap length c.as_slice.ensures.value ∙ e))
