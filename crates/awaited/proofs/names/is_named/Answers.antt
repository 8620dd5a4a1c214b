use Rattle.std.proofs.Common.{◌≡◌}
use Rattle.ordered.proofs.Listed.{at_first}
use Rattle.awaited.proofs.NameLemmas.{zero_first, first_named}
use Rattle.awaited.proofs.names.is_named.Goals as goal

pub returns-in_default : goal.returns-in_default
returns-in_default c = λ n. (c.range.ensures.in_range tt).5 c.in_default.ensures.steps.0 (c.args.name, n) (zero_first c.args.name n, tt)

pub returns : goal.returns
returns c =
    first_named c.args.pairs.now.keys c.args.name c.in-Some.field-0.now.0 c.in-Some.field-0.now.1
    (at_first _ _ _ _ c.in-Some.ensures.steps (c.range.ensures.in_range tt).1).1
    (at_first _ _ _ _ c.in-Some.ensures.steps (c.range.ensures.in_range tt).1).0.0
    (λ m h. at_first _ _ _ _ c.in-Some.ensures.steps ((c.range.ensures.in_range tt).2 (c.args.name, m) (zero_first c.args.name m, tt) h))
