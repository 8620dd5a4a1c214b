use Rattle.std.proofs.Common.{◌∙◌, ap}
use Rattle.expr.specs.Trees.{trees_of}
use Rattle.cel_parse.proofs.Stacks.{trees-end}
use Rattle.cel_parse.proofs.step.with_item.Goals as goal

pub returns : goal.returns
returns c = ap trees_of c.in_ok-push.ensures.items ∙ trees-end c.args.items.items c.args.item
