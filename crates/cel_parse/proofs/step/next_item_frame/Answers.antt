use Rattle.expr.specs.Trees.{tree_of}
use Rattle.cel_parse.proofs.Stacks.{no-item}
use Rattle.cel_parse.proofs.step.next_item_frame.Goals as goal

pub returns : goal.returns
returns c = λ fs. no-item c.args.frame (tree_of c.args.tree) fs c.in_default.not-Square
