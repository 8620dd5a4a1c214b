use Rattle.expr.specs.Trees.{tree_of}
use Rattle.cel_parse.proofs.Stacks.{no-test}
use Rattle.cel_parse.proofs.step.other_branch_frame.Goals as goal

pub returns : goal.returns
returns c = λ fs. no-test c.args.frame (tree_of c.args.tree) fs c.in_default.not-Test
