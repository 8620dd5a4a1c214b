use Rattle.std.proofs.Common.{List, sym, subst, Err}
use Rattle.expr.specs.Reading.{Frame, other_branch}
use Rattle.expr.specs.Trees.{tree_of}
use Rattle.cel_parse.specs.Frames.{open_in, Answers}
use Rattle.cel_parse.proofs.Stacks.{lays-fault}
use Rattle.cel_parse.proofs.step.other_branch.Goals as goal

pub returns-in-Err : goal.returns-in-Err
returns-in-Err c = subst (λ (v : List Frame). Answers (open_in c.pop.new.self) (other_branch v (tree_of c.args.tree)) (Err c.in-Err.fault)) (sym c.in-Some.ensures.top)
    (lays-fault (open_in c.pop.new.self) (open_in c.pop.new.self) _ c.in-Err.fault (c.in-Err.ensures (open_in c.pop.new.self)))
