use Rattle.std.proofs.Common.{List, sym, subst, Err}
use Rattle.expr.specs.Reading.{Frame, next_item}
use Rattle.expr.specs.Trees.{tree_of}
use Rattle.cel_parse.specs.Frames.{open_in, Answers}
use Rattle.cel_parse.proofs.Stacks.{lays-fault}
use Rattle.cel_parse.proofs.step.next_item.Goals as goal

pub returns-in-Err : goal.returns-in-Err
returns-in-Err c = subst (λ (v : List Frame). Answers (open_in c.pop.new.self) (next_item v (tree_of c.args.tree)) (Err c.in-Err.fault)) (sym c.in-Some.ensures.top)
    (lays-fault (open_in c.pop.new.self) (open_in c.pop.new.self) _ c.in-Err.fault (c.in-Err.ensures (open_in c.pop.new.self)))
