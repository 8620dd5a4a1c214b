use Rattle.cel_parse.proofs.Stacks.{pop-top, pop-fewer, popped}
use Rattle.cel_parse.proofs.frame.Stack.pop.Goals as goal

pub returns-clause-top : goal.returns-clause-top
returns-clause-top c = pop-top _ _ c.pop.result c.pop.ensures.items (popped c.args.self.now.frames c.pop.new.self c.pop.result c.pop.ensures.cases)

pub returns-clause-fewer : goal.returns-clause-fewer
returns-clause-fewer c = pop-fewer _ _ c.pop.result c.pop.ensures.items (popped c.args.self.now.frames c.pop.new.self c.pop.result c.pop.ensures.cases)
