use Rattle.cel_parse.proofs.Stacks.{no-list}
use Rattle.cel_parse.proofs.step.empty_list.Goals as goal

pub returns-in-Square : goal.returns-in-Square
returns-in-Square c = λ fs. rw c.in-Square.is (c.no_items.ensures fs)

pub returns : goal.returns
returns c = λ fs. no-list c.args.frame fs c.in_default.not-Square
