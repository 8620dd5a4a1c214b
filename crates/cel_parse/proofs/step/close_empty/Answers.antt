use Rattle.cel_parse.specs.Frames.{open_in}
use Rattle.cel_parse.proofs.step.close_empty.Goals as goal

pub returns-in-Some : goal.returns-in-Some
returns-in-Some c = rw c.in-Some.ensures.top (c.empty_list.ensures (open_in c.pop.new.self))
