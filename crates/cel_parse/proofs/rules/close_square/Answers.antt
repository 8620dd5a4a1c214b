use Rattle.cel_parse.proofs.rules.close_square.Goals as goal

pub returns-in-Some : goal.returns-in-Some
returns-in-Some c = rw c.in-Some.ensures (c.square_of.ensures c.pop.new.self)
