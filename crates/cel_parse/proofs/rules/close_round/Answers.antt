use Rattle.cel_parse.proofs.rules.close_round.Goals as goal

pub returns-in-Some : goal.returns-in-Some
returns-in-Some c = rw c.in-Some.ensures (c.round_of.ensures c.pop.new.self)
