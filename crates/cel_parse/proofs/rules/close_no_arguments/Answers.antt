use Rattle.cel_parse.proofs.rules.close_no_arguments.Goals as goal

pub returns-in-Some : goal.returns-in-Some
returns-in-Some c = rw c.in-Some.ensures (c.empty_call.ensures c.pop.new.self)
