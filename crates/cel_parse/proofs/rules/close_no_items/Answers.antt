use Rattle.cel_parse.proofs.rules.close_no_items.Goals as goal

pub returns-in-Some : goal.returns-in-Some
returns-in-Some c = rw c.in-Some.ensures (c.empty_list.ensures c.pop.new.self)
