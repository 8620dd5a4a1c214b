use Rattle.cel_parse.proofs.Readings.{spelled-parses, parsed-spelled}
use Rattle.cel_parse.proofs.laws.parsed.Goals as goal

pub returns-clause-ok : goal.returns-clause-ok
returns-clause-ok c = spelled-parses

pub returns-clause-tree : goal.returns-clause-tree
returns-clause-tree c = parsed-spelled
