use Rattle.cel_parse.proofs.Stops.{text-stops, text-deep}
use Rattle.cel_parse.proofs.laws.places.Goals as goal

pub returns-clause-syntax : goal.returns-clause-syntax
returns-clause-syntax c = text-stops

pub returns-clause-deep : goal.returns-clause-deep
returns-clause-deep c = text-deep
