-- The parts of a number are those of the other grammar.
use Rattle.json_text.proofs.OneGrammar.{never-none}
use Rattle.json_text.proofs.laws.numbers_are_numbers.Goals as goal

pub returns : goal.returns
returns c = λ w n e. never-none c.units_of_a_number.ensures w n e
