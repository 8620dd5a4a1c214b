-- As the reading of units has it.
use Rattle.std.proofs.Common.{refl}
use Rattle.text_num.specs.Units.{units_of}
use Rattle.text_num.proofs.UnitsLemmas.{units_at}
use Rattle.text_num.proofs.laws.units_of_a_number.Goals as goal

pub returns : goal.returns
returns c = λ text number is. units_at text (units_of text) refl number is
