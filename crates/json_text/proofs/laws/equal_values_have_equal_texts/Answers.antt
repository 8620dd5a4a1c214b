-- Both ways, by the parts of the two values.
use Rattle.json_text.proofs.EqualTexts.{compared-by-parts, same-texts}
use Rattle.json_text.proofs.laws.equal_values_have_equal_texts.Goals as goal

pub returns-clause-texts : goal.returns-clause-texts
returns-clause-texts c = λ a b v w e f. same-texts a b v w e f

pub returns-clause-compared : goal.returns-clause-compared
returns-clause-compared c = λ a b. compared-by-parts a b
