-- Both are what the reader answers.
use Rattle.json_text.proofs.Faults.{one-value}
use Rattle.json_text.proofs.laws.one_value.Goals as goal

pub returns : goal.returns
returns c = λ w i j h k. one-value w i j h k
