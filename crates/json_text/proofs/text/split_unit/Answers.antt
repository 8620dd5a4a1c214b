-- Four digits are a code unit.
use Rattle.json_text.proofs.Pieces.{unit-none, unit-some}
use Rattle.json_text.proofs.text.split_unit.Goals as goal

pub returns-in_default : goal.returns-in_default
returns-in_default c = unit-none c.args.spelling.now c.in_default.len_below

pub returns-in-len4-up : goal.returns-in-len4-up
returns-in-len4-up c = unit-some c.args.spelling.now c.code_unit.result _ c.in-len4-up.len_at_least c.code_unit.ensures.value c.split_after.ensures
