-- Six bytes are a backslash, a letter and four digits.
use Rattle.json_text.proofs.Pieces.{low-none, low-some}
use Rattle.json_text.proofs.text.split_low.Goals as goal

pub returns-in_default : goal.returns-in_default
returns-in_default c = low-none c.args.high c.args.spelling.now c.in_default.len_below

pub returns-in-len6-up : goal.returns-in-len6-up
returns-in-len6-up c = low-some c.args.high c.args.spelling.now c.code_unit.result c.surrogate_pair.result c.in-len6-up.len_at_least c.code_unit.ensures.value c.surrogate_pair.ensures
