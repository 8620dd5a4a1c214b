-- The byte behind a backslash decides.
use Rattle.std.proofs.Common.{arith}
use Rattle.json_text.proofs.Pieces.{backslash-empty, backslash-unit, backslash-byte}
use Rattle.json_text.proofs.text.split_escape.Goals as goal

pub returns-in-empty : goal.returns-in-empty
returns-in-empty c = backslash-empty c.args.spelling.now (omega (arith, c.in-empty.len_below))

pub returns-in-len1-up : goal.returns-in-len1-up
returns-in-len1-up c = backslash-unit c.args.spelling.now _ c.in-len1-up.len_at_least c.if-byte-eq117.true c.split_unit.ensures

pub returns-in-len1-up-2 : goal.returns-in-len1-up-2
returns-in-len1-up-2 c = backslash-byte c.args.spelling.now c.short_meaning.result c.in-len1-up.len_at_least c.if-byte-eq117.false c.short_meaning.ensures
