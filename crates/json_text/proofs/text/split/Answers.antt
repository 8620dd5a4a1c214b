-- The first byte decides.
use Rattle.std.proofs.Common.{arith}
use Rattle.json_text.proofs.Pieces.{none-empty, none-backslash, none-byte}
use Rattle.json_text.proofs.text.split.Goals as goal

pub returns-in-empty : goal.returns-in-empty
returns-in-empty c = none-empty c.args.spelling.now (omega (arith, c.in-empty.len_below))

pub returns-in-len1-up : goal.returns-in-len1-up
returns-in-len1-up c = none-backslash c.args.spelling.now _ c.in-len1-up.len_at_least c.if-byte-eq92.true c.split_escape.ensures

pub returns-in-len1-up-2 : goal.returns-in-len1-up-2
returns-in-len1-up-2 c = none-byte c.args.spelling.now c.in-len1-up.len_at_least c.if-byte-eq92.false
