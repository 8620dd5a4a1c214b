-- The mode of a number's first byte, and of a word's.
use Rattle.std.proofs.Common.{sym, ◌∙◌}
use Rattle.json_text.proofs.Arms.{begins-numeral, begins-null, begins-true, begins-false}
use Rattle.json_text.proofs.reader.token_mode.Goals as goal

pub returns-in-Some : goal.returns-in-Some
returns-in-Some c = begins-numeral c.args.byte c.in-Some.stage (sym c.next.ensures ∙ c.in-Some.is)

pub returns-in-110 : goal.returns-in-110
returns-in-110 c = begins-null c.args.byte c.in-110.is

pub returns-in-116 : goal.returns-in-116
returns-in-116 c = begins-true c.args.byte c.in-116.is

pub returns-in-102 : goal.returns-in-102
returns-in-102 c = begins-false c.args.byte c.in-102.is
