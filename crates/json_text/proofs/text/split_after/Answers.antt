-- A high surrogate has a low one behind it.
use Rattle.std.proofs.Common.{sym, ◌∙◌}
use Rattle.json_text.proofs.Pieces.{after-high, after-plain}
use Rattle.json_text.proofs.text.split_after.Goals as goal

pub returns-then-is_high_surrogate : goal.returns-then-is_high_surrogate
returns-then-is_high_surrogate c = after-high c.args.code c.args.rest.now _ (sym c.is_high_surrogate.ensures ∙ c.if-is_high_surrogate.true) c.split_low.ensures

pub returns-else-is_high_surrogate : goal.returns-else-is_high_surrogate
returns-else-is_high_surrogate c = after-plain c.args.code c.args.rest.now (sym c.is_high_surrogate.ensures ∙ c.if-is_high_surrogate.false)
