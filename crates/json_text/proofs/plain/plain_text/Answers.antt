-- No byte between the quotes is a backslash.
use Rattle.std.proofs.Common.{◌∙◌, ap, sym}
use Rattle.json_text.specs.Plain.{is_plain}
use Rattle.json_text.proofs.PlainLemmas.{plain-spelling}
use Rattle.json_text.proofs.plain.plain_text.Goals as goal

pub returns-then-is_plain-clause-text : goal.returns-then-is_plain-clause-text
returns-then-is_plain-clause-text c =
    let is = c.inside-text.ensures in
    is ∙ plain-spelling c.args.spelling.now (ap is_plain (sym is) ∙ sym c.is_plain.ensures ∙ c.if-is_plain.true)
