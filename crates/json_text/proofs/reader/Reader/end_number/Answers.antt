-- Where the number may end, its value is put, and the byte is behind it.
use Rattle.std.proofs.Common.{sym, ◌∙◌}
use Rattle.json_text.proofs.Shown.{not-json-answer}
use Rattle.json_text.proofs.Arms.{number-ends, number-stops}
use Rattle.json_text.proofs.reader.Reader.end_number.Goals as goal

pub returns : goal.returns
returns c = λ w m f fs n i h. number-ends w c.args.self.now c.put.new.self c.after.new.self c.args.at c.args.byte c.args.stage m f fs _ c.put.ensures.kept c.in_ok-put.ensures.put n
    (sym c.may_end.ensures ∙ c.if-not-may_end.false) i h (λ g k. c.after.ensures c.in_ok-put.ensures.mode w g fs k)

pub returns-then-not-may_end : goal.returns-then-not-may_end
returns-then-not-may_end c = λ w m f fs n i h. not-json-answer w c.args.at _ _ _ c.not_json.ensures (number-stops c.args.byte c.args.stage m f fs n (sym c.may_end.ensures ∙ c.if-not-may_end.true) i)
