-- Where a bracket was open, its value is a part of the one around it.
use Rattle.std.proofs.Common.{refl}
use Rattle.json_text.proofs.Shown.{close-true, close-false}
use Rattle.json_text.proofs.reader.Reader.close.Goals as goal

pub returns-then-not-branch : goal.returns-then-not-branch
returns-then-not-branch c = λ w byte f fs h. close-false w c.args.self.now _ c.args.at byte f fs _ c.not_json.ensures (c.in_ok-close.ensures.outermost c.if-not-branch.true) h

pub returns : goal.returns
returns c = λ w byte f fs h. close-true w c.args.self.now _ c.args.at byte f fs _ (c.in_ok-close.ensures.closed c.if-not-branch.false) (c.in_ok-close.ensures.inside c.if-not-branch.false) refl tt h
