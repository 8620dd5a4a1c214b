-- The 65th bracket is too deep.
use Rattle.std.proofs.Common.{◌<◌, ◌≤◌, refl, subst}
use Rattle.json_text.proofs.Shown.{open-answer, deep-answer}
use Rattle.json_text.proofs.reader.Reader.open.Goals as goal

pub returns-then-depth-ge-MAX_DEPTH : goal.returns-then-depth-ge-MAX_DEPTH
returns-then-depth-ge-MAX_DEPTH c = λ w byte f fs h. deep-answer w c.args.self.now c.args.self.now c.args.at byte c.args.turn f fs (subst (λ n. 64 ≤ n) c.depth.ensures c.if-depth-ge-MAX_DEPTH.true) h

pub returns : goal.returns
returns c = λ w byte f fs h. open-answer w c.args.self.now _ c.args.at byte c.args.turn f fs _ (subst (λ n. n < 64) c.depth.ensures c.if-depth-ge-MAX_DEPTH.false) c.in_ok-open.ensures refl tt h
