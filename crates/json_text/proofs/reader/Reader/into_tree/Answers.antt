-- With no bracket open, the entries are those of the one value.
use Rattle.std.proofs.Common.{◌≤◌, subst}
use Rattle.json_text.proofs.Whole.{into-stands, into-is}
use Rattle.json_text.proofs.reader.Reader.into_tree.Goals as goal

pub invariant_of-result : goal.invariant_of-result
invariant_of-result c = let r = c.requires in into-stands c.args.self.bytes.now c.args.self r.0 r.1 r.2 (subst (λ n. n ≤ 0) c.depth.ensures c.if-depth-gt0.false)

pub returns-clause-value : goal.returns-clause-value
returns-clause-value c = λ f fs h. into-is c.args.self.bytes.now c.args.self f fs h (subst (λ n. n ≤ 0) c.depth.ensures c.if-depth-gt0.false)
