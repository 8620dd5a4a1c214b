-- The first node is the whole.
use Rattle.std.proofs.Common.{ap, arith, length, get_or}
use Rattle.json_text.proofs.Walking.{nodes-are}
use Rattle.json_text.specs.Grammar.{null}
use Rattle.json_text.proofs.tree.Tree.root.Goals as goal

pub returns-clause-node : goal.returns-clause-node
returns-clause-node c = let e = ap length (nodes-are c.args.self.now.value) in omega (arith, e)

pub returns-clause-value : goal.returns-clause-value
returns-clause-value c = ap (λ xs. get_or xs 0 null) (nodes-are c.args.self.now.value)
