use Rattle.std.proofs.Common.{inl}
use Rattle.expr.specs.Trees.{tree_of}
use Rattle.cel_parse.proofs.Readings.{long-text, walked-tree, whole-answers, fault-answers}
use Rattle.cel_parse.proofs.parser.parse.Goals as goal

pub returns-then-text-gt-LONGEST : goal.returns-then-text-gt-LONGEST
returns-then-text-gt-LONGEST c = inl (long-text c.args.text.now c.if-text-gt-LONGEST.true)

pub whole-requires : goal.whole-requires
whole-requires c = walked-tree c.args.text.now (tree_of c.in-Ok.term) c.if-text-gt-LONGEST.false c.in-Ok.ensures

pub returns-in-Ok : goal.returns-in-Ok
returns-in-Ok c = whole-answers c.args.text.now (tree_of c.in-Ok.term) c.whole.result c.if-text-gt-LONGEST.false c.in-Ok.ensures c.whole.ensures

pub returns-in-Err : goal.returns-in-Err
returns-in-Err c = fault-answers c.args.text.now c.in-Err.fault c.fault_of.result c.if-text-gt-LONGEST.false c.in-Err.ensures c.fault_of.ensures
