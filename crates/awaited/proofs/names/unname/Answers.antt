use Rattle.awaited.proofs.NameLemmas.{renames_none, unnamed_next, unnamed_all}
use Rattle.awaited.proofs.names.unname.Goals as goal

pub loop-name-init : goal.loop-name-init
loop-name-init c = renames_none c.args.number c.args.pairs.now.keys

pub loop-name-preserved : goal.loop-name-preserved
loop-name-preserved c = unnamed_next c.args.number c.args.names.now c.loop-name.name-index c.loop-name-test.true c.args.pairs.now.keys _ _ c.loop-name.invariant c.remove.ensures.updates.0

pub returns : goal.returns
returns c = unnamed_all c.args.number c.args.names.now c.loop-name.name-index c.loop-name-test.false c.args.pairs.now.keys _ c.loop-name.invariant
