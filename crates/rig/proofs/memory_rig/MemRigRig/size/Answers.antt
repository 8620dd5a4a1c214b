use Rattle.rig.proofs.MemoryRigSteps.{does_told, does_tells, size_does, size_fits}
use Rattle.rig.proofs.memory_rig.MemRigRig.size.Goals as goal

pub returns-clause-told : goal.returns-clause-told
returns-clause-told c = does_told c.args.self.now c.do_size.new.self _ (size_does c.args.file c.do_size.result c.args.self.now c.do_size.new.self c.do_size.ensures.does)

pub returns-clause-tells : goal.returns-clause-tells
returns-clause-tells c = does_tells c.args.self.now c.do_size.new.self _ (size_does c.args.file c.do_size.result c.args.self.now c.do_size.new.self c.do_size.ensures.does)

pub returns-clause-fits : goal.returns-clause-fits
returns-clause-fits c = size_fits c.args.file c.do_size.result c.args.self.now c.do_size.new.self c.do_size.ensures.sound c.do_size.ensures.does
