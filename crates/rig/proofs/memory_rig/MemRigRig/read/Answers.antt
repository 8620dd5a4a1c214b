use Rattle.rig.proofs.MemoryRigSteps.{does_told, does_tells, read_does}
use Rattle.rig.proofs.memory_rig.MemRigRig.read.Goals as goal

pub returns-clause-told : goal.returns-clause-told
returns-clause-told c = does_told c.args.self.now c.do_read.new.self _ (read_does c.args.file c.args.at _ c.do_read.new.buf c.do_read.result c.args.self.now c.do_read.new.self c.do_read.ensures)

pub returns-clause-tells : goal.returns-clause-tells
returns-clause-tells c = does_tells c.args.self.now c.do_read.new.self _ (read_does c.args.file c.args.at _ c.do_read.new.buf c.do_read.result c.args.self.now c.do_read.new.self c.do_read.ensures)
