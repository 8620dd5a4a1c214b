use Rattle.rig.proofs.MemoryRigSteps.{does_told, does_tells, write_does}
use Rattle.rig.proofs.memory_rig.MemRigRig.write.Goals as goal

pub returns-clause-told : goal.returns-clause-told
returns-clause-told c = does_told c.args.self.now c.do_write.new.self _ (write_does c.args.file c.args.at c.args.bytes.now c.do_write.result c.args.self.now c.do_write.new.self c.do_write.ensures.sound c.do_write.ensures.does)

pub returns-clause-tells : goal.returns-clause-tells
returns-clause-tells c = does_tells c.args.self.now c.do_write.new.self _ (write_does c.args.file c.args.at c.args.bytes.now c.do_write.result c.args.self.now c.do_write.new.self c.do_write.ensures.sound c.do_write.ensures.does)
