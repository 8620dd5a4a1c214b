use Rattle.rig.proofs.MemoryRigSteps.{does_told, does_tells, attach_does}
use Rattle.rig.proofs.memory_rig.MemRigRig.attach.Goals as goal

pub returns-clause-told : goal.returns-clause-told
returns-clause-told c = does_told c.args.self.now c.do_attach.new.self _ (attach_does c.args.dir.now c.do_attach.result c.args.self.now c.do_attach.new.self c.do_attach.ensures)

pub returns-clause-tells : goal.returns-clause-tells
returns-clause-tells c = does_tells c.args.self.now c.do_attach.new.self _ (attach_does c.args.dir.now c.do_attach.result c.args.self.now c.do_attach.new.self c.do_attach.ensures)
