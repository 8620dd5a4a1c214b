use Rattle.rig.proofs.MemoryRigSteps.{does_told, does_tells, sync_does}
use Rattle.rig.proofs.memory_rig.MemRigRig.sync.Goals as goal

pub returns-clause-told : goal.returns-clause-told
returns-clause-told c = does_told c.args.self.now c.do_sync.new.self _ (sync_does c.args.file c.do_sync.result c.args.self.now c.do_sync.new.self c.do_sync.ensures.sound c.do_sync.ensures.does)

pub returns-clause-tells : goal.returns-clause-tells
returns-clause-tells c = does_tells c.args.self.now c.do_sync.new.self _ (sync_does c.args.file c.do_sync.result c.args.self.now c.do_sync.new.self c.do_sync.ensures.sound c.do_sync.ensures.does)
