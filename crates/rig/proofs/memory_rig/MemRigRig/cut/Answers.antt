use Rattle.rig.proofs.MemoryRigSteps.{does_told, does_tells, cut_does, cut_fits}
use Rattle.rig.proofs.memory_rig.MemRigRig.cut.Goals as goal

pub returns-clause-told : goal.returns-clause-told
returns-clause-told c = does_told c.args.self.now c.do_cut.new.self _ (cut_does c.args.file c.args.len c.do_cut.result c.args.self.now c.do_cut.new.self c.do_cut.ensures.sound c.do_cut.ensures.does)

pub returns-clause-tells : goal.returns-clause-tells
returns-clause-tells c = does_tells c.args.self.now c.do_cut.new.self _ (cut_does c.args.file c.args.len c.do_cut.result c.args.self.now c.do_cut.new.self c.do_cut.ensures.sound c.do_cut.ensures.does)

pub returns-clause-fits : goal.returns-clause-fits
returns-clause-fits c = cut_fits c.args.file c.args.len c.do_cut.result c.args.self.now c.do_cut.new.self c.do_cut.ensures.sound c.do_cut.ensures.does
