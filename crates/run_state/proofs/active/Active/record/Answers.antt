use Rattle.run_state.proofs.Names.{grown}
use Rattle.run_state.proofs.active.Active.record.Goals as goal

pub returns-in-Ok-clause-grow : goal.returns-in-Ok-clause-grow
returns-in-Ok-clause-grow c = grown c.args.hash.now c.args.text c.args.self c.add_recorded.new.self c.in-Ok.ensures.ok
