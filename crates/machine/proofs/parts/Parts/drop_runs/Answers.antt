use Rattle.run_model.specs.State.{without_closed}
use Rattle.machine.specs.Tidy.{touched_runs}
use Rattle.machine.proofs.HeldTidy.{last-looked}
use Rattle.machine.proofs.parts.Parts.drop_runs.Goals as goal

pub returns-clause-now : goal.returns-clause-now
returns-clause-now c =
    (last-looked touched_runs without_closed c.args.self.now c.loop.self c.drop_next_run.new.self
    c.in_ok-drop_next_run.field-0 c.if-branch.false c.in_ok-drop_next_run.ensures c.loop.invariant.now).0

pub returns-clause-none : goal.returns-clause-none
returns-clause-none c =
    (last-looked touched_runs without_closed c.args.self.now c.loop.self c.drop_next_run.new.self
    c.in_ok-drop_next_run.field-0 c.if-branch.false c.in_ok-drop_next_run.ensures c.loop.invariant.now).1
