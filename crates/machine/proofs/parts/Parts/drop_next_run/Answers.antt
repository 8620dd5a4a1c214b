use Rattle.std.proofs.Common.{◌∙◌, sym}
use Rattle.machine.proofs.HeldTidy.{looked-run}
use Rattle.machine.proofs.parts.Parts.drop_next_run.Goals as goal

pub returns : goal.returns
returns c =
    looked-run c.args.self.now c.look_at_run.new.self c.in-Some.run' c.pop_first.result c.pop_first.new.self
    (sym c.in-Some.is ∙ c.first.ensures) c.in_ok-look_at_run.ensures.now c.in_ok-look_at_run.ensures.runs
    c.pop_first.ensures c.requires.held
