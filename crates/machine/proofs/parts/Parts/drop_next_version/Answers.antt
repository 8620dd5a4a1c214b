use Rattle.std.proofs.Common.{◌∙◌, sym}
use Rattle.machine.proofs.HeldNamed.{looked-version}
use Rattle.machine.proofs.parts.Parts.drop_next_version.Goals as goal

pub returns-clause-now : goal.returns-clause-now
returns-clause-now c =
    looked-version c.args.self.now c.look_at_version.new.self c.in-Some.version c.pop_first.result
    c.pop_first.new.self (sym c.in-Some.is ∙ c.first.ensures) c.look_at_version.ensures.now
    c.look_at_version.ensures.loose c.pop_first.ensures c.requires.held
