use Rattle.std.proofs.Common.{false, refl}
use Rattle.run_model.specs.State.{without_unnamed}
use Rattle.machine.specs.Tidy.{touched_versions}
use Rattle.machine.proofs.HeldTidy.{last-looked}
use Rattle.machine.proofs.parts.Parts.drop_versions.Goals as goal

pub returns-clause-now : goal.returns-clause-now
returns-clause-now c =
    (last-looked touched_versions without_unnamed c.args.self.now c.loop.self c.drop_next_version.new.self false refl
    c.loop-test.ensures.now c.loop.invariant.now).0

pub returns-clause-none : goal.returns-clause-none
returns-clause-none c =
    (last-looked touched_versions without_unnamed c.args.self.now c.loop.self c.drop_next_version.new.self false refl
    c.loop-test.ensures.now c.loop.invariant.now).1
