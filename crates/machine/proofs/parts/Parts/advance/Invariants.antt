use Rattle.std.proofs.Common.{◌-◌}
use Rattle.run_model.specs.Advance.{most}
use Rattle.machine.proofs.Fired.{IsFiring}
use Rattle.machine.proofs.parts.Parts.advance.Given as goal

abbrev pub invariant-loop : goal.invariant-loop
invariant-loop g l = IsFiring (most - l.counter) l.moment l.initial.self l.self l.initial.outs l.outs
