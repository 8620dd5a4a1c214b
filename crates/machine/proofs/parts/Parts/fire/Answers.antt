use Rattle.machine.specs.Advance.{moved, over_by}
use Rattle.machine.specs.View.{state_of}
use Rattle.machine.proofs.Fired.{moved-apart, moved-awaited}
use Rattle.machine.proofs.HeldMaking.{on-ok}
use Rattle.machine.proofs.HeldWords.{becomes-then}
use Rattle.machine.proofs.parts.Parts.fire.Goals as goal

pub end-requires-clause-apart : goal.end-requires-clause-apart
end-requires-clause-apart g c =
    moved-apart c.args.next.due (state_of c.args.self.now) (state_of c.go_to.new.self) c.go_to.ensures.state
    c.requires.apart

pub end-requires-clause-numbers : goal.end-requires-clause-numbers
end-requires-clause-numbers g c =
    moved-awaited c.args.next.due (state_of c.args.self.now) (state_of c.go_to.new.self) c.go_to.ensures.state
    c.requires.numbers

pub returns-clause-state : goal.returns-clause-state
returns-clause-state g c =
    on-ok c.end.result _ _
    (becomes-then (over_by c.args.next.entry c.args.next.number) (moved c.args.next.due (state_of c.args.self.now))
    c.args.self.now c.go_to.new.self c.end.new.self c.go_to.ensures) c.end.ensures
