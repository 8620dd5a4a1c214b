use Rattle.std.proofs.Common.{sym}
use Rattle.machine.proofs.HeldSettle.{settling-done, settling-fewer, settling-first, settling-next, settling-said, settling-same}
use Rattle.machine.proofs.parts.Parts.settle.Goals as goal

pub loop-number-init : goal.loop-number-init
loop-number-init g c =
    settling-first c.args.self.now c.args.outs.now c.requires.now c.requires.held c.requires.apart

pub loop-number-preserved : goal.loop-number-preserved
loop-number-preserved g c =
    let now = settling-same c.args.self.now c.loop-number.self c.next_number.new.self c.args.outs.now
    c.loop-number.outs c.in-Some.ensures.same c.loop-number.invariant in
    settling-next c.args.self.now c.next_number.new.self c.issue.new.self c.args.outs.now c.loop-number.outs
    c.issue.new.outs c.in-Some.number (sym c.in-Some.ensures.next) c.in_ok-issue.ensures.state
    c.in_ok-issue.ensures.outs now

pub loop-number-smaller : goal.loop-number-smaller
loop-number-smaller g c =
    settling-fewer c.loop-number.self c.next_number.new.self c.issue.new.self c.loop-number.outs c.in-Some.number
    c.in-Some.ensures.same (sym c.in-Some.ensures.next) c.in_ok-issue.ensures.state

pub returns-clause-state : goal.returns-clause-state
returns-clause-state g c =
    let now = settling-same c.args.self.now c.loop-number.self c.next_number.new.self c.args.outs.now
    c.loop-number.outs c.in_default.ensures.same c.loop-number.invariant in
    settling-done c.args.self.now c.next_number.new.self c.args.outs.now c.loop-number.outs
    (sym c.in_default.ensures.next) now

pub returns-clause-outs : goal.returns-clause-outs
returns-clause-outs g c =
    let now = settling-same c.args.self.now c.loop-number.self c.next_number.new.self c.args.outs.now
    c.loop-number.outs c.in_default.ensures.same c.loop-number.invariant in
    settling-said c.args.self.now c.next_number.new.self c.args.outs.now c.loop-number.outs
    (sym c.in_default.ensures.next) now

pub issue-requires-clause-held : goal.issue-requires-clause-held
issue-requires-clause-held g c =
    (settling-same c.args.self.now c.loop-number.self c.next_number.new.self c.args.outs.now c.loop-number.outs
    c.in-Some.ensures.same c.loop-number.invariant).held

pub issue-requires-clause-apart : goal.issue-requires-clause-apart
issue-requires-clause-apart g c =
    (settling-same c.args.self.now c.loop-number.self c.next_number.new.self c.args.outs.now c.loop-number.outs
    c.in-Some.ensures.same c.loop-number.invariant).apart

pub issue-requires-clause-now : goal.issue-requires-clause-now
issue-requires-clause-now g c =
    (settling-same c.args.self.now c.loop-number.self c.next_number.new.self c.args.outs.now c.loop-number.outs
    c.in-Some.ensures.same c.loop-number.invariant).dated
