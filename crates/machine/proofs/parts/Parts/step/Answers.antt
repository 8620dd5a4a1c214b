use Rattle.std.proofs.Common.{◌++◌, ◌∙◌, ap, map}
use Rattle.run_model.specs.Advance.{advance}
use Rattle.machine.specs.Advance.{hang}
use Rattle.machine.specs.View.{state_of}
use Rattle.machine.proofs.Stepped.{acted-apart, clock-acted, clock-settled, moment-is, step-apart, then-apart, whole-step}
use Rattle.machine.proofs.parts.Parts.step.Goals as goal

pub act-requires-clause-apart : goal.act-requires-clause-apart
act-requires-clause-apart g c =
    then-apart c.args.self.now c.count_input.new.self c.args.input c.max-moment.result
    (moment-is (state_of c.args.self.now) c.args.input c.at.result c.min.result c.max-moment.result
    c.at.ensures c.min.ensures c.max-moment.ensures) c.count_input.ensures
    c.advance.new.self c.in_ok-advance.ensures.now.state c.requires.ready.rest.held c.requires.ready.apart

pub settle-requires-clause-apart : goal.settle-requires-clause-apart
settle-requires-clause-apart g c =
    acted-apart c.args.input (state_of c.advance.new.self) (state_of c.act.new.self)
    c.in_ok-act.ensures.state.state
    (then-apart c.args.self.now c.count_input.new.self c.args.input c.max-moment.result
    (moment-is (state_of c.args.self.now) c.args.input c.at.result c.min.result c.max-moment.result
    c.at.ensures c.min.ensures c.max-moment.ensures) c.count_input.ensures
    c.advance.new.self c.in_ok-advance.ensures.now.state c.requires.ready.rest.held c.requires.ready.apart)

pub settle-requires-clause-now : goal.settle-requires-clause-now
settle-requires-clause-now g c =
    clock-acted c.args.input c.advance.new.self c.act.new.self c.in_ok-act.ensures.state
    c.in_ok-advance.ensures.now.now

pub tidy-requires-clause-now : goal.tidy-requires-clause-now
tidy-requires-clause-now g c =
    clock-settled c.act.new.outs c.act.new.self c.settle.new.self c.in_ok-settle.ensures.state
    (clock-acted c.args.input c.advance.new.self c.act.new.self c.in_ok-act.ensures.state
    c.in_ok-advance.ensures.now.now)

pub returns-clause-outs : goal.returns-clause-outs
returns-clause-outs g c =
    (whole-step c.args.self.now c.count_input.new.self c.args.input c.max-moment.result
    (moment-is (state_of c.args.self.now) c.args.input c.at.result c.min.result c.max-moment.result
    c.at.ensures c.min.ensures c.max-moment.ensures) c.count_input.ensures
    c.advance.new.self c.in_ok-advance.ensures.now.state c.act.new.self c.settle.new.self c.tidy.new.self
    c.advance.new.outs c.act.new.outs c.settle.new.outs
    (c.in_ok-advance.ensures.outs ∙ ap (λ os. os ++ map hang
    (advance c.max-moment.result (state_of c.count_input.new.self)).hangs) c.new-outs.ensures)
    c.in_ok-act.ensures.state.state c.in_ok-act.ensures.outs c.in_ok-settle.ensures.state.state
    c.in_ok-settle.ensures.outs c.in_ok-tidy.ensures.state).1

pub returns-clause-state : goal.returns-clause-state
returns-clause-state g c =
    (whole-step c.args.self.now c.count_input.new.self c.args.input c.max-moment.result
    (moment-is (state_of c.args.self.now) c.args.input c.at.result c.min.result c.max-moment.result
    c.at.ensures c.min.ensures c.max-moment.ensures) c.count_input.ensures
    c.advance.new.self c.in_ok-advance.ensures.now.state c.act.new.self c.settle.new.self c.tidy.new.self
    c.advance.new.outs c.act.new.outs c.settle.new.outs
    (c.in_ok-advance.ensures.outs ∙ ap (λ os. os ++ map hang
    (advance c.max-moment.result (state_of c.count_input.new.self)).hangs) c.new-outs.ensures)
    c.in_ok-act.ensures.state.state c.in_ok-act.ensures.outs c.in_ok-settle.ensures.state.state
    c.in_ok-settle.ensures.outs c.in_ok-tidy.ensures.state).0

pub returns-clause-ready : goal.returns-clause-ready
returns-clause-ready g c = record {
  rest = c.in_ok-tidy.ensures.rest;
  apart = step-apart c.args.self.now c.tidy.new.self c.args.input (returns-clause-state g c) c.requires.ready.apart;
}
