use Rattle.std.proofs.Common.{◌+◌, ◌-◌, ◌≤◌, arith, subst, sym}
use Rattle.run_model.specs.Advance.{most}
use Rattle.machine.specs.View.{state_of}
use Rattle.machine.proofs.Fired.{due-within, firing-done, firing-first, firing-on}
use Rattle.machine.proofs.HeldMaking.{on-ok}
use Rattle.machine.proofs.parts.Parts.advance.Goals as goal

pub loop-init : goal.loop-init
loop-init g c = firing-first c.args.moment c.args.self.now c.args.outs.now c.requires.held c.requires.apart

pub loop-preserved : goal.loop-preserved
loop-preserved g c =
    firing-on (most - c.loop.counter) (most - (c.loop.counter + 1)) c.args.moment c.args.self.now c.loop.self
    c.fire.new.self c.args.outs.now c.loop.outs c.fire.new.outs c.in-Some.next (omega (arith, c.loop-test.true))
    c.loop.invariant c.in-Some.ensures.due c.in-Some.ensures.numbers c.in_ok-fire.ensures.state
    c.in_ok-fire.ensures.outs

pub fire-requires-clause-held : goal.fire-requires-clause-held
fire-requires-clause-held g c = c.loop.invariant.held

pub fire-requires-clause-apart : goal.fire-requires-clause-apart
fire-requires-clause-apart g c = c.loop.invariant.apart

pub fire-requires-clause-near : goal.fire-requires-clause-near
fire-requires-clause-near g c =
    due-within c.args.moment (state_of c.loop.self) c.in-Some.next c.in-Some.ensures.due c.requires.near

pub arrive-requires-clause-held : goal.arrive-requires-clause-held
arrive-requires-clause-held g c = c.loop.invariant.held

pub arrive-requires-clause-later : goal.arrive-requires-clause-later
arrive-requires-clause-later g c =
    subst (λ t. t ≤ c.args.moment) (sym c.loop.invariant.clock) c.requires.later

pub returns-in_default-clause-now : goal.returns-in_default-clause-now
returns-in_default-clause-now g c =
    on-ok c.arrive.result _ _
    (λ arrived. (firing-done (most - c.loop.counter) c.args.moment c.args.self.now c.loop.self c.arrive.new.self
    c.args.outs.now c.loop.outs c.loop.invariant c.in_default.ensures.due arrived).0) c.arrive.ensures

pub returns-in_default-clause-outs : goal.returns-in_default-clause-outs
returns-in_default-clause-outs g c =
    on-ok c.arrive.result _ _
    (λ arrived. (firing-done (most - c.loop.counter) c.args.moment c.args.self.now c.loop.self c.arrive.new.self
    c.args.outs.now c.loop.outs c.loop.invariant c.in_default.ensures.due arrived).1) c.arrive.ensures
