use Rattle.std.proofs.Common.{◌∙◌, sym}
use Rattle.machine.proofs.HeldMaking.{on-ok}
use Rattle.machine.proofs.Reopened.{fewer-issues, reopened, reopening-on, taken-aside, taken-start}
use Rattle.machine.proofs.parts.Parts.reopen.Goals as goal

pub requeue-requires-clause-aside : goal.requeue-requires-clause-aside
requeue-requires-clause-aside c =
    taken-aside c.args.self.now c.loop-item.self c.loop-item.invariant c.take_call.new.self c.in-Some.item
    (sym c.in-Some.is ∙ c.in_ok-item.ensures.item) c.in_ok-item.ensures.now

pub requeue-requires-clause-start : goal.requeue-requires-clause-start
requeue-requires-clause-start c =
    taken-start c.args.self.now c.loop-item.self c.loop-item.invariant c.take_call.new.self c.in-Some.item
    (sym c.in-Some.is ∙ c.in_ok-item.ensures.item) c.in_ok-item.ensures.now

pub loop-item-preserved : goal.loop-item-preserved
loop-item-preserved c =
    reopening-on c.args.self.now c.loop-item.self c.loop-item.invariant c.take_call.new.self c.in-Some.item
    (sym c.in-Some.is ∙ c.in_ok-item.ensures.item) c.in_ok-item.ensures.now c.requeue.new.self
    c.in_ok-requeue.ensures

pub loop-item-smaller : goal.loop-item-smaller
loop-item-smaller c =
    fewer-issues c.args.self.now c.loop-item.self c.loop-item.invariant c.take_call.new.self c.in-Some.item
    (sym c.in-Some.is ∙ c.in_ok-item.ensures.item) c.in_ok-item.ensures.now c.requeue.new.self
    c.in_ok-requeue.ensures

pub returns : goal.returns
returns c =
    on-ok c.discover.result _ _
    (reopened c.args.self.now c.loop-item.self c.loop-item.invariant c.take_call.new.self c.discover.new.self
    (sym c.in_default.is ∙ c.in_ok-item.ensures.item) c.in_ok-item.ensures.now) c.discover.ensures.now
