use Rattle.std.proofs.Common.{◌∙◌, ap}
use Rattle.kinds.specs.Cells.{without_issue}
use Rattle.concurrency_keys.proofs.CountLemmas.{counted_left, counted_none}
use Rattle.concurrency_keys.proofs.keys.ConcurrencyKeys.leave.Goals as goal

pub invariant_of-self : goal.invariant_of-self
invariant_of-self c =
    (counted_left c.self.inside.issues.entries c.remove.new.self.entries c.args.issue c.in-Some.entry c.self.inside.counters c.uncount.new.counters c.self.invariant
    c.in-Some.ensures.value c.in-Some.ensures.entries c.in-Some.ensures.ordered
    c.uncount.ensures).1

pub returns-in-Some : goal.returns-in-Some
returns-in-Some c =
    (counted_left c.self.inside.issues.entries c.remove.new.self.entries c.args.issue c.in-Some.entry c.self.inside.counters c.uncount.new.counters c.self.invariant
    c.in-Some.ensures.value c.in-Some.ensures.entries c.in-Some.ensures.ordered
    c.uncount.ensures).0
    ∙ ap (without_issue c.args.issue) c.self.view_is

pub returns-in_default : goal.returns-in_default
returns-in_default c =
    (counted_none c.self.inside.issues.entries c.remove.new.self.entries c.args.issue c.self.inside.counters c.self.invariant c.in_default.ensures.value c.in_default.ensures.unchanged).0
    ∙ ap (without_issue c.args.issue) c.self.view_is
