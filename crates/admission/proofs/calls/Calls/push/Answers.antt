use Rattle.std.proofs.Common.{refl, sym, subst}
use Rattle.ordered.proofs.Listed.{listed_back}
use Rattle.ordered.proofs.Sorted.{pair_total}
use Rattle.admission.specs.Indexes.{limit_key}
use Rattle.admission.specs.Issues.{call_of}
use Rattle.admission.proofs.CallLemmas.{AreBelow, listed_pushed, none_below}
use Rattle.admission.proofs.calls.Calls.push.Goals as goal

pub invariant_of-self-in-Ok : goal.invariant_of-self-in-Ok
invariant_of-self-in-Ok c =
    listed_pushed limit_key (limit_key c.args.issue) c.args.issue _ _ _ _ c.self.invariant refl (subst (AreBelow c.args.issue.call) (sym c.self.view_is) c.requires.below) c.in-Ok.ensures.ok c.in_ok-insert.ensures.updates.0

pub invariant_of-self-in-Err : goal.invariant_of-self-in-Err
invariant_of-self-in-Err c =
    listed_back pair_total limit_key call_of (limit_key c.args.issue) c.args.issue.call _ _ _ _ _ c.self.invariant
    (none_below c.args.issue.call _ (subst (AreBelow c.args.issue.call) (sym c.self.view_is) c.requires.below)) c.in-Err.ensures.err c.in_ok-insert.ensures.updates.0 c.remove.ensures.updates.0
