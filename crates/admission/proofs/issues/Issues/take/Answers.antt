use Rattle.std.proofs.Common.{◌∙◌, ap}
use Rattle.std.specs.List.{find}
use Rattle.lists.proofs.Stored.{numbered_found, numbered_left}
use Rattle.admission.specs.Issues.{call_of, has_call, without_call}
use Rattle.admission.proofs.issues.Issues.take.Goals as goal

pub invariant_of-self : goal.invariant_of-self
invariant_of-self c = (numbered_left call_of c.self.inside.issues.entries c.remove.new.self.entries c.args.call c.self.invariant c.remove.ensures.entries c.remove.ensures.ordered).1

pub returns-clause-value : goal.returns-clause-value
returns-clause-value c = c.remove.ensures.value ∙ numbered_found call_of c.self.inside.issues.entries c.args.call c.self.invariant ∙ ap (find (has_call c.args.call)) c.self.view_is

pub returns-clause-left : goal.returns-clause-left
returns-clause-left c =
    (numbered_left call_of c.self.inside.issues.entries c.remove.new.self.entries c.args.call c.self.invariant c.remove.ensures.entries c.remove.ensures.ordered).0
    ∙ ap (without_call c.args.call) c.self.view_is
