use Rattle.std.proofs.Common.{◌∙◌, ap}
use Rattle.std.specs.List.{find}
use Rattle.lists.proofs.Stored.{numbered_found}
use Rattle.admission.specs.Issues.{call_of, has_call}
use Rattle.admission.proofs.issues.Issues.get.Goals as goal

pub returns : goal.returns
returns c = c.get.ensures.value ∙ numbered_found call_of c.self.inside.issues.entries c.args.call c.self.invariant ∙ ap (find (has_call c.args.call)) c.self.view_is
