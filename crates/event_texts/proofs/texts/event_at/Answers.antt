use Rattle.std.proofs.Common.{◌∙◌}
use Rattle.std.specs.Map.{values_of}
use Rattle.lists.proofs.Stored.{numbered_found}
use Rattle.event_texts.specs.Texts.{event_number}
use Rattle.event_texts.proofs.Sums.{sorted-apart}
use Rattle.event_texts.proofs.texts.event_at.Goals as goal

pub returns-clause-value : goal.returns-clause-value
returns-clause-value c =
    c.get.ensures.value ∙ numbered_found event_number c.args.texts.now.entries c.args.number c.requires

pub returns-clause-apart : goal.returns-clause-apart
returns-clause-apart c = sorted-apart (values_of c.args.texts.now.entries) c.requires.ordered
