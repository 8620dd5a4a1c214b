use Rattle.std.proofs.Common.{◌∙◌, ap}
use Rattle.std.specs.List.{find}
use Rattle.std.specs.Option.{option_map}
use Rattle.lists.specs.Entries.{has}
use Rattle.awaited.specs.Entries.{wait_step, waiting_number}
use Rattle.awaited.proofs.BesideLemmas.{step_found}
use Rattle.awaited.proofs.waits.Waits.get.Goals as goal

pub returns : goal.returns
returns c = c.get.ensures ∙ step_found _ _ c.self.invariant c.args.number ∙ ap (λ es. option_map wait_step (find (has waiting_number c.args.number) es)) c.self.view_is
