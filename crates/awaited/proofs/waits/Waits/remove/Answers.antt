use Rattle.std.proofs.Common.{◌∙◌, ap}
use Rattle.std.specs.List.{find}
use Rattle.std.specs.Option.{option_map}
use Rattle.lists.specs.Entries.{has, without}
use Rattle.awaited.specs.Entries.{wait_step, waiting_number}
use Rattle.awaited.proofs.BesideLemmas.{gone, step_found}
use Rattle.awaited.proofs.waits.Waits.remove.Goals as goal

pub invariant_of-self : goal.invariant_of-self
invariant_of-self c = (gone _ _ c.self.invariant c.args.number _ _ c.remove.ensures c.remove-2.ensures.left).1

pub returns-clause-value : goal.returns-clause-value
returns-clause-value c = c.remove-2.ensures.value ∙ step_found _ _ c.self.invariant c.args.number ∙ ap (λ es. option_map wait_step (find (has waiting_number c.args.number) es)) c.self.view_is

pub returns-clause-left : goal.returns-clause-left
returns-clause-left c = (gone _ _ c.self.invariant c.args.number _ _ c.remove.ensures c.remove-2.ensures.left).0 ∙ ap (without waiting_number c.args.number) c.self.view_is
