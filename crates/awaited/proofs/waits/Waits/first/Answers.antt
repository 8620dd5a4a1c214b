use Rattle.std.proofs.Common.{◌∙◌, ap, subst}
use Rattle.std.specs.Option.{option_map}
use Rattle.lists.specs.Entries.{AreApart}
use Rattle.timers.specs.Dues.{as_due, least_due}
use Rattle.awaited.specs.Entries.{waiting_number, waiting_run, waiting_due}
use Rattle.awaited.proofs.BesideLemmas.{step_first, steps_apart}
use Rattle.awaited.proofs.waits.Waits.first.Goals as goal

pub returns-clause-least : goal.returns-clause-least
returns-clause-least c = c.first.ensures.least ∙ step_first _ _ c.self.invariant ∙ ap (λ es. option_map (as_due waiting_number waiting_run) (least_due waiting_due waiting_number es)) c.self.view_is

pub returns-clause-apart : goal.returns-clause-apart
returns-clause-apart c = subst (AreApart waiting_number) c.self.view_is (steps_apart _ _ c.self.invariant c.first.ensures.apart)
