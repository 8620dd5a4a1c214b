use Rattle.std.proofs.Common.{sym, ◌∙◌}
use Rattle.ready_queue.proofs.WalkLemmas.{looked_none, looked_stop, looked_closed, looked_better, kept_past}
use Rattle.ready_queue.proofs.walk.look.Goals as goal

pub returns-then-stops-clause-looked : goal.returns-then-stops-clause-looked
returns-then-stops-clause-looked g c = looked_stop _ _ _ _ _ c.in-Some.ensures (sym c.stops.ensures ∙ c.if-stops.true)

pub returns-then-is_open-clause-looked : goal.returns-then-is_open-clause-looked
returns-then-is_open-clause-looked g c =
    looked_better _ _ _ _ _ c.in-Some.ensures (sym c.is_open.ensures.told ∙ c.if-is_open.true) (kept_past _ _ (sym c.stops.ensures ∙ c.if-stops.false))

pub returns-else-is_open-clause-looked : goal.returns-else-is_open-clause-looked
returns-else-is_open-clause-looked g c =
    looked_closed _ _ _ _ _ c.requires.alike c.in-Some.ensures (sym c.is_open.ensures.told ∙ c.if-is_open.false)
