use Rattle.ready_queue.specs.Keys.{Changes}
use Rattle.std.proofs.Common.{sym, ◌∙◌, ap}
use Rattle.ready_queue.specs.Places.{is_front}
use Rattle.ready_queue.proofs.FrontLemmas.{hidden, not_hidden, front_none}
use Rattle.ready_queue.proofs.fronts.hide.Goals as goal
use Rattle.ready_queue.proofs.fronts.hide.Goals.{in-Some+else-is_front, in_default}

pub returns-then-is_front : goal.returns-then-is_front
returns-then-is_front c = rw c.in-Some.is (not_hidden c.args.group c.args.old _ _ (sym c.is_front.ensures ∙ c.if-is_front.true))

pub returns : goal.returns
unfolding Changes
returns c = hidden c.args.group c.args.old c.args.place _ _
    (elim c.match-place.branch [
      | in-Some+else-is_front w ↦ ap (is_front c.args.old.score c.args.old.number) w.in-Some.is ∙ sym w.is_front.ensures ∙ w.if-is_front.false
      | in_default w ↦ ap (is_front c.args.old.score c.args.old.number) w.in_default.is ∙ front_none c.args.old.score c.args.old.number
    ]) c.remove.ensures.updates.0
