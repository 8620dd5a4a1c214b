use Rattle.std.proofs.Common.{◌<◌, List, length, sym, ◌∙◌, ap, subst}
use Rattle.kinds.specs.Queue.{has_number, has_run}
use Rattle.kinds.specs.declared.store.Item.{Item}
use Rattle.ordered.proofs.Apart.{fewer_without}
use Rattle.admission.specs.Indexes.{without}
use Rattle.admission.proofs.Found.{none_dropped}
use Rattle.admission.proofs.waiting.Waiting.remove_run.Goals as goal

pub loop-number-preserved : goal.loop-number-preserved
loop-number-preserved c = (
  ap (without (has_run c.args.run)) c.drop_number.ensures.left ∙ c.in-Some.ensures.some.rest ∙ c.loop-number.invariant.0,
  c.drop_number.ensures.full ∙ c.loop-number.invariant.1,
  c.drop_number.ensures.later ∙ c.loop-number.invariant.2,
)

pub loop-number-smaller : goal.loop-number-smaller
loop-number-smaller c =
    subst (λ (is : List Item). length is < length c.loop-number.self.items) (sym c.drop_number.ensures.left)
    (fewer_without (has_number c.in-Some.number) c.loop-number.self.items c.in-Some.ensures.some.item c.in-Some.ensures.some.found)

pub returns-clause-left : goal.returns-clause-left
returns-clause-left c = sym (none_dropped (has_run c.args.run) _ c.in_default.ensures.none) ∙ c.loop-number.invariant.0
