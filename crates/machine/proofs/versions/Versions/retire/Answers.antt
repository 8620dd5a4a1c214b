use Rattle.std.proofs.Common.{◌∙◌, ap, sym, subst}
use Rattle.std.specs.Vec.Iter.{into_iter_items}
use Rattle.run_model.specs.Machine.{insert_all}
use Rattle.machine.specs.Versions.{AreFresh}
use Rattle.machine.proofs.VersionLemmas.{fresh-first, fresh-rest}
use Rattle.machine.proofs.versions.Versions.retire.Goals as goal

pub retire_one-requires : goal.retire_one-requires
retire_one-requires c =
    fresh-first c.in-Some.entry _ c.loop-entry.self
    (subst (λ fs. AreFresh fs c.loop-entry.self) c.in-Some.ensures.steps.0 c.loop-entry.invariant.2)

pub loop-entry-preserved : goal.loop-entry-preserved
loop-entry-preserved c =
    let rest = into_iter_items c.next.new.self in (
      c.in_ok-retire_one.ensures.current ∙ c.loop-entry.invariant.0,
      ap (insert_all rest) c.in_ok-retire_one.ensures.retired
          ∙ sym (ap (λ fs. insert_all fs c.loop-entry.self.retired) c.in-Some.ensures.steps.0) ∙ c.loop-entry.invariant.1,
      fresh-rest c.in-Some.entry rest c.loop-entry.self c.retire_one.new.self
          (subst (λ fs. AreFresh fs c.loop-entry.self) c.in-Some.ensures.steps.0 c.loop-entry.invariant.2)
          c.in_ok-retire_one.ensures.current c.in_ok-retire_one.ensures.retired,
    )
