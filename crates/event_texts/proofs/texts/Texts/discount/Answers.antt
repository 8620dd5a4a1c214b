use Rattle.std.proofs.Common.{◌∙◌, ◌≤◌, ◌-◌, sym, subst}
use Rattle.std.specs.Map.{values_of}
use Rattle.event_texts.specs.Texts.{IsSummed}
use Rattle.event_texts.proofs.Sums.{discounted-fits, summed-discounted}
use Rattle.event_texts.proofs.texts.Texts.discount.Goals as goal

pub overflow_sub-self : goal.overflow_sub-self
overflow_sub-self c =
    subst (λ n. n ≤ c.self.inside.bytes) (sym c.len.ensures)
    (discounted-fits c.args.number c.in-Some.event.now (values_of c.self.inside.texts.entries)
    c.self.inside.counted.keys c.remove.new.self.keys c.self.inside.bytes c.event_at.ensures.apart
    (sym c.in-Some.ensures.value) (sym c.remove.ensures.test ∙ c.if-remove.true) c.remove.ensures.updates.0
    c.self.invariant.summed)

pub invariant_of-self : goal.invariant_of-self
invariant_of-self c =
    let texts = values_of c.self.inside.texts.entries in record {
      stored = c.self.invariant.stored;
      summed =
          subst (λ n. IsSummed texts c.remove.new.self.keys (c.self.inside.bytes - n)) (sym c.len.ensures)
          (summed-discounted c.args.number c.in-Some.event.now texts c.self.inside.counted.keys c.remove.new.self.keys
          c.self.inside.bytes c.event_at.ensures.apart (sym c.in-Some.ensures.value)
          (sym c.remove.ensures.test ∙ c.if-remove.true) c.remove.ensures.updates.0 c.self.invariant.summed);
    }
