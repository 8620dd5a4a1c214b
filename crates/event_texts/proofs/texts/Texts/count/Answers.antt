use Rattle.std.proofs.Common.{◌∙◌, ◌+◌, ap, sym, subst}
use Rattle.std.specs.Map.{values_of}
use Rattle.event_texts.specs.Texts.{IsSummed}
use Rattle.event_texts.proofs.Sums.{summed-counted, sum-is}
use Rattle.event_texts.proofs.texts.Texts.count.Goals as goal

pub invariant_of-self-2 : goal.invariant_of-self-2
invariant_of-self-2 c =
    let texts = values_of c.self.inside.texts.entries in record {
      stored = c.self.invariant.stored;
      summed =
          subst (IsSummed texts c.insert.new.self.keys)
          (sym (sum-is c.checked_add.result c.in-Some-checked_add.bytes (c.self.inside.bytes + c.len.result) _
          c.checked_add.ensures c.in-Some-checked_add.is ∙ ap (λ n. c.self.inside.bytes + n) c.len.ensures))
          (summed-counted c.args.number c.in-Some.event.now texts c.self.inside.counted.keys c.insert.new.self.keys
          c.self.inside.bytes c.event_at.ensures.apart (sym c.in-Some.ensures.value)
          (sym c.contains.ensures ∙ c.if-contains.false) c.in_ok-insert.ensures.updates.0 c.self.invariant.summed);
    }
