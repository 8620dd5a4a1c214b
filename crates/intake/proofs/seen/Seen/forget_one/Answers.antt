use Rattle.std.proofs.Common.{length, ◌∙◌, ap, arith}
use Rattle.kinds.specs.Seen.{remembered}
use Rattle.intake.specs.Number.{has_number}
use Rattle.intake.proofs.seen.Seen.forget_one.Goals as goal
use Rattle.intake.proofs.Ids.{seen_dropped, weight_found, remembered_dropped, fewer_without}

pub overflow_sub-self : goal.overflow_sub-self
overflow_sub-self c =
    let held = weight_found c.in-Some.entry _ _ c.self.invariant c.in-Some.ensures.taken.0 in
    omega (arith, held, c.len.ensures)

pub invariant_of-self : goal.invariant_of-self
invariant_of-self c =
    seen_dropped c.in-Some.entry _ _ c.self.inside.weight c.len.result c.self.invariant c.take_outside.ensures.ordered c.in-Some.ensures.taken.0
    c.in-Some.ensures.left c.len.ensures

pub returns-in-Some-clause-dropped : goal.returns-in-Some-clause-dropped
returns-in-Some-clause-dropped c =
    let fewer = fewer_without (has_number c.in-Some.entry.number) c.self.inside.placed c.in-Some.entry c.in-Some.ensures.taken.0 in
    let size = ap length c.in-Some.ensures.left in
    let whole = ap length c.self.view_is in (
      ap (remembered c.args.moment) c.in-Some.ensures.left
          ∙ remembered_dropped c.args.moment c.in-Some.entry _ c.take_outside.ensures.ordered c.self.invariant.apart c.in-Some.ensures.taken.0 c.in-Some.ensures.taken.1
          ∙ ap (remembered c.args.moment) c.self.view_is,
      omega (arith, fewer, size, whole),
    )
