use Rattle.std.proofs.Common.{◌≡◌, List, sym, ◌∙◌, ap, subst}
use Rattle.std.specs.List.{find}
use Rattle.kinds.specs.declared.seen.SeenEntry.{SeenEntry}
use Rattle.kinds.specs.Seen.{remembered, is_remembered}
use Rattle.intake.specs.Number.{has_number}
use Rattle.intake.specs.Order.{has_part, moment_of}
use Rattle.intake.proofs.timeline.Timeline.take_outside.Goals as goal
use Rattle.intake.proofs.Numbers.{none_listed, oldest_inside, found_outside, found_left, none_from_variant}

pub returns-in_err-accepted-clause-taken : goal.returns-in_err-accepted-clause-taken
returns-in_err-accepted-clause-taken c =
    rw c.from_residual.ensures (subst (λ (es : List SeenEntry). remembered c.args.moment es ≡ es) c.self.view_is (none_listed _ _ (is_remembered c.args.moment) c.self.invariant (none_from_variant _ c.in_err-accepted.ensures.variant.1)))

pub returns-then-is_inside-clause-taken : goal.returns-then-is_inside-clause-taken
returns-then-is_inside-clause-taken c =
    subst (λ (es : List SeenEntry). remembered c.args.moment es ≡ es) c.self.view_is
    (oldest_inside _ _ c.in_ok-accepted.field-0.now.0 c.in_ok-accepted.field-0.now.1 c.args.moment c.self.invariant c.in_ok-accepted.ensures.least (sym c.is_inside.ensures ∙ c.if-is_inside.true))

pub returns-clause-taken : goal.returns-clause-taken
returns-clause-taken c =
    let listed = c.self.invariant.listed c.in_ok-accepted.field-0.now.0 c.in_ok-accepted.field-0.now.1 in
    found_outside c.args.moment c.in_ok-accepted.field-0.now.0 c.in_ok-accepted.field-0.now.1 c.args.self.now c.remove.result
    (ap (λ es. has_part moment_of c.in_ok-accepted.field-0.now.0 (find (has_number c.in_ok-accepted.field-0.now.1) es)) (sym c.self.view_is) ∙ sym listed ∙ c.in_ok-accepted.ensures.member)
    (sym c.is_inside.ensures ∙ c.if-is_inside.false) c.remove.ensures.value

pub returns-clause-left : goal.returns-clause-left
returns-clause-left c = found_left c.in_ok-accepted.field-0.now.1 c.args.self.now c.remove.new.self c.remove.result c.remove.ensures.value c.remove.ensures.left
