use Rattle.std.proofs.Common.{length, sym, ◌∙◌, arith}
use Rattle.text_num.specs.Duration.{duration_of, longest}
use Rattle.text_num.proofs.DigitLemmas.{within, above}
use Rattle.text_num.proofs.DurationLemmas.{starts, empty_text, ends, step, stop, sum_at, parts_at, some_from, none_from}
use Rattle.text_num.proofs.duration.read_duration.Goals as goal

pub returns-then-is_empty-clause-value : goal.returns-then-is_empty-clause-value
returns-then-is_empty-clause-value c = empty_text c.args.text.now (none_from _ c.if-is_empty.ensures)

pub returns-then-is_empty-clause-sum : goal.returns-then-is_empty-clause-sum
returns-then-is_empty-clause-sum c = sum_at c.args.text.now _ (returns-then-is_empty-clause-value c)

pub loop-rest-init : goal.loop-rest-init
loop-rest-init c = (omega arith, (length c.args.text.now, omega arith, starts c.args.text.now (some_from _ c.if-is_empty.ensures)))

pub loop-rest-preserved : goal.loop-rest-preserved
loop-rest-preserved c =
    let at = c.loop-rest.invariant.1 in
    let next = step at.0 c.loop-rest.total c.min-total.result c.loop-rest.rest.now c.in-Some.after.now c.in-Some.millis
    (duration_of c.args.text.now) (some_from _ c.loop-rest-test.ensures) at.1 c.in-Some.ensures c.min-total.ensures at.2 in
    (omega arith, next.1)

pub loop-rest-smaller : goal.loop-rest-smaller
loop-rest-smaller c =
    let at = c.loop-rest.invariant.1 in
    let next = step at.0 c.loop-rest.total c.min-total.result c.loop-rest.rest.now c.in-Some.after.now c.in-Some.millis
    (duration_of c.args.text.now) (some_from _ c.loop-rest-test.ensures) at.1 c.in-Some.ensures c.min-total.ensures at.2 in
    next.0

pub returns-in_default-clause-value : goal.returns-in_default-clause-value
returns-in_default-clause-value c =
    let at = c.loop-rest.invariant.1 in
    stop at.0 c.loop-rest.total c.loop-rest.rest.now (duration_of c.args.text.now) (some_from _ c.loop-rest-test.ensures) at.1 c.in_default.ensures at.2

pub returns-in_default-clause-sum : goal.returns-in_default-clause-sum
returns-in_default-clause-sum c = sum_at c.args.text.now _ (returns-in_default-clause-value c)

pub returns-then-total-gt-LONGEST-clause-value : goal.returns-then-total-gt-LONGEST-clause-value
returns-then-total-gt-LONGEST-clause-value c =
    let at = c.loop-rest.invariant.1 in
    sym (sym at.2 ∙ ends at.0 c.loop-rest.total c.loop-rest.rest.now (none_from _ c.loop-rest-test.ensures) ∙ above longest c.loop-rest.total c.if-total-gt-LONGEST.true)

pub returns-then-total-gt-LONGEST-clause-sum : goal.returns-then-total-gt-LONGEST-clause-sum
returns-then-total-gt-LONGEST-clause-sum c = sum_at c.args.text.now _ (returns-then-total-gt-LONGEST-clause-value c)

pub returns-then-total-gt-LONGEST-clause-parts : goal.returns-then-total-gt-LONGEST-clause-parts
returns-then-total-gt-LONGEST-clause-parts c = parts_at c.args.text.now _ (returns-then-total-gt-LONGEST-clause-value c)

pub returns-clause-value : goal.returns-clause-value
returns-clause-value c =
    let at = c.loop-rest.invariant.1 in
    sym (sym at.2 ∙ ends at.0 c.loop-rest.total c.loop-rest.rest.now (none_from _ c.loop-rest-test.ensures) ∙ within longest c.loop-rest.total c.if-total-gt-LONGEST.false)

pub returns-clause-sum : goal.returns-clause-sum
returns-clause-sum c = sum_at c.args.text.now _ (returns-clause-value c)

pub returns-clause-parts : goal.returns-clause-parts
returns-clause-parts c = parts_at c.args.text.now _ (returns-clause-value c)
