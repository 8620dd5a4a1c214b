use Rattle.std.proofs.Common.{◌≡◌, ◌+◌, ◌-◌, ◌/◌, ◌%◌, ◌^◌, ◌++◌, ◌∷◌, [], ℕ, List, length, take, set, sym, ap, ◌∙◌, arith, append_assoc, length-append, append-nil, length-set}
use Rattle.std.proofs.lemmas.List.{length-take-le}
use Rattle.std.proofs.lemmas.Nat.{mod_below}
use Rattle.text_num.specs.Units.{fraction_digits}
use Rattle.text_num.proofs.MultipleLemmas.{tens}
use Rattle.text_num.proofs.WritingLemmas.{write_more, fraction_written, no_digits, digit_here, point_before, nothing_written}
use Rattle.text_num.proofs.units.put_fraction.Goals as goal

pub returns-then-fraction-eq0-clause-text : goal.returns-then-fraction-eq0-clause-text
returns-then-fraction-eq0-clause-text c = rw c.if-fraction-eq0.true (nothing_written c.args.out.now c.args.at)

pub returns-then-fraction-eq0-clause-end : goal.returns-then-fraction-eq0-clause-end
returns-then-fraction-eq0-clause-end c = rw (c.if-fraction-eq0.true, no_digits 18) (omega arith)

pub nonzero_div-out : goal.nonzero_div-out
nonzero_div-out c = rw c.pow-place.ensures (tens _)

pub nonzero_rem-rest : goal.nonzero_rem-rest
nonzero_rem-rest c = rw c.pow-place.ensures (tens _)

pub overflow_cast-out : goal.overflow_cast-out
overflow_cast-out c =
    let digit = digit_here c.loop-rest.places c.loop-rest.rest c.loop-rest-test.true c.loop-rest.invariant.3 in
    rw c.pow-place.ensures (omega arith)

pub overflow_add-out : goal.overflow_add-out
overflow_add-out c =
    let digit = digit_here c.loop-rest.places c.loop-rest.rest c.loop-rest-test.true c.loop-rest.invariant.3 in
    rw c.pow-place.ensures (omega arith)

pub loop-rest-preserved : goal.loop-rest-preserved
loop-rest-preserved c =
    let at = c.loop-rest.invariant in
    let digit = digit_here c.loop-rest.places c.loop-rest.rest c.loop-rest-test.true at.3 in
    let byte : List ℕ = (48 + c.loop-rest.rest / 10 ^ (c.loop-rest.places - 1)) ∷ [] in
    let long = length-append at.0 byte in
    let room = length-set c.args.out.now c.args.at 46 in
    let front : length (take (c.args.at + 1) (set c.args.out.now c.args.at 46)) ≡ c.args.at + 1 =
    length-take-le (c.args.at + 1) (set c.args.out.now c.args.at 46) (omega arith) in
    rw c.pow-place.ensures (
      at.0 ++ byte,
      omega arith,
      omega arith,
      mod_below _ _ (tens (c.loop-rest.places - 1)),
      append_assoc at.0 byte (fraction_digits (c.loop-rest.places - 1) (c.loop-rest.rest % 10 ^ (c.loop-rest.places - 1)))
          ∙ ap (λ l. at.0 ++ l) (sym digit.2) ∙ at.4,
      write_more (take (c.args.at + 1) (set c.args.out.now c.args.at 46)) at.0 c.loop-rest.out (set c.args.out.now c.args.at 46) c.loop-rest.at
          (48 + c.loop-rest.rest / 10 ^ (c.loop-rest.places - 1)) at.5 (omega arith) (omega arith),
    )

pub returns-clause-text : goal.returns-clause-text
returns-clause-text c =
    let at = c.loop-rest.invariant in
    let none : c.loop-rest.rest ≡ 0 = omega arith in
    let all : at.0 ≡ fraction_digits 18 c.args.fraction =
    sym (append-nil at.0) ∙ ap (λ l. at.0 ++ l) (sym (ap (fraction_digits c.loop-rest.places) none ∙ no_digits c.loop-rest.places)) ∙ at.4 in
    rw (point_before c.args.fraction (omega arith), ← all) (fraction_written c.args.out.now at.0 c.loop-rest.out c.args.at (omega arith) at.5)

pub returns-clause-end : goal.returns-clause-end
returns-clause-end c =
    let at = c.loop-rest.invariant in
    let none : c.loop-rest.rest ≡ 0 = omega arith in
    let all : at.0 ≡ fraction_digits 18 c.args.fraction =
    sym (append-nil at.0) ∙ ap (λ l. at.0 ++ l) (sym (ap (fraction_digits c.loop-rest.places) none ∙ no_digits c.loop-rest.places)) ∙ at.4 in
    rw (point_before c.args.fraction (omega arith), ← all) (omega arith)
