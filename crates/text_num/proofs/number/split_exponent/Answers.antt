use Rattle.std.proofs.Common.{ap, ◌∙◌, take, drop}
use Rattle.text_num.proofs.NumberLemmas.{no_exponent, no_letter, no_digits, exponent_found}
use Rattle.text_num.proofs.number.split_exponent.Goals as goal

pub returns-then-is_empty : goal.returns-then-is_empty
returns-then-is_empty c = no_exponent c.args.text.now c.if-is_empty.ensures

pub returns-then-not-opens_exponent : goal.returns-then-not-opens_exponent
returns-then-not-opens_exponent c = no_letter c.args.text.now c.if-is_empty.ensures c.if-not-opens_exponent.ensures

pub returns-then-not-is_number : goal.returns-then-not-is_number
returns-then-not-is_number c =
    no_digits c.args.text.now c.split_at.result.0.now c.split_at.result.1.now c.if-is_empty.ensures c.if-not-opens_exponent.ensures
    (c.split_at.ensures.back ∙ ap (λ n. drop n c.args.text.now) c.mark_len.ensures.value) c.if-not-is_number.ensures

pub returns : goal.returns
returns c =
    exponent_found c.args.text.now c.split_at.result.0.now c.split_at.result.1.now c.if-is_empty.ensures c.if-not-opens_exponent.ensures
    (c.split_at.ensures.front ∙ ap (λ n. take n c.args.text.now) c.mark_len.ensures.value)
    (c.split_at.ensures.back ∙ ap (λ n. drop n c.args.text.now) c.mark_len.ensures.value) c.if-not-is_number.ensures
