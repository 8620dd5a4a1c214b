use Rattle.std.proofs.Common.{◌∙◌, ap, take, drop}
use Rattle.text_num.proofs.DigitLemmas.{length-front, take_front, drop_front}
use Rattle.text_num.proofs.digits.split_digits.Goals as goal

pub split_at-requires : goal.split_at-requires
split_at-requires c = rw c.count_digits.ensures (length-front c.args.text.now)

pub returns-clause-digits : goal.returns-clause-digits
returns-clause-digits c = c.split_at.ensures.front ∙ ap (λ n. take n c.args.text.now) c.count_digits.ensures ∙ take_front c.args.text.now

pub returns-clause-rest : goal.returns-clause-rest
returns-clause-rest c = c.split_at.ensures.back ∙ ap (λ n. drop n c.args.text.now) c.count_digits.ensures ∙ drop_front c.args.text.now
