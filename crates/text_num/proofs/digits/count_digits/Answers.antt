use Rattle.std.proofs.Common.{ℕ, List, Some, None, cond, rules, tests, arith, not, ◌≡◌, ◌∙◌, ap, ltb, length, unwrap_or}
use Rattle.std.proofs.lemmas.Iterator.{YieldsList-from_slice}
use Rattle.std.proofs.lemmas.Iterator.Search.{position_from_yields_List}
use Rattle.std.proofs.lemmas.Bool.Decides.{nat_tests}
use Rattle.std.specs.Char.{is_ascii_digit}
use Rattle.text_num.proofs.DigitLemmas.{front_len, front_len-le, front_len_is}
use Rattle.text_num.proofs.digits.count_digits.Goals as goal

-- the place that is found, or the length, is where the digits end
count_is : (text : List ℕ) → unwrap_or (cond (ltb (front_len text) (length text)) (Some (front_len text)) None) (length text) ≡ front_len text
count_is text = let bound = front_len-le text in grind (arith, nat_tests)

pub returns : goal.returns
returns c =
    let at = position_from_yields_List (λ b. not (is_ascii_digit b)) _ _ c.position-end.result c.position-end.ensures.ran (YieldsList-from_slice c.args.text.now (cc)) (λ x b q k. search (rules, tests)) in
    c.unwrap_or.ensures ∙ ap (λ o. unwrap_or o (length c.args.text.now)) at ∙ count_is c.args.text.now ∙ front_len_is c.args.text.now
