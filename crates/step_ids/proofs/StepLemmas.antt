-- Hexadecimal text is lower-case digits alone.
use Rattle.std.proofs.Common.{◌≡◌, ℕ, zero, suc, ◌*◌, ◌/◌, ◌%◌, ◌<◌, Bool, true, false, ◌&&◌, eqb, List, [], ◌∷◌, length, get_or, refl, ◌∙◌, arith, inl, inr, All, slice_index, length-append, eq-eqb}
use Rattle.std.specs.List.{list_all}
use Rattle.std.proofs.lemmas.Bool.{cases_lt}
use Rattle.hex.specs.Hex.{encode_lower, encode_with, lower_digits}
use Rattle.std.specs.Int.{w32, to_be_bytes}
use Rattle.std.proofs.lemmas.List.Elements.{All-append}
use Rattle.sha1.specs.Sha1.{sha1, digest_bytes}
use Rattle.hex.proofs.HexLemmas.{length-encode_with}
use Rattle.step_ids.specs.Step.{is_lower_digit, is_step_name, hashed_text, step_name}
use Rattle.step_ids.proofs.Bytes.{high_first_fit}

both_true : (a b : Bool) → (a && b) ≡ true → (a ≡ true) × (b ≡ true)
both_true true b e = (refl, e)
both_true false b e = cc

-- each of the first n numbers passes a test
abbrev all_below : ℕ → (ℕ → Bool) → Bool
all_below zero test = true
all_below (suc n) test = test n && all_below n test

at_each : (n : ℕ) (test : ℕ → Bool) → all_below n test ≡ true → (k : ℕ) → k < n → test k ≡ true
at_each zero test e k h = absurd (omega arith)
at_each (suc n) test e k h =
    let parts = both_true (test n) (all_below n test) e in
    elim (cases_lt k n) [ inl under ↦ at_each n test parts.1 k under | inr over ↦ let same : k ≡ n = omega arith in rw same parts.0 ]

digit : (d : ℕ) → d < 16 → is_lower_digit (get_or lower_digits d 0) ≡ true
digit = at_each 16 (λ k. is_lower_digit (get_or lower_digits k 0)) refl

both : (a b : Bool) (rest : Bool) → a ≡ true → b ≡ true → rest ≡ true → (a && (b && rest)) ≡ true
both a b rest p q r = rw (p, q, r) refl

encoded : (bytes : List ℕ) → All (λ b. b < 256) bytes → list_all is_lower_digit (encode_lower bytes) ≡ true
unfolding encode_with
encoded [] small = refl
encoded (b ∷ rest) small =
    let byte : b < 256 = small 0 0 (omega arith) in
    both _ _ _ (digit (b / 16) (omega arith)) (digit (b % 16) (omega arith)) (encoded rest (λ k d h. small (suc k) d (omega arith)))

-- a digest is four bytes for each word
digest_fits : (words : List ℕ) (count : ℕ) → All (λ b. b < 256) (digest_bytes words count)
unfolding digest_bytes
digest_fits words zero = λ k d h. absurd (omega arith)
digest_fits words (suc count) = All-append (λ b. b < 256) (digest_bytes words count) _ (digest_fits words count) (high_first_fit 4 (slice_index words count))

length-digest : (words : List ℕ) (count : ℕ) → length (digest_bytes words count) ≡ 4 * count
unfolding digest_bytes
length-digest words zero = refl
length-digest words (suc count) =
    length-append (digest_bytes words count) (to_be_bytes w32 (slice_index words count)) ∙ omega (arith, length-digest words count)

-- the name of a step has the form of one
pub is_name : (id : List ℕ) (use_number : ℕ) → is_step_name (step_name id use_number) ≡ true
unfolding sha1
is_name id use_number =
    let digest = sha1 (hashed_text id use_number) in
    let long : length digest ≡ 20 = length-digest _ 5 in
    let forty : eqb (length (encode_lower digest)) 40 ≡ true = eq-eqb _ _ (omega (arith, length-encode_with lower_digits digest)) in
    rw forty (encoded digest (digest_fits _ 5))
