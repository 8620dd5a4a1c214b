-- A number passes through its stages to one where it may end.
use Rattle.std.proofs.Common.{◌≡◌, ℕ, true, false, List, [], ◌∷◌, ◌++◌, refl, ◌∙◌, ap, ◌⊎◌, inl, inr, arith, Option, Some, None}
use Rattle.std.proofs.lemmas.Bool.{eqb-true}
use Rattle.std.proofs.lemmas.Bool.Decides.{nat_tests}
use Rattle.std.specs.Prelude.{◌==◌, option_and_then}
use Rattle.json_text.proofs.Booleans.{either_of}
use Rattle.json_text.specs.Bytes.{Each, is_digit, is_leading_digit, is_exponent_mark, is_sign}
use Rattle.json_text.specs.Lexical.{AreDigits, IsMinus, IsWhole, IsFraction, IsSign, IsExponent, Maybe, IsNumber}
use Rattle.json_text.specs.Automaton.{from_minus, next_stage, may_end}
use Rattle.json_text.specs.declared.number.Stage.{Stage}
use Rattle.json_text.specs.declared.number.Stage.TheVariants as stage

unfoldable pub pass : Stage → List ℕ → Option Stage
pass s [] = Some s
pass s (b ∷ bs) = option_and_then (λ t. pass t bs) (next_stage s b)

pub pass-nil : (s : Stage) → pass s [] ≡ Some s
unfolding pass
pass-nil s = refl

pub pass-one : (s t : Stage) (b : ℕ) (w : List ℕ) → next_stage s b ≡ Some t → pass s (b ∷ w) ≡ pass t w
unfolding pass
pass-one s t b w h = rw h refl

pass-append-at : (b : ℕ) (bs w : List ℕ) (s t : Stage) → ((u : Stage) → pass u bs ≡ Some t → pass u (bs ++ w) ≡ pass t w) → (o : Option Stage) → next_stage s b ≡ o → option_and_then (λ u. pass u bs) o ≡ Some t
    → option_and_then (λ u. pass u (bs ++ w)) (next_stage s b) ≡ pass t w
unfolding pass
pass-append-at b bs w s t more None e h = absurd (cc)
pass-append-at b bs w s t more (Some u) e h = rw e (more u h)

pub pass-append : (v w : List ℕ) (s t : Stage) → pass s v ≡ Some t → pass s (v ++ w) ≡ pass t w
unfolding pass
pass-append [] w s t h = let same : s ≡ t = cc in ap (λ (x : Stage). pass x w) same
pass-append (b ∷ bs) w s t h = pass-append-at b bs w s t (λ u k. pass-append bs w u t k) (next_stage s b) refl h

digits-stay : (s : Stage) → ((b : ℕ) → is_digit b ≡ true → next_stage s b ≡ Some s) → (w : List ℕ) → Each is_digit w → pass s w ≡ Some s
digits-stay s f [] h = pass-nil s
digits-stay s f (b ∷ bs) h = pass-one s s b bs (f b h.0) ∙ digits-stay s f bs h.1

stays_whole : (b : ℕ) → is_digit b ≡ true → next_stage stage.Whole b ≡ Some stage.Whole
stays_whole b h = rw h refl

stays_fraction : (b : ℕ) → is_digit b ≡ true → next_stage stage.Fraction b ≡ Some stage.Fraction
stays_fraction b h = rw h refl

stays_exponent : (b : ℕ) → is_digit b ≡ true → next_stage stage.Exponent b ≡ Some stage.Exponent
stays_exponent b h = rw h refl

not_zero : (b : ℕ) → is_leading_digit b ≡ true → (b == 0x30) ≡ false
not_zero b h = grind (arith, nat_tests)

pub not_minus : (b : ℕ) → is_leading_digit b ≡ true → (b == 0x2d) ≡ false
not_minus b h = grind (arith, nat_tests)

leading : (b : ℕ) → is_leading_digit b ≡ true → from_minus b ≡ Some stage.Whole
leading b h = rw (not_zero b h, h) refl

leading_start : (b : ℕ) → is_leading_digit b ≡ true → next_stage stage.Start b ≡ Some stage.Whole
leading_start b h = rw (not_minus b h) (leading b h)

-- where a number may be after its whole part, and after its fraction
abbrev AtWhole : Stage → Type 0
AtWhole s = (s ≡ stage.Zero) ⊎ (s ≡ stage.Whole)

abbrev AtFront : Stage → Type 0
AtFront s = AtWhole s ⊎ (s ≡ stage.Fraction)

start-whole : (w : List ℕ) → IsWhole w → (s : Stage) × (pass stage.Start w ≡ Some s) × AtWhole s
start-whole w (inl h) = (stage.Zero, rw h (pass-one stage.Start stage.Zero 0x30 [] refl ∙ pass-nil stage.Zero), inl refl)
start-whole w (inr h) = (stage.Whole, rw h.spelled (pass-one stage.Start stage.Whole h.first h.rest (leading_start h.first h.leads) ∙ digits-stay stage.Whole stays_whole h.rest h.digits), inr refl)

minus-whole : (w : List ℕ) → IsWhole w → (s : Stage) × (pass stage.Minus w ≡ Some s) × AtWhole s
minus-whole w (inl h) = (stage.Zero, rw h (pass-one stage.Minus stage.Zero 0x30 [] refl ∙ pass-nil stage.Zero), inl refl)
minus-whole w (inr h) = (stage.Whole, rw h.spelled (pass-one stage.Minus stage.Whole h.first h.rest (leading h.first h.leads) ∙ digits-stay stage.Whole stays_whole h.rest h.digits), inr refl)

to-whole : (m w : List ℕ) → IsMinus m → IsWhole w → (s : Stage) × (pass stage.Start (m ++ w) ≡ Some s) × AtWhole s
to-whole m w (inl h) k = rw h (start-whole w k)
to-whole m w (inr h) k = let r = minus-whole w k in (r.0, rw h (pass-one stage.Start stage.Minus 0x2d w refl ∙ r.1), r.2)

point : (s : Stage) → AtWhole s → next_stage s 0x2e ≡ Some stage.Point
point s (inl h) = rw h refl
point s (inr h) = rw h refl

fraction-digits : (w : List ℕ) → AreDigits w → pass stage.Point w ≡ Some stage.Fraction
fraction-digits w h = rw h.spelled (pass-one stage.Point stage.Fraction h.first h.rest (rw h.leads refl) ∙ digits-stay stage.Fraction stays_fraction h.rest h.digits)

to-front : (s : Stage) (w : List ℕ) → AtWhole s → Maybe IsFraction w → (t : Stage) × (pass s w ≡ Some t) × AtFront t
to-front s w h (inl k) = (s, rw k (pass-nil s), inl h)
to-front s w h (inr k) = (stage.Fraction, rw k.1 (pass-one s stage.Point 0x2e k.0 (point s h) ∙ fraction-digits k.0 k.2), inr refl)

mark_fraction : (b : ℕ) → is_exponent_mark b ≡ true → next_stage stage.Fraction b ≡ Some stage.Mark
mark_fraction b h = elim (either_of (b == 0x65) (b == 0x45) h) [ inl e ↦ rw (eqb-true b 0x65 e) refl | inr e ↦ rw (eqb-true b 0x45 e) refl ]

mark_zero : (b : ℕ) → is_exponent_mark b ≡ true → next_stage stage.Zero b ≡ Some stage.Mark
mark_zero b h = elim (either_of (b == 0x65) (b == 0x45) h) [ inl e ↦ rw (eqb-true b 0x65 e) refl | inr e ↦ rw (eqb-true b 0x45 e) refl ]

mark_whole : (b : ℕ) → is_exponent_mark b ≡ true → next_stage stage.Whole b ≡ Some stage.Mark
mark_whole b h = elim (either_of (b == 0x65) (b == 0x45) h) [ inl e ↦ rw (eqb-true b 0x65 e) refl | inr e ↦ rw (eqb-true b 0x45 e) refl ]

mark_on : (s : Stage) (b : ℕ) → AtFront s → is_exponent_mark b ≡ true → next_stage s b ≡ Some stage.Mark
mark_on s b (inl (inl e)) h = rw e (mark_zero b h)
mark_on s b (inl (inr e)) h = rw e (mark_whole b h)
mark_on s b (inr e) h = rw e (mark_fraction b h)

no_sign : (b : ℕ) → is_digit b ≡ true → is_sign b ≡ false
no_sign b h = grind (arith, nat_tests)

mark_digit : (b : ℕ) → is_digit b ≡ true → next_stage stage.Mark b ≡ Some stage.Exponent
mark_digit b h = rw (no_sign b h, h) refl

sign-digits : (w : List ℕ) → AreDigits w → pass stage.Sign w ≡ Some stage.Exponent
sign-digits w h = rw h.spelled (pass-one stage.Sign stage.Exponent h.first h.rest (rw h.leads refl) ∙ digits-stay stage.Exponent stays_exponent h.rest h.digits)

mark-digits : (w : List ℕ) → AreDigits w → pass stage.Mark w ≡ Some stage.Exponent
mark-digits w h = rw h.spelled (pass-one stage.Mark stage.Exponent h.first h.rest (mark_digit h.first h.leads) ∙ digits-stay stage.Exponent stays_exponent h.rest h.digits)

mark-power : (sign w : List ℕ) → IsSign sign → AreDigits w → pass stage.Mark (sign ++ w) ≡ Some stage.Exponent
mark-power sign w (inl h) k = rw h (mark-digits w k)
mark-power sign w (inr h) k = rw h.1 (pass-one stage.Mark stage.Sign h.0 w (rw h.2 refl) ∙ sign-digits w k)

may-end-front : (s : Stage) → AtFront s → may_end s ≡ true
may-end-front s (inl (inl e)) = rw e refl
may-end-front s (inl (inr e)) = rw e refl
may-end-front s (inr e) = rw e refl

to-end : (s : Stage) (w : List ℕ) → AtFront s → Maybe IsExponent w → (t : Stage) × (pass s w ≡ Some t) × (may_end t ≡ true)
to-end s w h (inl k) = (s, rw k (pass-nil s), may-end-front s h)
to-end s w h (inr k) = (stage.Exponent, rw k.3 (pass-one s stage.Mark k.0 (k.1 ++ k.2) (mark_on s k.0 h k.4) ∙ mark-power k.1 k.2 k.5 k.6), refl)

-- a number ends where it may
pub number-passes : (w : List ℕ) → IsNumber w → (t : Stage) × (pass stage.Start w ≡ Some t) × (may_end t ≡ true)
number-passes w h =
    let a = to-whole h.minus h.whole h.is_minus h.is_whole in
    let b = to-front a.0 h.fraction a.2 h.is_fraction in
    let c = to-end b.0 h.exponent b.2 h.is_exponent in (
      c.0,
      rw h.spelled (pass-append (h.minus ++ h.whole ++ h.fraction) h.exponent stage.Start b.0
          (pass-append (h.minus ++ h.whole) h.fraction stage.Start a.0 a.1 ∙ b.1) ∙ c.1),
      c.2,
    )

-- from each stage some bytes lead to one where a number may end
pub can-end : (s : Stage) → (w : List ℕ) × (t : Stage) × (pass s w ≡ Some t) × (may_end t ≡ true)
unfolding pass
can-end stage.Start = (0x30 ∷ [], stage.Zero, refl, refl)
can-end stage.Minus = (0x30 ∷ [], stage.Zero, refl, refl)
can-end stage.Zero = ([], stage.Zero, refl, refl)
can-end stage.Whole = ([], stage.Whole, refl, refl)
can-end stage.Point = (0x30 ∷ [], stage.Fraction, refl, refl)
can-end stage.Fraction = ([], stage.Fraction, refl, refl)
can-end stage.Mark = (0x30 ∷ [], stage.Exponent, refl, refl)
can-end stage.Sign = (0x30 ∷ [], stage.Exponent, refl, refl)
can-end stage.Exponent = ([], stage.Exponent, refl, refl)
