-- What a number's bytes are at each stage, and the stages of a number.
use Rattle.std.proofs.Common.{◌≡◌, ℕ, true, cond, List, [], ◌∷◌, ◌++◌, refl, sym, ◌∙◌, ap, subst, append_assoc, append-nil, inl, inr, arith, Option, Some, None}
use Rattle.std.proofs.lemmas.Bool.Decides.{nat_tests}
use Rattle.std.specs.Prelude.{◌==◌}
use Rattle.json_text.proofs.Booleans.{chosen, each-snoc}
use Rattle.json_text.specs.Bytes.{is_digit, is_leading_digit, is_exponent_mark, is_sign}
use Rattle.json_text.specs.Lexical.{IsPositive, AreDigits, IsMinus, IsWhole, IsFraction, IsSign, Maybe, IsNumber}
use Rattle.json_text.specs.Automaton.{from_minus, from_whole, next_stage, may_end}
use Rattle.json_text.specs.declared.number.Stage.{Stage}
use Rattle.json_text.specs.declared.number.Stage.TheVariants as stage

-- `[ minus ] int [ frac ]`
pub record IsFront (w : List ℕ) : Type 0 where
  pub minus : List ℕ
  pub whole : List ℕ
  pub fraction : List ℕ
  pub spelled : w ≡ minus ++ whole ++ fraction
  pub is_minus : IsMinus minus
  pub is_whole : IsWhole whole
  pub is_fraction : Maybe IsFraction fraction

pub record IsZero (w : List ℕ) : Type 0 where
  pub minus : List ℕ
  pub spelled : w ≡ minus ++ 0x30 ∷ []
  pub is_minus : IsMinus minus

pub record IsLong (w : List ℕ) : Type 0 where
  pub minus : List ℕ
  pub whole : List ℕ
  pub spelled : w ≡ minus ++ whole
  pub is_minus : IsMinus minus
  pub is_whole : IsPositive whole

pub record IsPoint (w : List ℕ) : Type 0 where
  pub minus : List ℕ
  pub whole : List ℕ
  pub spelled : w ≡ minus ++ whole ++ 0x2e ∷ []
  pub is_minus : IsMinus minus
  pub is_whole : IsWhole whole

pub record IsFractional (w : List ℕ) : Type 0 where
  pub minus : List ℕ
  pub whole : List ℕ
  pub digits : List ℕ
  pub spelled : w ≡ minus ++ whole ++ 0x2e ∷ digits
  pub is_minus : IsMinus minus
  pub is_whole : IsWhole whole
  pub are_digits : AreDigits digits

pub record IsMarked (w : List ℕ) : Type 0 where
  pub front : List ℕ
  pub mark : ℕ
  pub spelled : w ≡ front ++ mark ∷ []
  pub is_front : IsFront front
  pub is_mark : is_exponent_mark mark ≡ true

pub record IsSigned (w : List ℕ) : Type 0 where
  pub front : List ℕ
  pub mark : ℕ
  pub sign : ℕ
  pub spelled : w ≡ front ++ mark ∷ sign ∷ []
  pub is_front : IsFront front
  pub is_mark : is_exponent_mark mark ≡ true
  pub is_sign_byte : is_sign sign ≡ true

pub record IsPowered (w : List ℕ) : Type 0 where
  pub front : List ℕ
  pub mark : ℕ
  pub sign : List ℕ
  pub digits : List ℕ
  pub spelled : w ≡ front ++ mark ∷ (sign ++ digits)
  pub is_front : IsFront front
  pub is_mark : is_exponent_mark mark ≡ true
  pub is_sign_part : IsSign sign
  pub are_digits : AreDigits digits

abbrev pub HasStage : Stage → List ℕ → Type 0
HasStage stage.Start w = w ≡ []
HasStage stage.Minus w = w ≡ 0x2d ∷ []
HasStage stage.Zero w = IsZero w
HasStage stage.Whole w = IsLong w
HasStage stage.Point w = IsPoint w
HasStage stage.Fraction w = IsFractional w
HasStage stage.Mark w = IsMarked w
HasStage stage.Sign w = IsSigned w
HasStage stage.Exponent w = IsPowered w

digits-one : (b : ℕ) → is_digit b ≡ true → AreDigits (b ∷ [])
digits-one b h = record { first = b; rest = []; spelled = refl; leads = h; digits = tt }

digits-more : (w : List ℕ) (b : ℕ) → AreDigits w → is_digit b ≡ true → AreDigits (w ++ b ∷ [])
digits-more w b h k = record { first = h.first; rest = h.rest ++ b ∷ []; spelled = ap (λ (v : List ℕ). v ++ b ∷ []) h.spelled; leads = h.leads; digits = each-snoc is_digit h.rest b h.digits k }

positive-more : (w : List ℕ) (b : ℕ) → IsPositive w → is_digit b ≡ true → IsPositive (w ++ b ∷ [])
positive-more w b h k = record { first = h.first; rest = h.rest ++ b ∷ []; spelled = ap (λ (v : List ℕ). v ++ b ∷ []) h.spelled; leads = h.leads; digits = each-snoc is_digit h.rest b h.digits k }

-- from a stage's bytes to the next stage's
now : {s t : Stage} (w : List ℕ) → Some s ≡ Some t → HasStage s w → HasStage t w
now {s} {t} w e h = let same : s ≡ t = cc in subst (λ (x : Stage). HasStage x w) same h

never : {A : Type 0} {t : Stage} → (let n : Option Stage = None in n) ≡ Some t → A
never e = absurd (cc)

on_minus : (m : List ℕ) (b : ℕ) (t : Stage) → IsMinus m → from_minus b ≡ Some t → HasStage t (m ++ b ∷ [])
on_minus m b t h e =
    elim (chosen (b == 0x30) (Some stage.Zero) (cond (is_leading_digit b) (Some stage.Whole) None) (Some t) e) [
      | inl c ↦ now _ c.1 (record { minus = m; spelled = ap (λ x. m ++ x ∷ []) (grind (arith, nat_tests, c.0)); is_minus = h })
      | inr c ↦ elim (chosen (is_leading_digit b) (Some stage.Whole) None (Some t) c.1) [
        | inl d ↦ now _ d.1 (record { minus = m; whole = b ∷ []; spelled = refl; is_minus = h; is_whole = record { first = b; rest = []; spelled = refl; leads = d.0; digits = tt } })
        | inr d ↦ never d.1
      ]
    ]

on_mark : (w : List ℕ) (b : ℕ) (t : Stage) → IsFront w → cond (is_exponent_mark b) (Some stage.Mark) None ≡ Some t → HasStage t (w ++ b ∷ [])
on_mark w b t h e =
    elim (chosen (is_exponent_mark b) (Some stage.Mark) None (Some t) e) [
      | inl c ↦ now _ c.1 (record { front = w; mark = b; spelled = refl; is_front = h; is_mark = c.0 })
      | inr c ↦ never c.1
    ]

on_whole : (m k : List ℕ) (b : ℕ) (t : Stage) → IsMinus m → IsWhole k → from_whole b ≡ Some t → HasStage t ((m ++ k) ++ b ∷ [])
on_whole m k b t h i e =
    elim (chosen (b == 0x2e) (Some stage.Point) (cond (is_exponent_mark b) (Some stage.Mark) None) (Some t) e) [
      | inl c ↦ now _ c.1 (record { minus = m; whole = k; spelled = ap (λ x. (m ++ k) ++ x ∷ []) (grind (arith, nat_tests, c.0)); is_minus = h; is_whole = i })
      | inr c ↦ on_mark (m ++ k) b t (record { minus = m; whole = k; fraction = []; spelled = sym (append-nil (m ++ k)); is_minus = h; is_whole = i; is_fraction = inl refl }) c.1
    ]

pub zero-front : (w : List ℕ) → IsZero w → IsFront w
zero-front w h = record { minus = h.minus; whole = 0x30 ∷ []; fraction = []; spelled = h.spelled ∙ sym (append-nil (h.minus ++ 0x30 ∷ [])); is_minus = h.is_minus; is_whole = inl refl; is_fraction = inl refl }

pub long-front : (w : List ℕ) → IsLong w → IsFront w
long-front w h = record { minus = h.minus; whole = h.whole; fraction = []; spelled = h.spelled ∙ sym (append-nil (h.minus ++ h.whole)); is_minus = h.is_minus; is_whole = inr h.is_whole; is_fraction = inl refl }

pub fractional-front : (w : List ℕ) → IsFractional w → IsFront w
fractional-front w h = record { minus = h.minus; whole = h.whole; fraction = 0x2e ∷ h.digits; spelled = h.spelled; is_minus = h.is_minus; is_whole = h.is_whole; is_fraction = inr (h.digits, refl, h.are_digits) }

pub front-number : (w : List ℕ) → IsFront w → IsNumber w
front-number w h = record { minus = h.minus; whole = h.whole; fraction = h.fraction; exponent = []; spelled = h.spelled ∙ sym (append-nil (h.minus ++ h.whole ++ h.fraction)); is_minus = h.is_minus; is_whole = h.is_whole; is_fraction = h.is_fraction; is_exponent = inl refl }

pub powered-number : (w : List ℕ) → IsPowered w → IsNumber w
powered-number w h = let f = h.is_front in record {
  minus = f.minus;
  whole = f.whole;
  fraction = f.fraction;
  exponent = h.mark ∷ (h.sign ++ h.digits);
  spelled = h.spelled ∙ ap (λ (x : List ℕ). x ++ h.mark ∷ (h.sign ++ h.digits)) f.spelled;
  is_minus = f.is_minus;
  is_whole = f.is_whole;
  is_fraction = f.is_fraction;
  is_exponent = inr (h.mark, h.sign, h.digits, refl, h.is_mark, h.is_sign_part, h.are_digits);
}

pub end-number : (s : Stage) (w : List ℕ) → HasStage s w → may_end s ≡ true → IsNumber w
end-number stage.Start w h e = absurd (cc)
end-number stage.Minus w h e = absurd (cc)
end-number stage.Zero w h e = front-number w (zero-front w h)
end-number stage.Whole w h e = front-number w (long-front w h)
end-number stage.Point w h e = absurd (cc)
end-number stage.Fraction w h e = front-number w (fractional-front w h)
end-number stage.Mark w h e = absurd (cc)
end-number stage.Sign w h e = absurd (cc)
end-number stage.Exponent w h e = powered-number w h

powered-one : (front sign : List ℕ) (mark b : ℕ) (t : Stage) → IsFront front → is_exponent_mark mark ≡ true → IsSign sign → cond (is_digit b) (Some stage.Exponent) None ≡ Some t
    → HasStage t ((front ++ mark ∷ sign) ++ b ∷ [])
powered-one front sign mark b t h i k e =
    elim (chosen (is_digit b) (Some stage.Exponent) None (Some t) e) [
      | inl c ↦ now _ c.1 (record { front = front; mark = mark; sign = sign; digits = b ∷ []; spelled = append_assoc front (mark ∷ sign) (b ∷ []); is_front = h; is_mark = i; is_sign_part = k; are_digits = digits-one b c.0 })
      | inr c ↦ never c.1
    ]

pub stage-on : (s : Stage) (b : ℕ) (t : Stage) (w : List ℕ) → HasStage s w → next_stage s b ≡ Some t → HasStage t (w ++ b ∷ [])
stage-on stage.Start b t w h e = rw h
    (elim (chosen (b == 0x2d) (Some stage.Minus) (from_minus b) (Some t) e) [
      | inl c ↦ now _ c.1 (ap (λ x. x ∷ []) (grind (arith, nat_tests, c.0)))
      | inr c ↦ on_minus [] b t (inl refl) c.1
    ])
stage-on stage.Minus b t w h e = rw h (on_minus (0x2d ∷ []) b t (inr refl) e)
stage-on stage.Zero b t w h e = rw h.spelled (on_whole h.minus (0x30 ∷ []) b t h.is_minus (inl refl) e)
stage-on stage.Whole b t w h e = rw h.spelled
    (elim (chosen (is_digit b) (Some stage.Whole) (from_whole b) (Some t) e) [
      | inl c ↦ now _ c.1 (record { minus = h.minus; whole = h.whole ++ b ∷ []; spelled = append_assoc h.minus h.whole (b ∷ []); is_minus = h.is_minus; is_whole = positive-more h.whole b h.is_whole c.0 })
      | inr c ↦ on_whole h.minus h.whole b t h.is_minus (inr h.is_whole) c.1
    ])
stage-on stage.Point b t w h e = rw h.spelled
    (elim (chosen (is_digit b) (Some stage.Fraction) None (Some t) e) [
      | inl c ↦ now _ c.1 (record { minus = h.minus; whole = h.whole; digits = b ∷ []; spelled = append_assoc (h.minus ++ h.whole) (0x2e ∷ []) (b ∷ []); is_minus = h.is_minus; is_whole = h.is_whole; are_digits = digits-one b c.0 })
      | inr c ↦ never c.1
    ])
stage-on stage.Fraction b t w h e =
    elim (chosen (is_digit b) (Some stage.Fraction) (cond (is_exponent_mark b) (Some stage.Mark) None) (Some t) e) [
      | inl c ↦ now _ c.1 (record { minus = h.minus; whole = h.whole; digits = h.digits ++ b ∷ []; spelled = ap (λ (x : List ℕ). x ++ b ∷ []) h.spelled ∙ append_assoc (h.minus ++ h.whole) (0x2e ∷ h.digits) (b ∷ []); is_minus = h.is_minus; is_whole = h.is_whole; are_digits = digits-more h.digits b h.are_digits c.0 })
      | inr c ↦ on_mark w b t (fractional-front w h) c.1
    ]
stage-on stage.Mark b t w h e = rw h.spelled
    (elim (chosen (is_sign b) (Some stage.Sign) (cond (is_digit b) (Some stage.Exponent) None) (Some t) e) [
      | inl c ↦ now _ c.1 (record { front = h.front; mark = h.mark; sign = b; spelled = append_assoc h.front (h.mark ∷ []) (b ∷ []); is_front = h.is_front; is_mark = h.is_mark; is_sign_byte = c.0 })
      | inr c ↦ powered-one h.front [] h.mark b t h.is_front h.is_mark (inl refl) c.1
    ])
stage-on stage.Sign b t w h e = rw h.spelled (powered-one h.front (h.sign ∷ []) h.mark b t h.is_front h.is_mark (inr (h.sign, refl, h.is_sign_byte)) e)
stage-on stage.Exponent b t w h e =
    elim (chosen (is_digit b) (Some stage.Exponent) None (Some t) e) [
      | inl c ↦ now _ c.1 (record { front = h.front; mark = h.mark; sign = h.sign; digits = h.digits ++ b ∷ []; spelled = ap (λ (x : List ℕ). x ++ b ∷ []) h.spelled ∙ append_assoc h.front (h.mark ∷ (h.sign ++ h.digits)) (b ∷ []) ∙ ap (λ (x : List ℕ). h.front ++ h.mark ∷ x) (append_assoc h.sign h.digits (b ∷ [])); is_front = h.is_front; is_mark = h.is_mark; is_sign_part = h.is_sign_part; are_digits = digits-more h.digits b h.are_digits c.0 })
      | inr c ↦ never c.1
    ]
