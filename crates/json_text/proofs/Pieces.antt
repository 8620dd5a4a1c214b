-- The first piece of a text, from the first bytes of its spelling.
use Rattle.std.proofs.Common.{◌≡◌, ℕ, ◌+◌, ◌-◌, ◌<◌, ◌≤◌, true, false, List, [], ◌∷◌, ◌++◌, refl, sym, ◌∙◌, ap, subst, arith, length, take, drop, get_or, Option, Some, None}
use Rattle.std.proofs.lemmas.Bool.{eq-eqb}
use Rattle.std.proofs.Math.Seq.{take-length}
use Rattle.json_text.proofs.Arms.{not-eq}
use Rattle.json_text.specs.Text.{Escape, text_from, none, backslash, unit, low_unit, character_bytes, code_unit, is_high_surrogate, surrogate_pair, short_meaning}
use Rattle.json_text.specs.Splitting.{SplitsFrom, SplitsAfter}
use Rattle.json_text.specs.declared.text.Piece.{Piece}
use Rattle.json_text.specs.declared.text.Piece.TheVariants as piece

rest-is : (n m : ℕ) (bs : List ℕ) → n ≡ length bs + m → take (n - m) bs ≡ bs
rest-is n m bs e = let k : n - m ≡ length bs = omega arith in ap (λ (x : ℕ). take x bs) k ∙ take-length bs

pub none-empty : (w : List ℕ) → length w ≡ 0 → text_from none w ≡ []
unfolding text_from
none-empty [] h = refl
none-empty (b ∷ bs) h = absurd (omega arith)

pub backslash-empty : (w : List ℕ) → length w ≡ 0 → text_from backslash w ≡ []
unfolding text_from
backslash-empty [] h = refl
backslash-empty (b ∷ bs) h = absurd (omega arith)

shorter : (place : Escape) (w v : List ℕ) (o : Option (Piece × List ℕ)) → text_from none w ≡ text_from place v → length v ≤ length w → SplitsFrom place v o → SplitsFrom none w o
shorter place w v None e l h = e ∙ h
shorter place w v (Some p) e l h = (e ∙ h.0, (let k : length p.1 < length v = h.1 in omega arith))

shorter-backslash : (place : Escape) (w v : List ℕ) (o : Option (Piece × List ℕ)) → text_from backslash w ≡ text_from place v → length v ≤ length w → SplitsFrom place v o → SplitsFrom backslash w o
shorter-backslash place w v None e l h = e ∙ h
shorter-backslash place w v (Some p) e l h = (e ∙ h.0, (let k : length p.1 < length v = h.1 in omega arith))

shorter-unit : (place : Escape) (w v : List ℕ) (o : Option (Piece × List ℕ)) → text_from unit w ≡ text_from place v → length v ≤ length w → SplitsFrom place v o → SplitsFrom unit w o
shorter-unit place w v None e l h = e ∙ h
shorter-unit place w v (Some p) e l h = (e ∙ h.0, (let k : length p.1 < length v = h.1 in omega arith))

none-step : (b : ℕ) (bs : List ℕ) → b ≡ 0x5c → text_from none (b ∷ bs) ≡ text_from backslash bs
unfolding text_from
none-step b bs e = rw (eq-eqb b 0x5c e) refl

none-plain : (b : ℕ) (bs : List ℕ) → (b ≡ 0x5c → ⊥) → text_from none (b ∷ bs) ≡ b ∷ text_from none bs
unfolding text_from
none-plain b bs n = rw (not-eq b 0x5c n) refl

pub none-backslash : (w : List ℕ) (o : Option (Piece × List ℕ)) → 1 ≤ length w → get_or w 0 0 ≡ 0x5c → SplitsFrom backslash (take (length w - 1) (drop 1 w)) o → SplitsFrom none w o
none-backslash [] o l e h = absurd (omega arith)
none-backslash (b ∷ bs) o l e h =
    shorter backslash (b ∷ bs) bs o (none-step b bs e) (omega arith)
    (subst (λ (x : List ℕ). SplitsFrom backslash x o) (rest-is (length (b ∷ bs)) 1 bs (omega arith)) h)

pub none-byte : (w : List ℕ) → 1 ≤ length w → (get_or w 0 0 ≡ 0x5c → ⊥) → SplitsFrom none w (Some (piece.Byte (get_or w 0 0), take (length w - 1) (drop 1 w)))
none-byte [] l n = absurd (omega arith)
none-byte (b ∷ bs) l n =
    let r = rest-is (length (b ∷ bs)) 1 bs (omega arith) in
    subst (λ (x : List ℕ). SplitsFrom none (b ∷ bs) (Some (piece.Byte b, x))) (sym r) (none-plain b bs n, (omega arith))

backslash-step : (b : ℕ) (bs : List ℕ) → b ≡ 0x75 → text_from backslash (b ∷ bs) ≡ text_from unit bs
unfolding text_from
backslash-step b bs e = rw (eq-eqb b 0x75 e) refl

backslash-plain : (b : ℕ) (bs : List ℕ) → (b ≡ 0x75 → ⊥) → text_from backslash (b ∷ bs) ≡ short_meaning b ∷ text_from none bs
unfolding text_from
backslash-plain b bs n = rw (not-eq b 0x75 n) refl

pub backslash-unit : (w : List ℕ) (o : Option (Piece × List ℕ)) → 1 ≤ length w → get_or w 0 0 ≡ 0x75 → SplitsFrom unit (take (length w - 1) (drop 1 w)) o → SplitsFrom backslash w o
backslash-unit [] o l e h = absurd (omega arith)
backslash-unit (b ∷ bs) o l e h =
    shorter-backslash unit (b ∷ bs) bs o (backslash-step b bs e) (omega arith)
    (subst (λ (x : List ℕ). SplitsFrom unit x o) (rest-is (length (b ∷ bs)) 1 bs (omega arith)) h)

pub backslash-byte : (w : List ℕ) (m : ℕ) → 1 ≤ length w → (get_or w 0 0 ≡ 0x75 → ⊥) → m ≡ short_meaning (get_or w 0 0) → SplitsFrom backslash w (Some (piece.Byte m, take (length w - 1) (drop 1 w)))
backslash-byte [] m l n e = absurd (omega arith)
backslash-byte (b ∷ bs) m l n e =
    let r = rest-is (length (b ∷ bs)) 1 bs (omega arith) in
    subst (λ (x : List ℕ). SplitsFrom backslash (b ∷ bs) (Some (piece.Byte m, x))) (sym r) (backslash-plain b bs n ∙ ap (λ (x : ℕ). x ∷ text_from none bs) (sym e), (omega arith))

pub unit-none : (w : List ℕ) → length w < 4 → text_from unit w ≡ []
unfolding text_from
unit-none [] h = refl
unit-none (a ∷ []) h = refl
unit-none (a ∷ b ∷ []) h = refl
unit-none (a ∷ b ∷ c ∷ []) h = refl
unit-none (a ∷ b ∷ c ∷ d ∷ bs) h = absurd (omega arith)

pub unit-some : (w : List ℕ) (u : ℕ) (o : Option (Piece × List ℕ)) → 4 ≤ length w → u ≡ code_unit (get_or w 0 0) (get_or w 1 0) (get_or w 2 0) (get_or w 3 0)
    → SplitsAfter u (take (length w - 4) (drop 4 w)) o → SplitsFrom unit w o
unit-some [] u o l e h = absurd (omega arith)
unit-some (a ∷ []) u o l e h = absurd (omega arith)
unit-some (a ∷ b ∷ []) u o l e h = absurd (omega arith)
unit-some (a ∷ b ∷ c ∷ []) u o l e h = absurd (omega arith)
unit-some (a ∷ b ∷ c ∷ d ∷ bs) u o l e h =
    subst (λ (x : List ℕ). SplitsFrom unit (a ∷ b ∷ c ∷ d ∷ x) o) (rest-is (length (a ∷ b ∷ c ∷ d ∷ bs)) 4 bs (omega arith)) (h a b c d e)

unit-high : (a b c d : ℕ) (bs : List ℕ) → is_high_surrogate (code_unit a b c d) ≡ true → text_from unit (a ∷ b ∷ c ∷ d ∷ bs) ≡ text_from (low_unit (code_unit a b c d)) bs
unfolding text_from
unit-high a b c d bs e = rw e refl

unit-plain : (a b c d : ℕ) (bs : List ℕ) → is_high_surrogate (code_unit a b c d) ≡ false → text_from unit (a ∷ b ∷ c ∷ d ∷ bs) ≡ character_bytes (code_unit a b c d) ++ text_from none bs
unfolding text_from
unit-plain a b c d bs e = rw e refl

pub after-high : (u : ℕ) (w : List ℕ) (o : Option (Piece × List ℕ)) → is_high_surrogate u ≡ true → SplitsFrom (low_unit u) w o → SplitsAfter u w o
after-high u w o h k = λ a b c d e.
    shorter-unit (low_unit u) (a ∷ b ∷ c ∷ d ∷ w) w o
    (unit-high a b c d w (ap is_high_surrogate (sym e) ∙ h) ∙ ap (λ (x : ℕ). text_from (low_unit x) w) (sym e)) (omega arith) k

pub after-plain : (u : ℕ) (w : List ℕ) → is_high_surrogate u ≡ false → SplitsAfter u w (Some (piece.Code u, w))
after-plain u w h = λ a b c d e. (unit-plain a b c d w (ap is_high_surrogate (sym e) ∙ h) ∙ ap (λ (x : ℕ). character_bytes x ++ text_from none w) (sym e), (omega arith))

pub low-none : (h : ℕ) (w : List ℕ) → length w < 6 → text_from (low_unit h) w ≡ []
unfolding text_from
low-none h [] l = refl
low-none h (a ∷ []) l = refl
low-none h (a ∷ b ∷ []) l = refl
low-none h (a ∷ b ∷ c ∷ []) l = refl
low-none h (a ∷ b ∷ c ∷ d ∷ []) l = refl
low-none h (a ∷ b ∷ c ∷ d ∷ e ∷ []) l = refl
low-none h (a ∷ b ∷ c ∷ d ∷ e ∷ f ∷ bs) l = absurd (omega arith)

low-step : (h s u a b c d : ℕ) (bs : List ℕ) → text_from (low_unit h) (s ∷ u ∷ a ∷ b ∷ c ∷ d ∷ bs) ≡ character_bytes (surrogate_pair h (code_unit a b c d)) ++ text_from none bs
unfolding text_from
low-step h s u a b c d bs = refl

pub low-some : (h : ℕ) (w : List ℕ) (low p : ℕ) → 6 ≤ length w → low ≡ code_unit (get_or w 2 0) (get_or w 3 0) (get_or w 4 0) (get_or w 5 0) → p ≡ surrogate_pair h low
    → SplitsFrom (low_unit h) w (Some (piece.Code p, take (length w - 6) (drop 6 w)))
low-some h [] low p l e k = absurd (omega arith)
low-some h (a ∷ []) low p l e k = absurd (omega arith)
low-some h (a ∷ b ∷ []) low p l e k = absurd (omega arith)
low-some h (a ∷ b ∷ c ∷ []) low p l e k = absurd (omega arith)
low-some h (a ∷ b ∷ c ∷ d ∷ []) low p l e k = absurd (omega arith)
low-some h (a ∷ b ∷ c ∷ d ∷ f ∷ []) low p l e k = absurd (omega arith)
low-some h (s ∷ u ∷ a ∷ b ∷ c ∷ d ∷ bs) low p l e k =
    let r = rest-is (length (s ∷ u ∷ a ∷ b ∷ c ∷ d ∷ bs)) 6 bs (omega arith) in
    subst (λ (x : List ℕ). SplitsFrom (low_unit h) (s ∷ u ∷ a ∷ b ∷ c ∷ d ∷ bs) (Some (piece.Code p, x))) (sym r)
    (low-step h s u a b c d bs ∙ ap (λ (x : ℕ). character_bytes x ++ text_from none bs) (sym (k ∙ ap (surrogate_pair h) e)), (omega arith))
