-- What is open by its shape, and the rules on what is left of a text.
use Rattle.std.proofs.Common.{◌≡◌, ℕ, suc, zero, ◌+◌, ◌≤◌, List, [], ◌∷◌, ◌++◌, refl, sym, ◌∙◌, ap, subst, arith, length, Option, Some, None, MatchOption, option_to_list, Bool, true, false}
use Rattle.std.specs.Prelude.{Vec, vec_len}
use Rattle.std.specs.Global.{Global}
use Rattle.expr.specs.Tokens.{Placed as PlacedToken, placed_from, placed_at, placed_tokens, behind_spaces}
use Rattle.cel_parse.specs.declared.rules.Items.{Items}
use Rattle.cel_parse.specs.declared.rules.Items.TheVariants.{First, Later}
use Rattle.cel_parse.specs.declared.rules.Shape.{Shape}
use Rattle.cel_parse.specs.declared.rules.Shape.TheVariants as shape
use Rattle.cel_parse.specs.declared.rules.Seat.{Seat}
use Rattle.cel_parse.specs.declared.rules.Seat.TheVariants as seat
use Rattle.cel_parse.specs.declared.rules.Taken as code
use Rattle.cel_parse.specs.declared.rules.Taken.TheVariants as taken
use Rattle.cel_parse.specs.Seats.{taken_of}
use Rattle.cel_parse.specs.declared.token.Placed.{Placed}
use Rattle.cel_parse.specs.Rules.{onto, Taken, stops, takes, without_signs, without_heads, take_token, lesser, rules_on, rules_from, rules_in}
use Rattle.cel_parse.specs.Tokens.{placed_of, IsNext}
use Rattle.cel_parse.proofs.Walks.{one-less}

onto-end : (ys xs : List Shape) (x : Shape) → onto ys (xs ++ x ∷ []) ≡ x ∷ onto ys xs
onto-end ys [] x = refl
onto-end ys (z ∷ zs) x = onto-end (z ∷ ys) zs x

pub pushed-shape : (xs ys : List Shape) (x : Shape) → ys ≡ xs ++ x ∷ [] → onto [] ys ≡ x ∷ onto [] xs
pushed-shape xs ys x e = ap (onto []) e ∙ onto-end [] xs x

nil : (xs : List Shape) → length xs ≡ 0 → xs ≡ []
nil [] h = refl
nil (x ∷ xs) h = absurd (omega (arith, h))

pub popped-shape : (s t : Vec Shape Global) (o : Option Shape) → s.items ≡ t.items ++ option_to_list o → MatchOption o ((vec_len s ≡ 0) × (vec_len t ≡ 0)) (λ _. vec_len t + 1 ≡ vec_len s)
    → MatchOption o ((onto [] s.items ≡ []) × (onto [] t.items ≡ [])) (λ x. onto [] s.items ≡ x ∷ onto [] t.items)
popped-shape s t None e c = (ap (onto []) (nil s.items (sym s.ok.0 ∙ c.0)), ap (onto []) (nil t.items (sym t.ok.0 ∙ c.1)))
popped-shape s t (Some x) e c = pushed-shape t.items s.items x e

-- ---- signs and second branches on top

pub no-sign : (x : Shape) (os : List Shape) → (x ≡ shape.Sign → ⊥) → without_signs (x ∷ os) ≡ x ∷ os
no-sign shape.Sign os h = absurd (h refl)
no-sign shape.Test os h = refl
no-sign shape.Branch os h = refl
no-sign shape.Round os h = refl
no-sign (shape.Square i) os h = refl
no-sign shape.Place os h = refl
no-sign (shape.Call p i) os h = refl

pub no-head : (x : Shape) (os : List Shape) → (x ≡ shape.Sign → ⊥) → (x ≡ shape.Branch → ⊥) → without_heads (x ∷ os) ≡ x ∷ os
no-head shape.Sign os h k = absurd (h refl)
no-head shape.Test os h k = refl
no-head shape.Branch os h k = absurd (k refl)
no-head shape.Round os h k = refl
no-head (shape.Square i) os h k = refl
no-head shape.Place os h k = refl
no-head (shape.Call p i) os h k = refl

-- ---- the rules on what is left

-- what is left gives what the whole gives
abbrev pub RulesOn : ℕ → List ℕ → Option ℕ → List Shape → Seat → List ℕ → Type 0
RulesOn whole text least os s rest = (most : ℕ) × (length rest ≤ most) × (rules_from least os s (placed_from whole most rest) ≡ rules_in (placed_tokens text))

begins : (text : List ℕ) → RulesOn (length text) text None [] seat.Want text
unfolding placed_tokens
begins text = (length text, omega arith, refl)

pub rules-begin : (text rest : List ℕ) (whole : ℕ) (os : List Shape) → whole ≡ length text → rest ≡ text → os ≡ [] → (whole ≡ length text) × RulesOn whole text None os seat.Want rest
rules-begin text rest whole os e f g = (
  e,
  subst (λ (n : ℕ). RulesOn n text None os seat.Want rest) (sym e) (subst (λ (v : List ℕ). RulesOn (length text) text None os seat.Want v) (sym f)
      (subst (λ (qs : List Shape). RulesOn (length text) text None qs seat.Want text) (sym g) (begins text))),
)

unrolls : (whole most : ℕ) (least : Option ℕ) (os : List Shape) (s : Seat) (rest next : List ℕ) (p : Placed) → IsNext whole rest p next → (m : ℕ) → most ≡ suc m
    → rules_from least os s (placed_from whole most rest) ≡ rules_on least (take_token os s (placed_of p)) (λ place qs t. rules_from place qs t (placed_from whole m next))
unrolls whole most least os s rest next p i m e = ap (λ (n : ℕ). rules_from least os s (placed_from whole n rest)) e ∙ ap (rules_from least os s) (i.first (placed_from whole m))

rules-go : (whole : ℕ) (text : List ℕ) (least place : Option ℕ) (os qs : List Shape) (s t : Seat) (rest next : List ℕ) (p : Placed) → RulesOn whole text least os s rest → IsNext whole rest p next
    → takes place qs t ≡ take_token os s (placed_of p) → RulesOn whole text (lesser least place) qs t next
rules-go whole text least place os qs s t rest next p w i e = let less = one-less w.0 rest next w.1 i.shorter in
    (less.0, less.2, sym (unrolls whole w.0 least os s rest next p i less.0 less.1 ∙ ap (λ (o : Taken). rules_on least o (λ place qs t. rules_from place qs t (placed_from whole less.0 next))) (sym e)) ∙ w.2)

pub rules-keep : (whole new : ℕ) (text : List ℕ) (least after place : Option ℕ) (os qs : List Shape) (s t : Seat) (rest next : List ℕ) (p : Placed) (o : Option Placed) (c : code.Taken)
    → new ≡ whole → whole ≡ length text → RulesOn whole text least os s rest
    → o ≡ Some p → MatchOption o ((on : List ℕ → List PlacedToken) → placed_at whole (behind_spaces rest) on ≡ []) (λ p. IsNext whole rest p next)
    → c ≡ taken.Takes place t → taken_of c qs ≡ take_token os s (placed_of p) → after ≡ lesser least place → (new ≡ length text) × RulesOn new text after qs t next
rules-keep whole new text least after place os qs s t rest next p o c e f w k i l h m = (
  e ∙ f,
  subst (λ (n : ℕ). RulesOn n text after qs t next) (sym e) (subst (λ (x : Option ℕ). RulesOn whole text x qs t next) (sym m)
      (rules-go whole text least place os qs s t rest next p w
      (subst (λ (x : Option Placed). MatchOption x ((on : List ℕ → List PlacedToken) → placed_at whole (behind_spaces rest) on ≡ []) (λ p. IsNext whole rest p next)) k i)
      (subst (λ (x : code.Taken). taken_of x qs ≡ take_token os s (placed_of p)) l h))),
)

pub rules-stop : (whole : ℕ) (text : List ℕ) (least : Option ℕ) (os : List Shape) (s : Seat) (rest next : List ℕ) (p : Placed) → RulesOn whole text least os s rest → IsNext whole rest p next
    → stops ≡ take_token os s (placed_of p) → least ≡ rules_in (placed_tokens text)
rules-stop whole text least os s rest next p w i e = let less = one-less w.0 rest next w.1 i.shorter in
    sym (unrolls whole w.0 least os s rest next p i less.0 less.1 ∙ ap (λ (o : Taken). rules_on least o (λ place qs t. rules_from place qs t (placed_from whole less.0 next))) (sym e)) ∙ w.2

ends-from : (whole most : ℕ) (least : Option ℕ) (os : List Shape) (s : Seat) (rest : List ℕ) → ((on : List ℕ → List PlacedToken) → placed_at whole (behind_spaces rest) on ≡ []) → rules_from least os s (placed_from whole most rest) ≡ least
ends-from whole zero least os s rest h = refl
ends-from whole (suc most) least os s rest h = ap (rules_from least os s) (h (placed_from whole most))

pub rules-end : (whole : ℕ) (text : List ℕ) (least : Option ℕ) (os : List Shape) (s : Seat) (rest : List ℕ) → RulesOn whole text least os s rest → ((on : List ℕ → List PlacedToken) → placed_at whole (behind_spaces rest) on ≡ [])
    → least ≡ rules_in (placed_tokens text)
rules-end whole text least os s rest w h = sym (ends-from whole w.0 least os s rest h) ∙ w.2
