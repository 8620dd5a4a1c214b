-- The fault of the walk is told by the grammar.
use Rattle.std.proofs.Common.{◌≡◌, ℕ, map, length, List, [], ◌∷◌, ◌++◌, refl, sym, ◌∙◌, ap, subst, append_assoc, append-nil, Option, Some, None, Result, Ok, Err, ◌⊎◌, inl, inr}
use Rattle.std.proofs.lemmas.List.{map-append}
use Rattle.expr.specs.Tokens.{Token, quoted, unclosed, Placed, token_of, placed_tokens, tokens_of}
use Rattle.expr.specs.Tree as tree
use Rattle.expr.specs.Tree.{Tree}
use Rattle.expr.specs.Reading.{State, held, want, enter, have, behind_dot, Step, goes, refused, too_deep, step, run, end_in, deepest}
use Rattle.cel_parse.specs.declared.fault.ParseFault.{ParseFault}
use Rattle.cel_parse.specs.declared.fault.ParseFault.TheVariants.{Syntax, TooDeep}
use Rattle.cel_parse.specs.Faults.{walk, walk_on, walk_end, refused_place, unclosed_or}
use Rattle.cel_parse.specs.Places.{Begins, TakesString, IsPlace, StopsAt, EndsEarly, IsDeepAt}
use Rattle.cel_parse.proofs.Completions.{alive, alive-within, dead-at, deeper, none-within, none-whole, one-more, plain-append, plain-front}
use Rattle.cel_parse.proofs.Plain.{all-plain}
use Rattle.cel_parse.proofs.Sound.{AllPlain}

-- the reader stands so behind these tokens of a text
record Stands-at (front : List Placed) (s : State) : Type 0 where
  plain : AllPlain (map token_of front)
  reads : run deepest (goes (want [])) (map token_of front) ≡ goes s

front-more : (front : List Placed) (p : Placed) → map token_of (front ++ p ∷ []) ≡ map token_of front ++ p.token ∷ []
front-more front p = map-append token_of front (p ∷ [])

front-plain : (front ps : List Placed) → AllPlain (map token_of (front ++ ps)) → AllPlain (map token_of front)
front-plain front ps y = plain-front (map token_of front) (map token_of ps) (subst AllPlain (map-append token_of front ps) y)

more-plain : (front ps : List Placed) (p : Placed) → AllPlain (map token_of (front ++ p ∷ ps)) → AllPlain (map token_of (front ++ p ∷ []))
more-plain front ps p y = front-plain (front ++ p ∷ []) ps (subst (λ (v : List Placed). AllPlain (map token_of v)) (sym (append_assoc front (p ∷ []) ps)) y)

next-stands : (front : List Placed) (p : Placed) (s t : State) → AllPlain (map token_of (front ++ p ∷ [])) → Stands-at front s → step deepest s p.token ≡ goes t → Stands-at (front ++ p ∷ []) t
next-stands front p s t y h e = record { plain = y; reads = ap (run deepest (goes (want []))) (front-more front p) ∙ one-more deepest (map token_of front) p.token s h.reads ∙ e }

-- ---- where the fault is

want-place : (whole start place : ℕ) (x : Token) (T : Type 0) → T → unclosed_or whole start x ≡ place → ((place ≡ start) × (x ≡ unclosed → T → ⊥)) ⊎ ((place ≡ whole) × (x ≡ unclosed) × T)
want-place whole start place unclosed T t e = inr (sym e, refl, t)
want-place whole start place _ T t e = inl (sym e, λ k. absurd (cc))

takes-string : (front : List Placed) (s : State) → Stands-at front s → (t : State) → step deepest s (quoted []) ≡ goes t → TakesString front
takes-string front s h t e = alive deepest (map token_of front ++ quoted [] ∷ []) t (plain-append (map token_of front) (quoted [] ∷ []) h.plain (refl, tt)) (one-more deepest (map token_of front) (quoted []) s h.reads ∙ e)

no-string : (front : List Placed) (s : State) → Stands-at front s → step deepest s (quoted []) ≡ refused → TakesString front → ⊥
no-string front s h e = dead-at (map token_of front) (quoted []) s h.reads e

place-is : (whole place : ℕ) (front : List Placed) (p : Placed) (s : State) → Stands-at front s → refused_place whole s p ≡ place → IsPlace whole front p place
place-is whole place front p (want fs) h e = want-place whole p.start place p.token (TakesString front) (takes-string front (want fs) h (have (held fs (tree.text []))) refl) e
place-is whole place front p (enter fs f) h e = inl (sym e, λ k. no-string front (enter fs f) h refl)
place-is whole place front p (have g) h e = inl (sym e, λ k. no-string front (have g) h refl)
place-is whole place front p (behind_dot g) h e = inl (sym e, λ k. no-string front (behind_dot g) h refl)

-- ---- Syntax

abbrev Stopped : ℕ → ℕ → List Placed → Type 0
Stopped whole place ps = StopsAt whole ps place ⊎ ((place ≡ whole) × EndsEarly ps)

end-syntax : (whole place : ℕ) (o : Option Tree) → walk_end whole o ≡ Err (Syntax place) → (o ≡ None) × (place ≡ whole)
end-syntax whole place None e = (refl, (let k : whole ≡ place = cc in sym k))
end-syntax whole place (Some t) e = absurd (cc)

ended : (whole place : ℕ) (front : List Placed) (s : State) → Stands-at front s → walk_end whole (end_in s) ≡ Err (Syntax place) → Stopped whole place (front ++ [])
ended whole place front s h e = let x = end-syntax whole place (end_in s) e in
    inr (x.1, subst EndsEarly (sym (append-nil front)) (record { begins = alive deepest (map token_of front) s h.plain h.reads; none = none-whole (map token_of front) s h.reads x.0 }))

stopped-step : (whole place : ℕ) (front ps : List Placed) (p : Placed) (s : State) (o : Step) → Stands-at front s → step deepest s p.token ≡ o
    → ((t : State) → step deepest s p.token ≡ goes t → walk whole t ps ≡ Err (Syntax place) → Stopped whole place (front ++ p ∷ ps))
    → walk_on whole s p o (λ t. walk whole t ps) ≡ Err (Syntax place) → Stopped whole place (front ++ p ∷ ps)
stopped-step whole place front ps p s (goes t) h k ih e = ih t k e
stopped-step whole place front ps p s too_deep h k ih e = absurd (cc)
stopped-step whole place front ps p s refused h k ih e = let is : refused_place whole s p ≡ place = cc in inl (record {
  front = front;
  first = p;
  behind = ps;
  split = refl;
  begins = alive deepest (map token_of front) s h.plain h.reads;
  stops = dead-at (map token_of front) p.token s h.reads k;
  is_place = place-is whole place front p s h is;
})

stopped : (whole place : ℕ) (ps front : List Placed) (s : State) → AllPlain (map token_of (front ++ ps)) → Stands-at front s → walk whole s ps ≡ Err (Syntax place) → Stopped whole place (front ++ ps)
stopped whole place [] front s y h e = ended whole place front s h e
stopped whole place (p ∷ ps) front s y h e = stopped-step whole place front ps p s (step deepest s p.token) h refl
    (λ t k g. subst (Stopped whole place) (append_assoc front (p ∷ []) ps)
    (stopped whole place ps (front ++ p ∷ []) t (subst (λ (v : List Placed). AllPlain (map token_of v)) (sym (append_assoc front (p ∷ []) ps)) y) (next-stands front p s t (more-plain front ps p y) h k) g)) e

pub text-stops : (text : List ℕ) (place : ℕ) → walk (length text) (want []) (placed_tokens text) ≡ Err (Syntax place) → StopsAt (length text) (placed_tokens text) place ⊎ ((place ≡ length text) × EndsEarly (placed_tokens text))
unfolding tokens_of
text-stops text place e = stopped (length text) place (placed_tokens text) [] (want []) (all-plain text) (record { plain = tt; reads = refl }) e

-- ---- TooDeep

end-deep : (whole place : ℕ) (o : Option Tree) → walk_end whole o ≡ Err (TooDeep place) → ⊥
end-deep whole place None e = cc
end-deep whole place (Some t) e = cc

deep-step : (whole place : ℕ) (front ps : List Placed) (p : Placed) (s : State) (o : Step) → AllPlain (map token_of (front ++ p ∷ [])) → Stands-at front s → step deepest s p.token ≡ o
    → ((t : State) → step deepest s p.token ≡ goes t → walk whole t ps ≡ Err (TooDeep place) → IsDeepAt (front ++ p ∷ ps) place)
    → walk_on whole s p o (λ t. walk whole t ps) ≡ Err (TooDeep place) → IsDeepAt (front ++ p ∷ ps) place
deep-step whole place front ps p s (goes t) y h k ih e = ih t k e
deep-step whole place front ps p s refused y h k ih e = absurd (cc)
deep-step whole place front ps p s too_deep y h k ih e = let is : p.start ≡ place = cc in record {
  front = front;
  first = p;
  behind = ps;
  split = refl;
  begins = deeper (map token_of front) p.token s (subst AllPlain (front-more front p) y) h.reads k;
  deep = none-within (map token_of front) p.token s h.reads k;
  within = alive-within (map token_of front) p.token s h.plain h.reads k;
  is_place = sym is;
}

is-deep : (whole place : ℕ) (ps front : List Placed) (s : State) → AllPlain (map token_of (front ++ ps)) → Stands-at front s → walk whole s ps ≡ Err (TooDeep place) → IsDeepAt (front ++ ps) place
is-deep whole place [] front s y h e = absurd (end-deep whole place (end_in s) e)
is-deep whole place (p ∷ ps) front s y h e = deep-step whole place front ps p s (step deepest s p.token) (more-plain front ps p y) h refl
    (λ t k g. subst (λ (v : List Placed). IsDeepAt v place) (append_assoc front (p ∷ []) ps)
    (is-deep whole place ps (front ++ p ∷ []) t (subst (λ (v : List Placed). AllPlain (map token_of v)) (sym (append_assoc front (p ∷ []) ps)) y) (next-stands front p s t (more-plain front ps p y) h k) g)) e

pub text-deep : (text : List ℕ) (place : ℕ) → walk (length text) (want []) (placed_tokens text) ≡ Err (TooDeep place) → IsDeepAt (placed_tokens text) place
unfolding tokens_of
text-deep text place e = is-deep (length text) place (placed_tokens text) [] (want []) (all-plain text) (record { plain = tt; reads = refl }) e
