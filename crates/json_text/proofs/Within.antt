-- The named states inside a string are what the patterns leave open.
use Rattle.std.proofs.Common.{◌≡◌, ℕ, zero, suc, ◌<◌, Bool, true, false, ◌&&◌, List, [], ◌∷◌, refl, sym, ◌∙◌, ap, subst, arith, Option, Some, None}
use Rattle.std.proofs.lemmas.Bool.{eqb-true, eqb-false}
use Rattle.std.specs.Prelude.{cond, not, ◌==◌}
use Rattle.json_text.proofs.Booleans.{and_left, and_right}
use Rattle.json_text.specs.Lexical.{Class, Pattern}
use Rattle.json_text.specs.Automaton.{left_after, has_ended}
use Rattle.json_text.specs.Steps.{after_lead, alternatives, is_unescaped, next_within}
use Rattle.json_text.specs.declared.character.Within.{Within}
use Rattle.json_text.specs.declared.character.Within.TheVariants as at

abbrev same_class : Class → Class → Bool
same_class [] [] = true
same_class [] (s ∷ ss) = false
same_class (r ∷ rs) [] = false
same_class (r ∷ rs) (s ∷ ss) = (r.0 == s.0) && (r.1 == s.1) && same_class rs ss

abbrev same_pattern : Pattern → Pattern → Bool
same_pattern [] [] = true
same_pattern [] (s ∷ ss) = false
same_pattern (r ∷ rs) [] = false
same_pattern (r ∷ rs) (s ∷ ss) = same_class r s && same_pattern rs ss

abbrev same_patterns : List Pattern → List Pattern → Bool
same_patterns [] [] = true
same_patterns [] (s ∷ ss) = false
same_patterns (r ∷ rs) [] = false
same_patterns (r ∷ rs) (s ∷ ss) = same_pattern r s && same_patterns rs ss

same-class : (c d : Class) → same_class c d ≡ true → c ≡ d
same-class [] [] h = refl
same-class [] (s ∷ ss) h = absurd (cc)
same-class (r ∷ rs) [] h = absurd (cc)
same-class (r ∷ rs) (s ∷ ss) h =
    let a = and_left ((r.0 == s.0) && (r.1 == s.1)) (same_class rs ss) h in
    let x : r.0 ≡ s.0 = eqb-true r.0 s.0 (and_left (r.0 == s.0) (r.1 == s.1) a) in
    let y : r.1 ≡ s.1 = eqb-true r.1 s.1 (and_right (r.0 == s.0) (r.1 == s.1) a) in
    ap (λ (n : ℕ). (n, r.1) ∷ rs) x ∙ ap (λ (n : ℕ). (s.0, n) ∷ rs) y ∙ ap (λ (c : Class). s ∷ c) (same-class rs ss (and_right ((r.0 == s.0) && (r.1 == s.1)) (same_class rs ss) h))

same-pattern : (c d : Pattern) → same_pattern c d ≡ true → c ≡ d
same-pattern [] [] h = refl
same-pattern [] (s ∷ ss) h = absurd (cc)
same-pattern (r ∷ rs) [] h = absurd (cc)
same-pattern (r ∷ rs) (s ∷ ss) h =
    ap (λ (c : Class). c ∷ rs) (same-class r s (and_left (same_class r s) (same_pattern rs ss) h)) ∙ ap (λ (p : Pattern). s ∷ p) (same-pattern rs ss (and_right (same_class r s) (same_pattern rs ss) h))

same-patterns : (c d : List Pattern) → same_patterns c d ≡ true → c ≡ d
same-patterns [] [] h = refl
same-patterns [] (s ∷ ss) h = absurd (cc)
same-patterns (r ∷ rs) [] h = absurd (cc)
same-patterns (r ∷ rs) (s ∷ ss) h =
    ap (λ (c : Pattern). c ∷ rs) (same-pattern r s (and_left (same_pattern r s) (same_patterns rs ss) h)) ∙ ap (λ (p : List Pattern). s ∷ p) (same-patterns rs ss (and_right (same_pattern r s) (same_patterns rs ss) h))

-- ---- one byte

abbrev leads_to : Option Within → List Pattern → Bool
leads_to None ps = same_patterns ps []
leads_to (Some at.Between) ps = has_ended ps
leads_to (Some x) ps = same_patterns ps (alternatives x) && not (has_ended (alternatives x))

abbrev pub all_below : ℕ → (ℕ → Bool) → Bool
all_below zero test = true
all_below (suc n) test = test n && all_below n test

at-or-below : (n b : ℕ) (test : ℕ → Bool) → test n ≡ true → (b < n → test b ≡ true) → (v : Bool) → (b == n) ≡ v → b < suc n → test b ≡ true
at-or-below n b test h k true e l = subst (λ (x : ℕ). test x ≡ true) (sym (eqb-true b n e)) h
at-or-below n b test h k false e l = k (let m : ¬ (b ≡ n) = eqb-false b n e in omega arith)

pub below : (n : ℕ) (test : ℕ → Bool) → all_below n test ≡ true → (b : ℕ) → b < n → test b ≡ true
below zero test h b l = absurd (omega arith)
below (suc n) test h b l = at-or-below n b test (and_left (test n) (all_below n test) h) (λ m. below n test (and_right (test n) (all_below n test) h) b m) (b == n) refl l

abbrev agrees : Within → ℕ → Bool
agrees x b = leads_to (next_within x b) (left_after b (alternatives x))

agrees-all : (x : Within) → all_below 256 (agrees x) ≡ true
agrees-all at.Between = refl
agrees-all at.Tail1 = refl
agrees-all at.Tail2 = refl
agrees-all at.Tail3 = refl
agrees-all at.AfterE0 = refl
agrees-all at.AfterEd = refl
agrees-all at.AfterF0 = refl
agrees-all at.AfterF4 = refl
agrees-all at.Escape = refl
agrees-all at.Unit = refl
agrees-all at.AfterD = refl
agrees-all at.Hex1 = refl
agrees-all at.Hex2 = refl
agrees-all at.Hex3 = refl
agrees-all at.High2 = refl
agrees-all at.High1 = refl
agrees-all at.AfterHigh = refl
agrees-all at.LowEscape = refl
agrees-all at.Low = refl
agrees-all at.LowAfterD = refl

-- what the next state says of the patterns that are left
abbrev pub Leads : Option Within → List Pattern → Type 0
Leads None ps = ps ≡ []
Leads (Some at.Between) ps = has_ended ps ≡ true
Leads (Some x) ps = (ps ≡ alternatives x) × (has_ended ps ≡ false)

leads-as : (o : Option Within) (ps : List Pattern) → leads_to o ps ≡ true → Leads o ps
leads-as None ps h = same-patterns ps [] h
leads-as (Some at.Between) ps h = h
leads-as (Some at.Tail1) ps h = let e = same-patterns ps (alternatives at.Tail1) (and_left (same_patterns ps (alternatives at.Tail1)) true h) in (e, ap has_ended e)
leads-as (Some at.Tail2) ps h = let e = same-patterns ps (alternatives at.Tail2) (and_left (same_patterns ps (alternatives at.Tail2)) true h) in (e, ap has_ended e)
leads-as (Some at.Tail3) ps h = let e = same-patterns ps (alternatives at.Tail3) (and_left (same_patterns ps (alternatives at.Tail3)) true h) in (e, ap has_ended e)
leads-as (Some at.AfterE0) ps h = let e = same-patterns ps (alternatives at.AfterE0) (and_left (same_patterns ps (alternatives at.AfterE0)) true h) in (e, ap has_ended e)
leads-as (Some at.AfterEd) ps h = let e = same-patterns ps (alternatives at.AfterEd) (and_left (same_patterns ps (alternatives at.AfterEd)) true h) in (e, ap has_ended e)
leads-as (Some at.AfterF0) ps h = let e = same-patterns ps (alternatives at.AfterF0) (and_left (same_patterns ps (alternatives at.AfterF0)) true h) in (e, ap has_ended e)
leads-as (Some at.AfterF4) ps h = let e = same-patterns ps (alternatives at.AfterF4) (and_left (same_patterns ps (alternatives at.AfterF4)) true h) in (e, ap has_ended e)
leads-as (Some at.Escape) ps h = let e = same-patterns ps (alternatives at.Escape) (and_left (same_patterns ps (alternatives at.Escape)) true h) in (e, ap has_ended e)
leads-as (Some at.Unit) ps h = let e = same-patterns ps (alternatives at.Unit) (and_left (same_patterns ps (alternatives at.Unit)) true h) in (e, ap has_ended e)
leads-as (Some at.AfterD) ps h = let e = same-patterns ps (alternatives at.AfterD) (and_left (same_patterns ps (alternatives at.AfterD)) true h) in (e, ap has_ended e)
leads-as (Some at.Hex1) ps h = let e = same-patterns ps (alternatives at.Hex1) (and_left (same_patterns ps (alternatives at.Hex1)) true h) in (e, ap has_ended e)
leads-as (Some at.Hex2) ps h = let e = same-patterns ps (alternatives at.Hex2) (and_left (same_patterns ps (alternatives at.Hex2)) true h) in (e, ap has_ended e)
leads-as (Some at.Hex3) ps h = let e = same-patterns ps (alternatives at.Hex3) (and_left (same_patterns ps (alternatives at.Hex3)) true h) in (e, ap has_ended e)
leads-as (Some at.High2) ps h = let e = same-patterns ps (alternatives at.High2) (and_left (same_patterns ps (alternatives at.High2)) true h) in (e, ap has_ended e)
leads-as (Some at.High1) ps h = let e = same-patterns ps (alternatives at.High1) (and_left (same_patterns ps (alternatives at.High1)) true h) in (e, ap has_ended e)
leads-as (Some at.AfterHigh) ps h = let e = same-patterns ps (alternatives at.AfterHigh) (and_left (same_patterns ps (alternatives at.AfterHigh)) true h) in (e, ap has_ended e)
leads-as (Some at.LowEscape) ps h = let e = same-patterns ps (alternatives at.LowEscape) (and_left (same_patterns ps (alternatives at.LowEscape)) true h) in (e, ap has_ended e)
leads-as (Some at.Low) ps h = let e = same-patterns ps (alternatives at.Low) (and_left (same_patterns ps (alternatives at.Low)) true h) in (e, ap has_ended e)
leads-as (Some at.LowAfterD) ps h = let e = same-patterns ps (alternatives at.LowAfterD) (and_left (same_patterns ps (alternatives at.LowAfterD)) true h) in (e, ap has_ended e)

pub within-leads : (x : Within) (b : ℕ) → b < 256 → Leads (next_within x b) (left_after b (alternatives x))
within-leads x b h = leads-as (next_within x b) (left_after b (alternatives x)) (below 256 (agrees x) (agrees-all x) b h)

-- ---- bytes that stand for themselves

pub unescaped-goes : (byte : ℕ) → is_unescaped byte ≡ true → next_within at.Between byte ≡ Some at.Between
unescaped-goes byte h = ap (λ (t : Bool). cond t (Some at.Between) (cond (byte == 0x5c) (Some at.Escape) (after_lead byte))) h

pub unescaped-is-no-mark : (byte : ℕ) → is_unescaped byte ≡ true → byte ≡ 0x22 → ⊥
unescaped-is-no-mark byte h e = let no : is_unescaped 0x22 ≡ true = subst (λ (b : ℕ). is_unescaped b ≡ true) e h in absurd (let same : false ≡ true = no in cc)
