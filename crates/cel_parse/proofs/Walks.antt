-- The reader behind the first tokens of a text, and what its end or its refusal says.
use Rattle.std.proofs.Common.{◌≡◌, ℕ, suc, zero, ◌+◌, ◌≤◌, ◌<◌, List, [], ◌∷◌, refl, sym, ◌∙◌, ap, subst, arith, length, Option, Some, None, Result, Ok, Err, ◌⊎◌, inl, inr, MatchOption}
use Rattle.expr.specs.Tree.{Tree}
use Rattle.expr.specs.Trees.{tree_of}
use Rattle.expr.specs.Tokens.{Placed as PlacedToken, placed_from, placed_at, placed_tokens, behind_spaces}
use Rattle.expr.specs.Reading.{Frame, State, want, Step, goes, refused, too_deep, step, end_in, deepest}
use Rattle.cel_parse.specs.declared.token.Placed.{Placed}
use Rattle.cel_parse.specs.declared.fault.ParseFault.{ParseFault}
use Rattle.cel_parse.specs.declared.fault.ParseFault.TheVariants.{Syntax, TooDeep}
use Rattle.cel_parse.specs.Tokens.{token_of, placed_of, IsNext}
use Rattle.cel_parse.specs.Faults.{walk, walk_on, walk_end, refused_place}

-- what is left gives what the whole gives
abbrev pub WalksOn : ℕ → List ℕ → State → List ℕ → Type 0
WalksOn whole text s rest = (most : ℕ) × (length rest ≤ most) × (walk whole s (placed_from whole most rest) ≡ walk (length text) (want []) (placed_tokens text))

begins : (text : List ℕ) → WalksOn (length text) text (want []) text
unfolding placed_tokens
begins text = (length text, omega arith, refl)

pub walks-begin : (text rest : List ℕ) (whole : ℕ) (fs : List Frame) → whole ≡ length text → rest ≡ text → fs ≡ [] → (whole ≡ length text) × WalksOn whole text (want fs) rest
walks-begin text rest whole fs e f g = (
  e,
  subst (λ (n : ℕ). WalksOn n text (want fs) rest) (sym e) (subst (λ (v : List ℕ). WalksOn (length text) text (want fs) v) (sym f)
      (subst (λ (gs : List Frame). WalksOn (length text) text (want gs) text) (sym g) (begins text))),
)

pub one-less : (most : ℕ) (rest next : List ℕ) → length rest ≤ most → length next + 1 ≤ length rest → (m : ℕ) × (most ≡ suc m) × (length next ≤ m)
one-less zero rest next l k = absurd (omega (arith, l, k))
one-less (suc m) rest next l k = (m, refl, omega (arith, l, k))

unrolls : (whole most : ℕ) (s : State) (rest next : List ℕ) (p : Placed) → IsNext whole rest p next → (m : ℕ) → most ≡ suc m
    → walk whole s (placed_from whole most rest) ≡ walk_on whole s (placed_of p) (step deepest s (token_of p.token)) (λ t. walk whole t (placed_from whole m next))
unrolls whole most s rest next p i m e = ap (λ (n : ℕ). walk whole s (placed_from whole n rest)) e ∙ ap (walk whole s) (i.first (placed_from whole m))

walks-on : (whole : ℕ) (text : List ℕ) (s t : State) (rest next : List ℕ) (p : Placed) → WalksOn whole text s rest → IsNext whole rest p next → step deepest s (token_of p.token) ≡ goes t → WalksOn whole text t next
walks-on whole text s t rest next p w i e = let less = one-less w.0 rest next w.1 i.shorter in
    (less.0, less.2, sym (unrolls whole w.0 s rest next p i less.0 less.1 ∙ ap (λ (o : Step). walk_on whole s (placed_of p) o (λ t. walk whole t (placed_from whole less.0 next))) e) ∙ w.2)

-- what the cutter gave: the next token, or none
abbrev pub Gives : ℕ → List ℕ → List ℕ → Option Placed → Type 0
Gives whole rest next o = MatchOption o ((on : List ℕ → List PlacedToken) → placed_at whole (behind_spaces rest) on ≡ []) (λ p. IsNext whole rest p next)

pub given : (whole : ℕ) (rest next : List ℕ) (o : Option Placed) (p : Placed) → o ≡ Some p → Gives whole rest next o → IsNext whole rest p next
given whole rest next o p e h = subst (Gives whole rest next) e h

pub walks-keep : (whole new : ℕ) (text : List ℕ) (s t : State) (rest next : List ℕ) (p : Placed) (o : Option Placed) → new ≡ whole → whole ≡ length text → WalksOn whole text s rest
    → o ≡ Some p → Gives whole rest next o → step deepest s (token_of p.token) ≡ goes t → (new ≡ length text) × WalksOn new text t next
walks-keep whole new text s t rest next p o e f w k i h = (e ∙ f, subst (λ (n : ℕ). WalksOn n text t next) (sym e) (walks-on whole text s t rest next p w (given whole rest next o p k i) h))

pub stops-at : (whole : ℕ) (text : List ℕ) (s : State) (rest next : List ℕ) (p : Placed) → WalksOn whole text s rest → IsNext whole rest p next → step deepest s (token_of p.token) ≡ refused
    → walk (length text) (want []) (placed_tokens text) ≡ Err (Syntax (refused_place whole s (placed_of p)))
stops-at whole text s rest next p w i e = let less = one-less w.0 rest next w.1 i.shorter in
    sym w.2 ∙ unrolls whole w.0 s rest next p i less.0 less.1 ∙ ap (λ (o : Step). walk_on whole s (placed_of p) o (λ t. walk whole t (placed_from whole less.0 next))) e

pub deep-at : (whole : ℕ) (text : List ℕ) (s : State) (rest next : List ℕ) (p : Placed) → WalksOn whole text s rest → IsNext whole rest p next → step deepest s (token_of p.token) ≡ too_deep
    → walk (length text) (want []) (placed_tokens text) ≡ Err (TooDeep p.start)
deep-at whole text s rest next p w i e = let less = one-less w.0 rest next w.1 i.shorter in
    sym w.2 ∙ unrolls whole w.0 s rest next p i less.0 less.1 ∙ ap (λ (o : Step). walk_on whole s (placed_of p) o (λ t. walk whole t (placed_from whole less.0 next))) e

ends-from : (whole most : ℕ) (s : State) (rest : List ℕ) → ((on : List ℕ → List PlacedToken) → placed_at whole (behind_spaces rest) on ≡ []) → walk whole s (placed_from whole most rest) ≡ walk_end whole (end_in s)
ends-from whole zero s rest h = refl
ends-from whole (suc most) s rest h = ap (walk whole s) (h (placed_from whole most))

pub ends : (whole : ℕ) (text : List ℕ) (s : State) (rest : List ℕ) → WalksOn whole text s rest → ((on : List ℕ → List PlacedToken) → placed_at whole (behind_spaces rest) on ≡ [])
    → walk (length text) (want []) (placed_tokens text) ≡ walk_end whole (end_in s)
ends whole text s rest w h = sym w.2 ∙ ends-from whole w.0 s rest h
