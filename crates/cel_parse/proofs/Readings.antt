-- What the walk finds is what the reader of tokens reads.
use Rattle.std.proofs.Common.{◌≡◌, ℕ, ◌<◌, ◌≤◌, nat_le, nat_lt, true, false, cond, Bool, List, [], ◌∷◌, refl, sym, ◌∙◌, ap, arith, length, map, Option, Some, None, Result, Ok, Err, ◌⊎◌, inl, inr}
use Rattle.expr.specs.Tree.{Tree}
use Rattle.expr.specs.Tokens.{Placed, placed_tokens, tokens_of, token_of}
use Rattle.expr.specs.Reading.{State, want, Step, goes, refused, too_deep, step, end_in, deepest, longest, run, finish, read_tokens, tree_of_text}
use Rattle.cel_parse.specs.declared.fault.ParseFault.{ParseFault}
use Rattle.lists.specs.Starved.{OrStarved}
use Rattle.cel_parse.specs.declared.fault.ParseFault.TheVariants.{Memory, Syntax, TooLong}
use Rattle.cel_parse.specs.Faults.{walk, walk_on, walk_end, settle_fault, settle, parse_of, with_text, parse_text}
use Rattle.cel_parse.specs.Rules.{rules_in}
use Rattle.cel_parse.specs.Walked.{IsWhole}
use Rattle.cel_parse.specs.Grammar.{IsExpression}
use Rattle.cel_parse.proofs.TextLaws.{bool_cases, text-spelled, text-read}
use Rattle.cel_parse.proofs.Whole.{le-true, lt-false}

end-ok : (whole : ℕ) (o : Option Tree) (t : Tree) → walk_end whole o ≡ Ok t → o ≡ Some t
end-ok whole (Some u) t e = let same : u ≡ t = cc in ap (λ (v : Tree). Some v) same
end-ok whole None t e = absurd (cc)

on-ok : (whole : ℕ) (s : State) (p : Placed) (ps : List Placed) (t : Tree) (o : Step) → ((next : State) → walk whole next ps ≡ Ok t → finish (run deepest (goes next) (map token_of ps)) ≡ Some t)
    → walk_on whole s p o (λ next. walk whole next ps) ≡ Ok t → finish (run deepest o (map token_of ps)) ≡ Some t
on-ok whole s p ps t (goes next) ih e = ih next e
on-ok whole s p ps t refused ih e = absurd (cc)
on-ok whole s p ps t too_deep ih e = absurd (cc)

walk-ok : (whole : ℕ) (ps : List Placed) (s : State) (t : Tree) → walk whole s ps ≡ Ok t → finish (run deepest (goes s) (map token_of ps)) ≡ Some t
walk-ok whole [] s t e = end-ok whole (end_in s) t e
walk-ok whole (p ∷ ps) s t e = on-ok whole s p ps t (step deepest s p.token) (λ next. walk-ok whole ps next t) e

pub walked-tree : (text : List ℕ) (t : Tree) → length text ≤ longest → walk (length text) (want []) (placed_tokens text) ≡ Ok t → tree_of_text text ≡ Some t
unfolding tree_of_text tokens_of read_tokens
walked-tree text t l e = rw (le-true (length text) longest l) (walk-ok (length text) (placed_tokens text) (want []) t e)

-- ---- the whole answer

pub long-text : (text : List ℕ) → longest < length text → parse_text text ≡ Err TooLong
unfolding parse_of
long-text text l = rw (lt-false (length text) longest l) refl

short-text : (text : List ℕ) (r : Result Tree ParseFault) → length text ≤ longest → walk (length text) (want []) (placed_tokens text) ≡ r
    → parse_text text ≡ with_text text (settle r (rules_in (placed_tokens text)))
unfolding parse_of
short-text text r l e = rw (le-true (length text) longest l) (ap (λ (x : Result Tree ParseFault). with_text text (settle x (rules_in (placed_tokens text)))) e)

pub whole-answers : (text : List ℕ) (t : Tree) (r : Result (List ℕ) ParseFault) → length text ≤ longest → walk (length text) (want []) (placed_tokens text) ≡ Ok t → IsWhole text r → OrStarved Memory (parse_text text) r
whole-answers text t (Ok v) l e h = short-text text (Ok t) l e ∙ ap Ok (sym h)
whole-answers text t (Err f) l e h = inr h

memory-settles : (rule : Option ℕ) → settle_fault Memory rule ≡ Memory
memory-settles None = refl
memory-settles (Some place) = let e : nat_lt place 0 ≡ false = grind arith in ap (λ (b : Bool). cond b (Syntax place) Memory) e

-- want of memory at first stays the answer
pub fault-answers : (text : List ℕ) (first last : ParseFault) → length text ≤ longest → (walk (length text) (want []) (placed_tokens text) ≡ Err first) ⊎ (first ≡ Memory)
    → (settle_fault first (rules_in (placed_tokens text)) ≡ last) ⊎ (last ≡ Memory) → OrStarved {A = List ℕ} Memory (parse_text text) (Err last)
fault-answers text first last l (inl e) (inl h) = inl (short-text text (Err first) l e ∙ ap Err h)
fault-answers text first last l (inr e) (inl h) = inr (sym h ∙ ap (λ (f : ParseFault). settle_fault f (rules_in (placed_tokens text))) e ∙ memory-settles (rules_in (placed_tokens text)))
fault-answers text first last l e (inr h) = inr h

-- ---- what is parsed is what the grammar has a tree of

refused-none : (ps : List Placed) → finish (run deepest refused (map token_of ps)) ≡ None
refused-none [] = refl
refused-none (p ∷ ps) = refl

deep-none : (ps : List Placed) → finish (run deepest too_deep (map token_of ps)) ≡ None
deep-none [] = refl
deep-none (p ∷ ps) = refl

end-err : (whole : ℕ) (o : Option Tree) (f : ParseFault) → walk_end whole o ≡ Err f → o ≡ None
end-err whole (Some u) f e = absurd (cc)
end-err whole None f e = refl

on-err : (whole : ℕ) (s : State) (p : Placed) (ps : List Placed) (f : ParseFault) (o : Step) → ((next : State) → walk whole next ps ≡ Err f → finish (run deepest (goes next) (map token_of ps)) ≡ None)
    → walk_on whole s p o (λ next. walk whole next ps) ≡ Err f → finish (run deepest o (map token_of ps)) ≡ None
on-err whole s p ps f (goes next) ih e = ih next e
on-err whole s p ps f refused ih e = refused-none ps
on-err whole s p ps f too_deep ih e = deep-none ps

walk-err : (whole : ℕ) (ps : List Placed) (s : State) (f : ParseFault) → walk whole s ps ≡ Err f → finish (run deepest (goes s) (map token_of ps)) ≡ None
walk-err whole [] s f e = end-err whole (end_in s) f e
walk-err whole (p ∷ ps) s f e = on-err whole s p ps f (step deepest s p.token) (λ next. walk-err whole ps next f) e

walked-none : (text : List ℕ) (f : ParseFault) → length text ≤ longest → walk (length text) (want []) (placed_tokens text) ≡ Err f → tree_of_text text ≡ None
unfolding tree_of_text tokens_of read_tokens
walked-none text f l e = rw (le-true (length text) longest l) (walk-err (length text) (placed_tokens text) (want []) f e)

read-parses : (text : List ℕ) (t : Tree) → length text ≤ longest → tree_of_text text ≡ Some t → (r : Result Tree ParseFault) → walk (length text) (want []) (placed_tokens text) ≡ r → parse_text text ≡ Ok text
read-parses text t l e (Ok u) k = short-text text (Ok u) l k
read-parses text t l e (Err f) k = absurd (let no : None ≡ Some t = sym (walked-none text f l k) ∙ e in cc)

pub spelled-parses : (text : List ℕ) (t : Tree) → IsExpression text t → parse_text text ≡ Ok text
spelled-parses text t e = read-parses text t e.short (text-spelled text t e) (walk (length text) (want []) (placed_tokens text)) refl

le-cases : (a b : ℕ) → (a ≤ b) ⊎ (b < a)
le-cases a b = elim (bool_cases (nat_le a b)) [ inl is ↦ inl (grind (arith, is)) | inr isn't ↦ inr (grind (arith, isn't)) ]

err-ok : (f : ParseFault) (v : List ℕ) (r : Result (List ℕ) ParseFault) → r ≡ Err f → r ≡ Ok v → ⊥
err-ok f v (Ok w) e k = absurd (cc)
err-ok f v (Err g) e k = absurd (cc)

no-text : (text : List ℕ) (f : ParseFault) (T : Type 0) → parse_text text ≡ Err f → parse_text text ≡ Ok text → T
no-text text f T e k = absurd (err-ok f text (parse_text text) e k)

parses-read : (text : List ℕ) → length text ≤ longest → parse_text text ≡ Ok text → (r : Result Tree ParseFault) → walk (length text) (want []) (placed_tokens text) ≡ r → (t : Tree) × IsExpression text t
parses-read text l e (Ok u) k = (u, text-read text u (walked-tree text u l k))
parses-read text l e (Err f) k = no-text text _ _ (short-text text (Err f) l k) e

pub parsed-spelled : (text : List ℕ) → parse_text text ≡ Ok text → (t : Tree) × IsExpression text t
parsed-spelled text e = elim (le-cases (length text) longest) [
  | inl l ↦ parses-read text l e (walk (length text) (want []) (placed_tokens text)) refl
  | inr l ↦ no-text text TooLong _ (long-text text l) e
]
