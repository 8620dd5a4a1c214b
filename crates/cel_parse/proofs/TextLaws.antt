-- The grammar and the reader, over texts.
use Rattle.std.proofs.Common.{◌≡◌, ℕ, ◌≤◌, List, length, true, false, ◌⊎◌, inl, inr, nat_le, refl, sym, ◌∙◌, arith, Option, Some, None, cond, Bool, ap}
use Rattle.expr.specs.Tree.{Tree}
use Rattle.expr.specs.Tokens.{tokens_of}
use Rattle.expr.specs.Reading.{read_tokens, tree_of_text, deepest, longest}
use Rattle.cel_parse.specs.Grammar.{IsTree, IsExpression}
use Rattle.cel_parse.proofs.Plain.{all-plain}
use Rattle.cel_parse.proofs.Sound.{read-is-spelled}
use Rattle.cel_parse.proofs.Whole.{spelled-is-read, le-true}

pub bool_cases : (b : Bool) → (b ≡ true) ⊎ (b ≡ false)
bool_cases true = inl refl
bool_cases false = inr refl

pub text-spelled : (w : List ℕ) (t : Tree) → IsExpression w t → tree_of_text w ≡ Some t
unfolding tree_of_text
text-spelled w t e = rw (le-true (length w) longest e.short) (spelled-is-read deepest (tokens_of w) t e.tree)

some-same : (t u : Tree) → Some t ≡ Some u → t ≡ u
some-same t u e = cc

pub same-tree : (w : List ℕ) (t u : Tree) → IsExpression w t → IsExpression w u → t ≡ u
same-tree w t u a b = some-same t u (sym (text-spelled w t a) ∙ text-spelled w u b)

short-of : (n : ℕ) (o : Option Tree) (t : Tree) → cond (nat_le n longest) o None ≡ Some t → (n ≤ longest) × (o ≡ Some t)
short-of n o t e = elim (bool_cases (nat_le n longest)) [
  | inl is ↦ (grind (arith, is), sym (ap (λ (b : Bool). cond b o None) is) ∙ e)
  | inr isn't ↦ absurd (let no : None ≡ Some t = sym (ap (λ (b : Bool). cond b o None) isn't) ∙ e in cc)
]

pub text-read : (w : List ℕ) (t : Tree) → tree_of_text w ≡ Some t → IsExpression w t
unfolding tree_of_text
text-read w t e = let parts = short-of (length w) (read_tokens deepest (tokens_of w)) t e in record { short = parts.0; tree = read-is-spelled deepest (tokens_of w) t (all-plain w) parts.1 }
