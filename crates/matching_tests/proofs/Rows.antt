-- Entries of the examples: no bucket hides what is met.
use Rattle.std.proofs.Common.{◌≡◌, ℕ, Bool, true, false, not, List, Some, codes, refl, sym, ap, subst, ◌∙◌}
use Rattle.std.specs.Prelude.{decimal}
use Rattle.std.specs.Str.{bytes_eq}
use Rattle.lists.proofs.Elements.{all-weaker}
use Rattle.lists.proofs.Texts.{bytes_same}
use Rattle.expr.specs.Reading.{tree_of_text, read_tokens, atom_of}
use Rattle.expr.specs.Tokens.{tokens_of, placed_tokens}
use Rattle.expr.specs.Trees.{tree_of, tree_step}
use Rattle.expr.specs.Tree.{Tree, null}
use Rattle.expr.specs.declared.term.Term.TheVariants.{Null, rolls-Null}
use Rattle.expr.specs.declared.term.Term.TheFolds.{fold-Term, fold-roll-Term}
use Rattle.expr.specs.declared.term.Term.TheOpen.{Term-F}
use Rattle.kinds.specs.declared.event.Event.{Event}
use Rattle.kinds.specs.Stores.{Condition, AreBucketsRight, is_hidden}
use Rattle.matching_tests.specs.Rows.{is_own, given, OnOwn, AreOnOwn}

pub right_of : {X : Type 0} (condition : X → Condition) (value : List ℕ) (number : ℕ) (event : Event) (es : List X) → value ≡ decimal number → event.number ≡ number
    → AreOnOwn condition es → AreBucketsRight condition is_own (given value) event es
right_of condition value number event es v n h =
    all-weaker (λ e. OnOwn (condition e)) (λ e. is_hidden is_own (given value) event (condition e) ≡ false) es
    (λ e own. subst (λ x. is_hidden is_own (given x) event (condition e) ≡ false) (ap decimal n ∙ sym v) (own event)) h

-- the examples' condition
null_tree : tree_of Null ≡ null
null_tree = ap (fold-Term Tree tree_step) (sym rolls-Null) ∙ fold-roll-Term Tree tree_step Term-F.Null

pub null_read : (text : List ℕ) → text ≡ codes "null" → tree_of_text text ≡ Some (tree_of Null)
unfolding tree_of_text read_tokens atom_of tokens_of placed_tokens
null_read text e = subst (λ t. tree_of_text t ≡ Some (tree_of Null)) (sym e) (sym (ap Some null_tree))

pub equal : (a b : List ℕ) → false ≡ not (bytes_eq a b) → a ≡ b
equal a b h = by_test (bytes_eq a b) refl h
  where
    by_test : (t : Bool) → bytes_eq a b ≡ t → false ≡ not t → a ≡ b
    by_test true e k = bytes_same a b e
    by_test false e k = cc
