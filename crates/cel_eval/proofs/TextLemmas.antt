-- What the tree of a text is worth is what the text is worth.
use Rattle.std.proofs.Common.{◌≡◌, ◌⊎◌, inl, inr, List, ℕ, Some, Ok, Err, sym, ap, ◌∙◌}
use Rattle.std.specs.Prelude.{Result, Option, MatchResult}
use Rattle.lists.specs.Starved.{OrStarved}
use Rattle.expr.specs.Reading.{tree_of_text}
use Rattle.expr.specs.Tree.{Tree}
use Rattle.cel_eval.specs.Data.{Datum, Events, Outcome, seen, seen_outcome}
use Rattle.cel_eval.specs.Table.{worth, worth_if, worth_of, value_of}
use Rattle.cel_eval.specs.declared.fault.EvalFault.{EvalFault}
use Rattle.cel_eval.specs.declared.fault.EvalFault.TheVariants as fault
use Rattle.cel_eval.specs.declared.value.Value.{Value}

of_tree : (w : List ℕ) (t : Tree) (events : Events) → tree_of_text w ≡ Some t → worth_of w events ≡ worth t events
unfolding worth_of
of_tree w t events h = ap (λ (o : Option Tree). worth_if o events) h

pub faulty : (w : List ℕ) (t : Tree) (events : Events) (e : EvalFault) → tree_of_text w ≡ Some t → (worth t events ≡ Err e) ⊎ (e ≡ fault.Memory) → (value_of w events ≡ Err e) ⊎ (e ≡ fault.Memory)
faulty w t events e h (inl exact) = inl (ap seen_outcome (of_tree w t events h ∙ exact))
faulty w t events e h (inr memory) = inr memory

pub valued : (w : List ℕ) (t : Tree) (events : Events) (d : Datum) (r : Result Value EvalFault) → tree_of_text w ≡ Some t → worth t events ≡ Ok d → MatchResult r (λ v. v ≡ seen d) (λ e. e ≡ fault.Memory) → OrStarved fault.Memory (value_of w events) r
valued w t events d (Ok v) h exact same = ap seen_outcome (of_tree w t events h ∙ exact) ∙ ap (λ (x : Value). Ok x) (sym same)
valued w t events d (Err e) h exact memory = inr memory
