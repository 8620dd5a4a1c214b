-- In a loop over the items of a list or the members of an object, what is yielded is a node of the tree. A
-- function with such a loop names these lemmas in its tactic's `using`.
use Rattle.std.proofs.Common.{◌≡◌, ℕ, List, [], ◌∷◌, subst, sym}
use Rattle.std.specs.List.{AllByRecursion}
use Rattle.std.specs.Iterator.{Yields, YieldsFirst}
use Rattle.json_text.specs.Nodes.{AreNodesOf, Document, IsNodeOf}

-- what holds of all that an iterator has left holds of all that it has left after some items
module _ {A : Type 0} (P : A → Type 0) where
  left : (xs s t : List A) → AllByRecursion P s → Yields (YieldsFirst {S = List A} (λ i. i)) s xs t → AllByRecursion P t
  left [] s t h y = subst (AllByRecursion P) y h
  left (x ∷ xs) s t h y = left xs y.0 t (subst (AllByRecursion P) y.1 h).1 y.2

  next : (r s xs t u : List A) (x : A) → AllByRecursion P r → s ≡ r → Yields (YieldsFirst {S = List A} (λ i. i)) s xs t → t ≡ x ∷ u → P x
  next r s xs t u x h e y n = (subst (AllByRecursion P) n (left xs s t (subst (AllByRecursion P) (sym e) h) y)).0

-- the items are r, the loop began with s, and xs were yielded
pub node_in_loop : (d : Document) (r s xs t u : List ℕ) (x : ℕ) → AllByRecursion (IsNodeOf d) r → s ≡ r
    → Yields (YieldsFirst {S = List ℕ} (λ i. i)) s xs t → t ≡ x ∷ u → IsNodeOf d x
node_in_loop d r s xs t u x h e y n = next (IsNodeOf d) r s xs t u x h e y n

pub name_in_loop : (d : Document) (r s xs t u : List (ℕ × ℕ)) (x y : ℕ) → AllByRecursion (AreNodesOf d) r → s ≡ r
    → Yields (YieldsFirst {S = List (ℕ × ℕ)} (λ i. i)) s xs t → t ≡ (x, y) ∷ u → IsNodeOf d x
name_in_loop d r s xs t u x y h e yielded n = (next (AreNodesOf d) r s xs t u (x, y) h e yielded n).0

pub value_in_loop : (d : Document) (r s xs t u : List (ℕ × ℕ)) (x y : ℕ) → AllByRecursion (AreNodesOf d) r → s ≡ r
    → Yields (YieldsFirst {S = List (ℕ × ℕ)} (λ i. i)) s xs t → t ≡ (x, y) ∷ u → IsNodeOf d y
value_in_loop d r s xs t u x y h e yielded n = (next (AreNodesOf d) r s xs t u (x, y) h e yielded n).1
