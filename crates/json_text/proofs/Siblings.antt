-- The items of a list, and the members of an object, are found one behind another.
use Rattle.std.proofs.Common.{◌≡◌, ℕ, zero, suc, ◌+◌, ◌<◌, List, [], ◌∷◌, refl, sym, ◌∙◌, ap, subst, ◌⊎◌, inl, inr, arith, length, length-drop, map, drop, ◌/◌}
use Rattle.std.specs.List.{AllByRecursion}
use Rattle.std.proofs.lemmas.List.{drop_all}
use Rattle.json_text.specs.Grammar.{Json, null, boolean, number, text, array, object}
use Rattle.json_text.specs.Nodes.{AreNodesOf, Document, IsNodeOf, behind, items_of, kind_of, list_of, members_of, nodes, pairs, parts_of, sibling_pairs, siblings, value_at, values_at}
use Rattle.json_text.specs.declared.kind.Kind.TheVariants as kind
use Rattle.json_text.proofs.Named.{at-head, member-here}
use Rattle.json_text.proofs.Walking.{IsPartAt, first-part, part-here}

-- the nodes from this one on are those of the parts that are left
pub record AreParts (root : Document) (ps : List Json) (ns : List ℕ) : Type 0 where
  pub there : AllByRecursion (IsNodeOf root) ns
  pub are : map (value_at root) ns ≡ ps

rest-are : (root : Document) (ps : List Json) (index i count : ℕ) → IsPartAt root ps index i → i + count ≡ length ps → AreParts root (drop i ps) (siblings root index count)
rest-are root ps index i zero h e = record { there = tt; are = sym (drop_all i ps (omega (arith, e))) }
rest-are root ps index i (suc count) h e =
    let within : i < length ps = omega (arith, e) in
    let here = part-here root ps index i h within in
    let rest = rest-are root ps (index + length (nodes (value_at root index))) (i + 1) count here.on (omega (arith, e)) in
    record {
      there = (here.within, rest.there);
      are = ap (λ (js : List Json). value_at root index ∷ js) rest.are ∙ sym (at-head ps i (value_at root index) within here.is);
    }

list-or-none : (j : Json) → (items_of j ≡ parts_of j) ⊎ (items_of j ≡ [])
list-or-none null = inr refl
list-or-none (boolean b) = inr refl
list-or-none (number w) = inr refl
list-or-none (text w) = inr refl
list-or-none (array w js) = inl refl
list-or-none (object w js) = inr refl

none-are : (root : Document) (index count : ℕ) → count ≡ 0 → AreParts root [] (siblings root index count)
none-are root index zero e = record { there = tt; are = refl }
none-are root index (suc count) e = absurd (omega (arith, e))

-- the items of the value at a node
items-are : (root : Document) (n count : ℕ) → IsNodeOf root n → count ≡ length (items_of (value_at root n)) → AreParts root (items_of (value_at root n)) (siblings root (n + 1) count)
items-are root n count h e = by_kind (list-or-none (value_at root n))
  where
    by_kind : (items_of (value_at root n) ≡ parts_of (value_at root n)) ⊎ (items_of (value_at root n) ≡ []) → AreParts root (items_of (value_at root n)) (siblings root (n + 1) count)
    by_kind (inl same) =
        subst (λ (js : List Json). AreParts root js (siblings root (n + 1) count)) (sym same)
        (rest-are root (parts_of (value_at root n)) (n + 1) 0 count (first-part root n h) (omega (arith, e, ap length same)))
    by_kind (inr none) =
        subst (λ (js : List Json). AreParts root js (siblings root (n + 1) count)) (sym none)
        (none-are root (n + 1) count (e ∙ ap length none))

-- the same from the number that the code has of the node
pub items-from : (root : Document) (n m count : ℕ) → m ≡ n → IsNodeOf root n → count ≡ length (items_of (value_at root n)) → AreParts root (items_of (value_at root n)) (siblings root (m + 1) count)
items-from root n m count same h e = subst (λ (k : ℕ). AreParts root (items_of (value_at root n)) (siblings root (k + 1) count)) (sym same) (items-are root n count h e)

-- ---- members

pub pairs-length : (js : List Json) → length (pairs js) ≡ length js / 2
pairs-length [] = refl
pairs-length (k ∷ []) = refl
pairs-length (k ∷ v ∷ js) = let e = pairs-length js in omega (arith, e)

-- the nodes from this one on are those of the members that are left
pub record ArePairs (root : Document) (ps : List (Json × Json)) (ms : List (ℕ × ℕ)) : Type 0 where
  pub there : AllByRecursion (AreNodesOf root) ms
  pub are : map (values_at root) ms ≡ ps

no-pairs : (ps : List (Json × Json)) → length ps ≡ 0 → ps ≡ []
no-pairs [] e = refl
no-pairs (p ∷ ps) e = absurd (omega (arith, e))

rest-pairs : (root : Document) (ps : List Json) (index i count : ℕ) → IsPartAt root ps index i → count ≡ length (pairs (drop i ps)) → ArePairs root (pairs (drop i ps)) (sibling_pairs root index count)
rest-pairs root ps index i zero h e = record { there = tt; are = sym (no-pairs (pairs (drop i ps)) (sym e)) }
rest-pairs root ps index i (suc count) h e =
    let two : i + 1 < length ps = omega (arith, e, pairs-length (drop i ps), length-drop i ps) in
    let m = member-here root ps index i h two in
    let all : pairs (drop i ps) ≡ (value_at root index, value_at root (behind root index)) ∷ pairs (drop (i + 2) ps) = ap pairs m.both in
    let rest = rest-pairs root ps (behind root (behind root index)) (i + 2) count m.on (omega (arith, e, ap length all)) in
    record {
      there = ((m.name_there, m.value_there), rest.there);
      are = ap (λ (js : List (Json × Json)). (value_at root index, value_at root (behind root index)) ∷ js) rest.are ∙ sym all;
    }

object-or-none : (j : Json) → (members_of j ≡ pairs (parts_of j)) ⊎ (members_of j ≡ [])
object-or-none null = inr refl
object-or-none (boolean b) = inr refl
object-or-none (number w) = inr refl
object-or-none (text w) = inr refl
object-or-none (array w js) = inr refl
object-or-none (object w js) = inl refl

none-pairs : (root : Document) (index count : ℕ) → count ≡ 0 → ArePairs root [] (sibling_pairs root index count)
none-pairs root index zero e = record { there = tt; are = refl }
none-pairs root index (suc count) e = absurd (omega (arith, e))

members-are : (root : Document) (n count : ℕ) → IsNodeOf root n → count ≡ length (members_of (value_at root n)) → ArePairs root (members_of (value_at root n)) (sibling_pairs root (n + 1) count)
members-are root n count h e = by_kind (object-or-none (value_at root n))
  where
    by_kind : (members_of (value_at root n) ≡ pairs (parts_of (value_at root n))) ⊎ (members_of (value_at root n) ≡ []) → ArePairs root (members_of (value_at root n)) (sibling_pairs root (n + 1) count)
    by_kind (inl same) =
        subst (λ (js : List (Json × Json)). ArePairs root js (sibling_pairs root (n + 1) count)) (sym same)
        (rest-pairs root (parts_of (value_at root n)) (n + 1) 0 count (first-part root n h) (e ∙ ap length same))
    by_kind (inr none) =
        subst (λ (js : List (Json × Json)). ArePairs root js (sibling_pairs root (n + 1) count)) (sym none)
        (none-pairs root (n + 1) count (e ∙ ap length none))

-- the same from the number that the code has of the node
pub members-from : (root : Document) (n m count : ℕ) → m ≡ n → IsNodeOf root n → count ≡ length (members_of (value_at root n)) → ArePairs root (members_of (value_at root n)) (sibling_pairs root (m + 1) count)
members-from root n m count same h e = subst (λ (k : ℕ). ArePairs root (members_of (value_at root n)) (sibling_pairs root (k + 1) count)) (sym same) (members-are root n count h e)

pub object-members : (j : Json) → kind_of j ≡ kind.Object → length (parts_of j) / 2 ≡ length (members_of j)
object-members null e = absurd (cc)
object-members (boolean b) e = absurd (cc)
object-members (number w) e = absurd (cc)
object-members (text w) e = absurd (cc)
object-members (array w js) e = absurd (cc)
object-members (object w js) e = sym (pairs-length (list_of js))
