-- The text that a value has in common with its equals, as it is written.
use Rattle.std.proofs.Common.{◌≡◌, ℕ, ◌<◌, Bool, true, false, List, [], ◌∷◌, ◌++◌, refl, sym, ◌∙◌, ap, subst, append_assoc, append-nil, arith, length, length-append, map, Option, Some, None, Result, Ok, Err}
use Rattle.std.specs.Prelude.{IfOk, option_map}
use Rattle.std.specs.List.{AllByRecursion}
use Rattle.std.specs.Cmp.Lexicographic.{slice_cmp}
use Rattle.std.specs.Ordering.{nat_cmp, match_ordering}
use Rattle.std.specs.declared.cmp.Ordering.{Ordering}
use Rattle.std.specs.declared.cmp.Ordering.TheVariants as order
use Rattle.std.specs.BTreeMap.{insert_entry}
use Rattle.json_text.specs.Canonical.{IsInside, Writes, as_list, as_object, named, seen}
use Rattle.json_text.specs.Grammar.{Json, null, boolean, number, text, array, object, Parts, no_parts, part, spelling}
use Rattle.json_text.specs.Nodes.{AreNodesOf, Document, IsNodeOf, items_of, kind_of, list_of, members_of, nodes, nodes_of, pairs, value_at, values_at}
use Rattle.json_text.specs.Same.{Field, bracketed, by_name, canonical, field_text, fields, item_texts, list_text, listed, number_text}
use Rattle.json_text.specs.Text.{quoted, text_of}
use Rattle.json_text.specs.declared.kind.Kind.{Kind}
use Rattle.json_text.specs.declared.kind.Kind.TheVariants as kind
use Rattle.text_num.specs.Units.{units_of}

-- ---- by kind

abbrev pub of_kind : Kind → Json → Option (List ℕ)
of_kind kind.Null j = Some (spelling j)
of_kind kind.Bool j = Some (spelling j)
of_kind kind.Number j = number_text (units_of (spelling j))
of_kind kind.Text j = Some (quoted (text_of j))
of_kind kind.List j = as_list (items_of j)
of_kind kind.Object j = as_object (members_of j)

item-texts : (js : Parts) → item_texts js ≡ map canonical (list_of js)
item-texts no_parts = refl
item-texts (part j js) = ap (λ (os : List (Option (List ℕ))). canonical j ∷ os) (item-texts js)

fields-named : (js : Parts) → fields js ≡ named (pairs (list_of js))
fields-named no_parts = refl
fields-named (part k no_parts) = refl
fields-named (part k (part v js)) = ap (λ (ms : List Field). (text_of k, canonical v) ∷ ms) (fields-named js)

by-kind : (j : Json) → canonical j ≡ of_kind (kind_of j) j
by-kind null = refl
by-kind (boolean true) = refl
by-kind (boolean false) = refl
by-kind (number w) = refl
by-kind (text w) = refl
by-kind (array w js) = ap (λ (os : List (Option (List ℕ))). bracketed 0x5b 0x5d (list_text os)) (item-texts js)
by-kind (object w js) = ap (λ (ms : List Field). bracketed 0x7b 0x7d (list_text (map field_text (by_name [] ms)))) (fields-named js)

-- what was written of a value's kind was written of the value
pub of-value : (j : Json) (k : Kind) (known : Bool) (old new : List ℕ) → kind_of j ≡ k → Writes known old (of_kind k j) new → Writes known old (canonical j) new
of-value j k known old new e h = subst (λ (o : Option (List ℕ)). Writes known old o new) (sym (by-kind j ∙ ap (λ (x : Kind). of_kind x j) e)) h

pub of-value-ok : {E : Type 0} (j : Json) (k : Kind) (result : Result Bool E) (old new : List ℕ) → kind_of j ≡ k → IfOk result (λ known. Writes known old (of_kind k j) new) → IfOk result (λ known. Writes known old (canonical j) new)
of-value-ok j k (Ok known) old new e h = of-value j k known old new e h
of-value-ok j k (Err f) old new e h = tt

-- ---- one text behind another

-- of all the texts, those before these are written behind the start
pub record Listing (all left : List (Option (List ℕ))) (start now : List ℕ) : Type 0 where
  pub so_far : List ℕ
  pub written : now ≡ start ++ so_far
  pub rest : list_text all ≡ option_map (λ v. so_far ++ v) (list_text left)

same-map : (o : Option (List ℕ)) → o ≡ option_map (λ (v : List ℕ). v) o
same-map None = refl
same-map (Some v) = refl

pub listing-start : (all left : List (Option (List ℕ))) (start now : List ℕ) → left ≡ all → now ≡ start → Listing all left start now
listing-start all left start now s e = record { so_far = []; written = e ∙ sym (append-nil start); rest = ap list_text (sym s) ∙ same-map (list_text left) }

grown : (v w : List ℕ) (o : Option (List ℕ)) → option_map (λ x. v ++ x) (option_map (λ x. w ++ 0x2c ∷ x) o) ≡ option_map (λ x. v ++ (w ++ 0x2c ∷ []) ++ x) o
grown v w None = refl
grown v w (Some x) = ap (λ (y : List ℕ). Some y) (ap (λ (y : List ℕ). v ++ y) (sym (append_assoc w (0x2c ∷ []) x)) ∙ sym (append_assoc v (w ++ 0x2c ∷ []) x))

pub listing-more : (all left : List (Option (List ℕ))) (o : Option (List ℕ)) (start now mid new : List ℕ) → Listing all (o ∷ left) start now → Writes true now o mid → new ≡ mid ++ 0x2c ∷ [] → Listing all left start new
listing-more all left o start now mid new h w e = record {
  so_far = h.so_far ++ (w.0 ++ 0x2c ∷ []);
  written = e ∙ ap (λ (x : List ℕ). x ++ 0x2c ∷ []) (w.2 ∙ ap (λ (x : List ℕ). x ++ w.0) h.written)
      ∙ append_assoc (start ++ h.so_far) w.0 (0x2c ∷ []) ∙ append_assoc start h.so_far (w.0 ++ 0x2c ∷ []);
  rest = h.rest ∙ ap (λ (x : Option (List ℕ)). option_map (λ v. h.so_far ++ v) (listed x (list_text left))) w.1 ∙ grown h.so_far w.0 (list_text left);
}

-- ---- the nodes inside

items-small : (js : Parts) (bound : ℕ) → length (nodes_of js) < bound → AllByRecursion (λ j. length (nodes j) < bound) (list_of js)
items-small no_parts bound l = tt
items-small (part j js) bound l =
    let e = length-append (nodes j) (nodes_of js) in (omega (arith, e, l), items-small js bound (omega (arith, e, l)))

values-small : (js : Parts) (bound : ℕ) → length (nodes_of js) < bound → AllByRecursion (λ m. length (nodes m.1) < bound) (pairs (list_of js))
values-small no_parts bound l = tt
values-small (part k no_parts) bound l = tt
values-small (part k (part v js)) bound l =
    let e = length-append (nodes k) (nodes v ++ nodes_of js) in let f = length-append (nodes v) (nodes_of js) in
    (omega (arith, e, f, l), values-small js bound (omega (arith, e, f, l)))

items-of-small : (j : Json) → AllByRecursion (λ i. length (nodes i) < length (nodes j)) (items_of j)
items-of-small null = tt
items-of-small (boolean b) = tt
items-of-small (number w) = tt
items-of-small (text w) = tt
items-of-small (array w js) = items-small js (length (nodes (array w js))) (omega arith)
items-of-small (object w js) = tt

members-of-small : (j : Json) → AllByRecursion (λ m. length (nodes m.1) < length (nodes j)) (members_of j)
members-of-small null = tt
members-of-small (boolean b) = tt
members-of-small (number w) = tt
members-of-small (text w) = tt
members-of-small (array w js) = tt
members-of-small (object w js) = values-small js (length (nodes (object w js))) (omega arith)

all-inside : (d : Document) (bound : ℕ) (ns : List ℕ) → AllByRecursion (IsNodeOf d) ns → AllByRecursion (λ i. length (nodes i) < bound) (map (value_at d) ns)
    → AllByRecursion (λ m. IsNodeOf d m × (length (nodes (value_at d m)) < bound)) ns
all-inside d bound [] h k = tt
all-inside d bound (n ∷ ns) h k = ((h.0, k.0), all-inside d bound ns h.1 k.1)

pub items-inside : (d : Document) (n : ℕ) (ns : List ℕ) → AllByRecursion (IsNodeOf d) ns → map (value_at d) ns ≡ items_of (value_at d n) → AllByRecursion (IsInside d n) ns
items-inside d n ns h e =
    all-inside d (length (nodes (value_at d n))) ns h
    (subst (λ (js : List Json). AllByRecursion (λ i. length (nodes i) < length (nodes (value_at d n))) js) (sym e) (items-of-small (value_at d n)))

-- the name is a node, and the value is inside
abbrev pub IsMemberOf : Document → ℕ → ℕ × ℕ → Type 0
IsMemberOf d n m = IsNodeOf d m.0 × IsInside d n m.1

all-members : (d : Document) (n : ℕ) (ms : List (ℕ × ℕ)) → AllByRecursion (AreNodesOf d) ms → AllByRecursion (λ i. length (nodes i.1) < length (nodes (value_at d n))) (map (values_at d) ms) → AllByRecursion (IsMemberOf d n) ms
all-members d n [] h k = tt
all-members d n (m ∷ ms) h k = ((h.0.0, (h.0.1, k.0)), all-members d n ms h.1 k.1)

pub members-inside : (d : Document) (n : ℕ) (ms : List (ℕ × ℕ)) → AllByRecursion (AreNodesOf d) ms → map (values_at d) ms ≡ members_of (value_at d n) → AllByRecursion (IsMemberOf d n) ms
members-inside d n ms h e =
    all-members d n ms h (subst (λ (js : List (Json × Json)). AllByRecursion (λ i. length (nodes i.1) < length (nodes (value_at d n))) js) (sym e) (members-of-small (value_at d n)))

-- ---- the last of each name

-- of all the fields, those before these members are kept by the nodes of their values
pub record Gathering (d : Document) (n : ℕ) (all : List Field) (left : List (ℕ × ℕ)) (es : List (List ℕ × ℕ)) : Type 0 where
  pub inside : AllByRecursion (λ e. IsInside d n e.1) es
  pub kept : by_name [] all ≡ by_name (seen d es) (named (map (values_at d) left))

seen-insert : (d : Document) (es : List (List ℕ × ℕ)) (k : List ℕ) (v : ℕ) → seen d (insert_entry (slice_cmp nat_cmp) es k v) ≡ insert_entry (slice_cmp nat_cmp) (seen d es) k (canonical (value_at d v))
seen-insert d [] k v = refl
seen-insert d (e ∷ es) k v =
    let rest = seen-insert d es k v in by_order rest (slice_cmp nat_cmp k e.0)
  where
    by_order : seen d (insert_entry (slice_cmp nat_cmp) es k v) ≡ insert_entry (slice_cmp nat_cmp) (seen d es) k (canonical (value_at d v)) → (o : Ordering)
        → seen d (match_ordering o ((k, v) ∷ e ∷ es) ((e.0, v) ∷ es) (e ∷ insert_entry (slice_cmp nat_cmp) es k v))
        ≡ match_ordering o ((k, canonical (value_at d v)) ∷ seen d (e ∷ es)) ((e.0, canonical (value_at d v)) ∷ seen d es) ((e.0, canonical (value_at d e.1)) ∷ insert_entry (slice_cmp nat_cmp) (seen d es) k (canonical (value_at d v)))
    by_order rest order.Less = refl
    by_order rest order.Equal = refl
    by_order rest order.Greater = ap (λ (ms : List Field). (e.0, canonical (value_at d e.1)) ∷ ms) rest

inside-insert : (d : Document) (n : ℕ) (es : List (List ℕ × ℕ)) (k : List ℕ) (v : ℕ) → IsInside d n v → AllByRecursion (λ e. IsInside d n e.1) es → AllByRecursion (λ e. IsInside d n e.1) (insert_entry (slice_cmp nat_cmp) es k v)
inside-insert d n [] k v i h = (i, tt)
inside-insert d n (e ∷ es) k v i h =
    let rest = inside-insert d n es k v i h.1 in by_order rest (slice_cmp nat_cmp k e.0)
  where
    by_order : AllByRecursion (λ e. IsInside d n e.1) (insert_entry (slice_cmp nat_cmp) es k v) → (o : Ordering)
        → AllByRecursion (λ e. IsInside d n e.1) (match_ordering o ((k, v) ∷ e ∷ es) ((e.0, v) ∷ es) (e ∷ insert_entry (slice_cmp nat_cmp) es k v))
    by_order rest order.Less = (i, h)
    by_order rest order.Equal = (i, h.1)
    by_order rest order.Greater = (h.0, rest)

pub gathering-start : (d : Document) (n : ℕ) (all : List Field) (left : List (ℕ × ℕ)) (es : List (List ℕ × ℕ)) → es ≡ [] → all ≡ named (map (values_at d) left) → Gathering d n all left es
gathering-start d n all left es h e = subst (λ (x : List (List ℕ × ℕ)). Gathering d n all left x) (sym h) (record { inside = tt; kept = ap (by_name []) e })

pub gathering-more : (d : Document) (n : ℕ) (all : List Field) (name value : ℕ) (left : List (ℕ × ℕ)) (es new : List (List ℕ × ℕ)) (k : List ℕ) → Gathering d n all ((name, value) ∷ left) es → IsInside d n value
    → k ≡ text_of (value_at d name) → new ≡ insert_entry (slice_cmp nat_cmp) es k value → Gathering d n all left new
gathering-more d n all name value left es new k h i t e = record {
  inside = subst (λ (x : List (List ℕ × ℕ)). AllByRecursion (λ y. IsInside d n y.1) x) (sym e) (inside-insert d n es k value i h.inside);
  kept = h.kept
      ∙ ap (λ (x : List ℕ). by_name (insert_entry (slice_cmp nat_cmp) (seen d es) x (canonical (value_at d value))) (named (map (values_at d) left))) (sym t)
      ∙ ap (λ (x : List Field). by_name x (named (map (values_at d) left))) (sym (ap (seen d) e ∙ seen-insert d es k value));
}
