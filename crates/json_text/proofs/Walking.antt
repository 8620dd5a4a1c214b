-- From a node to its parts.
use Rattle.std.proofs.Common.{◌≡◌, ℕ, zero, suc, ◌+◌, ◌<◌, ◌≤◌, ◌-◌, true, false, List, [], ◌∷◌, ◌++◌, refl, sym, ◌∙◌, ap, subst, append_assoc, append-nil, inl, inr, arith, length, length-append, length-drop, drop, get_or, map, Some, zero-add}
use Rattle.std.specs.Prelude.{slice_get, slice_range, nat_lt}
use Rattle.std.proofs.lemmas.Bool.Decides.{nat_tests}
use Rattle.std.proofs.lemmas.List.{drop_more, drop-append-le, get_or-append-add}
use Rattle.std.proofs.lemmas.Option.{slice_get-get_or}
use Rattle.std.proofs.Math.ListN.{get_or-append}
use Rattle.std.proofs.Math.Seq.{drop-append-add, drop-append_seam}
use Rattle.json_text.proofs.Booleans.{decide}
use Rattle.json_text.specs.Grammar.{Json, null, boolean, number, text, array, object, Parts, no_parts, part}
use Rattle.json_text.specs.Nodes.{Document, list_of, nodes, nodes_of, kind_of, parts_of, value_at, IsNodeOf}
use Rattle.json_text.specs.Entries.{AreEntries, IsEntry}
use Rattle.json_text.specs.Trees.{Piece, piece_of, piece_in, value_from, tree_of, document_of, tag, IsTree, value-from-pieces}
use Rattle.json_text.proofs.Laying.{entries-length}
use Rattle.json_text.specs.declared.entry.Entry.{Entry}

-- ---- entries and values

pub entry-at : (w : List ℕ) (i n : ℕ) (es : List Entry) (js : List Json) (d : Entry) → AreEntries w i es js → n < length js → IsEntry w (i + n) (get_or es n d) (get_or js n null)
entry-at w i n [] [] d h l = absurd (omega arith)
entry-at w i n [] (j ∷ js) d h l = absurd h
entry-at w i n (e ∷ es) [] d h l = absurd h
entry-at w i zero (e ∷ es) (j ∷ js) d h l = let same : i ≡ i + 0 = omega arith in subst (λ (x : ℕ). IsEntry w x e j) same h.0
entry-at w i (suc n) (e ∷ es) (j ∷ js) d h l =
    let same : i + 1 + n ≡ i + suc n = omega arith in
    subst (λ (x : ℕ). IsEntry w x (get_or es n d) (get_or js n null)) same (entry-at w (i + 1) n es js d h.1 (omega arith))

pub pieces-are : (w : List ℕ) (i : ℕ) (es : List Entry) (js : List Json) → AreEntries w i es js → map (piece_in w) es ≡ map piece_of js
pieces-are w i [] [] h = refl
pieces-are w i [] (j ∷ js) h = absurd h
pieces-are w i (e ∷ es) [] h = absurd h
pieces-are w i (e ∷ es) (j ∷ js) h =
    ap (λ (x : ℕ). (x, (e.count, slice_range w e.start e.stop)) ∷ map (piece_in w) es) (ap tag h.0.is_kind)
    ∙ ap (λ (x : ℕ). (tag (kind_of j), (x, slice_range w e.start e.stop)) ∷ map (piece_in w) es) h.0.is_count
    ∙ ap (λ (x : List ℕ). (tag (kind_of j), (length (parts_of j), x)) ∷ map (piece_in w) es) h.0.slice
    ∙ ap (λ (x : List Piece). piece_of j ∷ x) (pieces-are w (i + 1) es js h.1)

pub tree-is : (w : List ℕ) (es : List Entry) (j : Json) → AreEntries w 0 es (nodes j) → tree_of w es ≡ j
unfolding tree_of
tree-is w es j h = ap value_from (pieces-are w 0 es (nodes j) h) ∙ value-from-pieces j

pub tree-stands : (w : List ℕ) (es : List Entry) (j : Json) → AreEntries w 0 es (nodes j) → IsTree w es
tree-stands w es j h = record { entries = subst (λ (x : Json). AreEntries w 0 es (nodes x)) (sym (tree-is w es j h)) h }

-- ---- the nodes of a value

abbrev pub as_parts : Json → Parts
as_parts null = no_parts
as_parts (boolean b) = no_parts
as_parts (number w) = no_parts
as_parts (text w) = no_parts
as_parts (array w js) = js
as_parts (object w js) = js

pub nodes-are : (j : Json) → nodes j ≡ j ∷ nodes_of (as_parts j)
nodes-are null = refl
nodes-are (boolean b) = refl
nodes-are (number w) = refl
nodes-are (text w) = refl
nodes-are (array w js) = refl
nodes-are (object w js) = refl

pub parts-are : (j : Json) → parts_of j ≡ list_of (as_parts j)
parts-are null = refl
parts-are (boolean b) = refl
parts-are (number w) = refl
parts-are (text w) = refl
parts-are (array w js) = refl
parts-are (object w js) = refl

pub is-below : (a b : ℕ) → nat_lt a b ≡ true → a < b
is-below a b h = grind (arith, nat_tests)

pub is-not-below : (a b : ℕ) → nat_lt a b ≡ false → b ≤ a
is-not-below a b h = grind (arith, nat_tests)

pub head-of : (xs : List Json) (n : ℕ) (x : Json) (rest : List Json) → n < length xs → drop n xs ≡ x ∷ rest → get_or xs n null ≡ x
head-of xs n x rest l e = let d : get_or xs n null ∷ drop (n + 1) xs ≡ x ∷ rest = sym (drop_more xs n null l) ∙ e in cc

pub tail-of : (xs : List Json) (n : ℕ) (x : Json) (rest : List Json) → n < length xs → drop n xs ≡ x ∷ rest → drop (n + 1) xs ≡ rest
tail-of xs n x rest l e = let d : get_or xs n null ∷ drop (n + 1) xs ≡ x ∷ rest = sym (drop_more xs n null l) ∙ e in cc

suc-is : (n m : ℕ) → suc n + m ≡ suc (n + m)
suc-is n m = omega arith

drop-none : (m : ℕ) → drop {A = Json} m [] ≡ []
drop-none zero = refl
drop-none (suc m) = refl

pub drop_twice : (n m : ℕ) (xs : List Json) → drop (n + m) xs ≡ drop m (drop n xs)
drop_twice zero m xs = ap (λ (x : ℕ). drop x xs) (zero-add m)
drop_twice (suc n) m [] = ap (λ (x : ℕ). drop {A = Json} x []) (suc-is n m) ∙ sym (drop-none m)
drop_twice (suc n) m (x ∷ xs) = ap (λ (y : ℕ). drop y (x ∷ xs)) (suc-is n m) ∙ drop_twice n m xs

-- the nodes of the value at a place stand there
abbrev Standing : List Json → ℕ → Type 0
Standing js n = (rest : List Json) × (drop n js ≡ nodes (get_or js n null) ++ rest)

later : (js ks : List Json) (n : ℕ) → length js ≤ n → Standing ks (n - length js) → Standing (js ++ ks) n
later js ks n l h =
    let m : n ≡ length js + (n - length js) = omega arith in (
      h.0,
      ap (λ (x : ℕ). drop x (js ++ ks)) m ∙ drop-append-add js ks (n - length js) ∙ h.1
          ∙ ap (λ (x : Json). nodes x ++ h.0) (sym (ap (λ (x : ℕ). get_or (js ++ ks) x null) m ∙ get_or-append-add js ks (n - length js) null)),
    )

sooner : (js ks : List Json) (n : ℕ) → n < length js → Standing js n → Standing (js ++ ks) n
sooner js ks n l h = (
  h.0 ++ ks,
  drop-append-le n js ks (omega arith) ∙ ap (λ (x : List Json). x ++ ks) h.1 ∙ append_assoc (nodes (get_or js n null)) h.0 ks
      ∙ ap (λ (x : Json). nodes x ++ (h.0 ++ ks)) (sym (get_or-append js ks null n l)),
)

mutual
  pub stands-at : (j : Json) (n : ℕ) → n < length (nodes j) → Standing (nodes j) n
  stands-at null zero l = ([], refl)
  stands-at null (suc n) l = absurd (omega arith)
  stands-at (boolean b) zero l = ([], refl)
  stands-at (boolean b) (suc n) l = absurd (omega arith)
  stands-at (number w) zero l = ([], refl)
  stands-at (number w) (suc n) l = absurd (omega arith)
  stands-at (text w) zero l = ([], refl)
  stands-at (text w) (suc n) l = absurd (omega arith)
  stands-at (array w js) zero l = ([], sym (append-nil (nodes (array w js))))
  stands-at (array w js) (suc n) l = parts-stand-at js n (omega arith)
  stands-at (object w js) zero l = ([], sym (append-nil (nodes (object w js))))
  stands-at (object w js) (suc n) l = parts-stand-at js n (omega arith)

  parts-stand-at : (js : Parts) (n : ℕ) → n < length (nodes_of js) → Standing (nodes_of js) n
  parts-stand-at no_parts n l = absurd (omega arith)
  parts-stand-at (part j js) n l =
      elim (decide (nat_lt n (length (nodes j)))) [
        | inl h ↦ (let k : n < length (nodes j) = is-below n (length (nodes j)) h in sooner (nodes j) (nodes_of js) n k (stands-at j n k))
        | inr h ↦ (let k : length (nodes j) ≤ n = is-not-below n (length (nodes j)) h in later (nodes j) (nodes_of js) n k (parts-stand-at js (n - length (nodes j)) (omega (arith, length-append (nodes j) (nodes_of js)))))
      ]

-- ---- a walk over the parts

pub record IsPartAt (root : Document) (ps : List Json) (child i : ℕ) : Type 0 where
  pub rest : Parts
  pub tail : List Json
  pub nodes_left : drop child (nodes root.value) ≡ nodes_of rest ++ tail
  pub parts_left : drop i ps ≡ list_of rest

pub first-part : (root : Document) (n : ℕ) → IsNodeOf root n → IsPartAt root (parts_of (value_at root n)) (n + 1) 0
first-part root n l =
    let v : Json = value_at root n in
    let s = stands-at root.value n l in
    let e : v ∷ drop (n + 1) (nodes root.value) ≡ v ∷ (nodes_of (as_parts v) ++ s.0) = sym (drop_more (nodes root.value) n null l) ∙ s.1 ∙ ap (λ (x : List Json). x ++ s.0) (nodes-are v) in
    let t : drop (n + 1) (nodes root.value) ≡ nodes_of (as_parts v) ++ s.0 = cc in
    record { rest = as_parts v; tail = s.0; nodes_left = t; parts_left = parts-are v }

pub record IsPart (root : Document) (ps : List Json) (child i : ℕ) : Type 0 where
  pub within : child < length (nodes root.value)
  pub is : slice_get ps i ≡ Some (value_at root child)
  pub on : IsPartAt root ps (child + length (nodes (value_at root child))) (i + 1)

part-with : (root : Document) (ps : List Json) (child i : ℕ) (rest : Parts) (tail : List Json) → i < length ps → drop child (nodes root.value) ≡ nodes_of rest ++ tail → drop i ps ≡ list_of rest → IsPart root ps child i
part-with root ps child i no_parts tail l e f =
    let n : length (drop i ps) ≡ 0 = ap length f in absurd (omega (arith, length-drop i ps))
part-with root ps child i (part j js) tail l e f =
    let g : drop child (nodes root.value) ≡ j ∷ ((nodes_of (as_parts j) ++ nodes_of js) ++ tail) = e ∙ ap (λ (x : List Json). (x ++ nodes_of js) ++ tail) (nodes-are j) in
    let n : length (drop child (nodes root.value)) ≡ suc (length ((nodes_of (as_parts j) ++ nodes_of js) ++ tail)) = ap length g in
    let lt : child < length (nodes root.value) = omega (arith, length-drop child (nodes root.value)) in
    let v : value_at root child ≡ j = head-of (nodes root.value) child j ((nodes_of (as_parts j) ++ nodes_of js) ++ tail) lt g in
    let m : i < length ps = l in
    let p : get_or ps i null ≡ j = head-of ps i j (list_of js) m f in
    let after : drop (child + length (nodes j)) (nodes root.value) ≡ nodes_of js ++ tail =
    drop_twice child (length (nodes j)) (nodes root.value) ∙ ap (drop (length (nodes j))) (e ∙ append_assoc (nodes j) (nodes_of js) tail) ∙ drop-append_seam (nodes j) (nodes_of js ++ tail) in
    let left : drop (i + 1) ps ≡ list_of js = tail-of ps i j (list_of js) m f in
    record {
      within = lt;
      is = slice_get-get_or ps i null m ∙ ap Some (p ∙ sym v);
      on = subst (λ (x : Json). IsPartAt root ps (child + length (nodes x)) (i + 1)) (sym v) (record { rest = js; tail = tail; nodes_left = after; parts_left = left });
    }

pub part-here : (root : Document) (ps : List Json) (child i : ℕ) → IsPartAt root ps child i → i < length ps → IsPart root ps child i
part-here root ps child i h l = part-with root ps child i h.rest h.tail l h.nodes_left h.parts_left

-- the entry of a tree at a node
pub shown-at : (w : List ℕ) (es xs : List Entry) (d : Document) (n : ℕ) (x : Entry) → xs ≡ es → IsTree w es → document_of w es ≡ d → n < length (nodes d.value) → IsEntry d.source n (get_or xs n x) (value_at d n)
shown-at w es xs d n x s h v l =
    let k = subst (λ (y : Document). AreEntries w 0 es (nodes y.value)) v h.entries in
    subst (λ (u : List ℕ). IsEntry u n (get_or xs n x) (value_at d n)) (ap (λ (y : Document). y.source) v)
    (subst (λ (y : List Entry). IsEntry w n (get_or y n x) (value_at d n)) (sym s)
    (subst (λ (y : ℕ). IsEntry w y (get_or es n x) (value_at d n)) (zero-add n) (entry-at w 0 n es (nodes d.value) x k l)))

pub tree-length : (w : List ℕ) (es : List Entry) (d : Document) → IsTree w es → document_of w es ≡ d → length es ≡ length (nodes d.value)
tree-length w es d h v = entries-length w 0 es (nodes d.value) (subst (λ (y : Document). AreEntries w 0 es (nodes y.value)) v h.entries)
