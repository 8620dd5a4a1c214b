-- What a tree's entries stand for.
use Rattle.std.specs.Prelude.{◌≡◌, ℕ, true, false, cond, ◌==◌, List, [], ◌∷◌, ◌++◌, map, length, take, drop, slice_range, bytes_eq, codes, refl}
use Rattle.std.specs.Coded.{Coded, code_by, coded×, coded_ℕ, coded_list}
use Rattle.std.proofs.Common.{sym, ◌∙◌, ap, append_assoc, append-nil}
use Rattle.std.proofs.Math.Seq.{take-append_seam, drop-append_seam}
use Rattle.json_text.specs.Grammar.{Json, null, boolean, number, text, array, object, Parts, no_parts, part, spelling}
use Rattle.json_text.specs.Nodes.{Document, list_of, nodes, nodes_of, kind_of, parts_of}
use Rattle.json_text.specs.Entries.{AreEntries}
use Rattle.json_text.specs.declared.entry.Entry.{Entry}
use Rattle.json_text.specs.declared.kind.Kind.{Kind}
use Rattle.json_text.specs.declared.kind.Kind.TheVariants as kind

-- a node alone: its kind, the count of its parts, and its spelling
abbrev pub Piece : Type 0
Piece = ℕ × (ℕ × List ℕ)

abbrev pub tag : Kind → ℕ
tag kind.Null = 0
tag kind.Bool = 1
tag kind.Number = 2
tag kind.Text = 3
tag kind.List = 4
tag kind.Object = 5

abbrev pub piece_of : Json → Piece
piece_of j = (tag (kind_of j), (length (parts_of j), spelling j))

abbrev pub parts_from : List Json → Parts
parts_from [] = no_parts
parts_from (j ∷ js) = part j (parts_from js)

-- one more node, in front of the values that follow it
abbrev pub grow : Piece → List Json → List Json
grow p js =
    cond (p.0 == 0) (null ∷ js)
    (cond (p.0 == 1) (boolean (bytes_eq p.1.1 (codes "true")) ∷ js)
    (cond (p.0 == 2) (number p.1.1 ∷ js)
    (cond (p.0 == 3) (text p.1.1 ∷ js)
    (cond (p.0 == 4) (array p.1.1 (parts_from (take p.1.0 js)) ∷ drop p.1.0 js)
    (object p.1.1 (parts_from (take p.1.0 js)) ∷ drop p.1.0 js)))))

-- the values that the nodes are, one after another
abbrev pub values : List Piece → List Json
values [] = []
values (p ∷ ps) = grow p (values ps)

abbrev pub first_of : List Json → Json
first_of [] = null
first_of (j ∷ js) = j

abbrev pub value_from : List Piece → Json
value_from ps = first_of (values ps)

abbrev pub pieces : Json → List Piece
pieces j = map piece_of (nodes j)

parts-from-list : (js : Parts) → parts_from (list_of js) ≡ js
parts-from-list no_parts = refl
parts-from-list (part j js) = ap (λ (x : Parts). part j x) (parts-from-list js)

map-append : (xs ys : List Json) → map piece_of (xs ++ ys) ≡ map piece_of xs ++ map piece_of ys
map-append [] ys = refl
map-append (x ∷ xs) ys = ap (λ (z : List Piece). piece_of x ∷ z) (map-append xs ys)

taken : (js : Parts) (rest : List Json)
    → parts_from (take (length (list_of js)) (list_of js ++ rest)) ≡ js
taken js rest = ap parts_from (take-append_seam (list_of js) rest) ∙ parts-from-list js

mutual
  values-of : (j : Json) (rest : List Piece) → values (map piece_of (nodes j) ++ rest) ≡ j ∷ values rest
  values-of null rest = refl
  values-of (boolean true) rest = refl
  values-of (boolean false) rest = refl
  values-of (number w) rest = refl
  values-of (text w) rest = refl
  values-of (array w js) rest =
      ap (λ (x : List Json).
      array w (parts_from (take (length (list_of js)) x)) ∷ drop (length (list_of js)) x)
      (values-of-parts js rest)
      ∙ ap (λ (x : Parts). array w x ∷ drop (length (list_of js)) (list_of js ++ values rest))
      (taken js (values rest))
      ∙ ap (λ (x : List Json). array w js ∷ x) (drop-append_seam (list_of js) (values rest))
  values-of (object w js) rest =
      ap (λ (x : List Json).
      object w (parts_from (take (length (list_of js)) x)) ∷ drop (length (list_of js)) x)
      (values-of-parts js rest)
      ∙ ap (λ (x : Parts). object w x ∷ drop (length (list_of js)) (list_of js ++ values rest))
      (taken js (values rest))
      ∙ ap (λ (x : List Json). object w js ∷ x) (drop-append_seam (list_of js) (values rest))

  values-of-parts : (js : Parts) (rest : List Piece)
      → values (map piece_of (nodes_of js) ++ rest) ≡ list_of js ++ values rest
  values-of-parts no_parts rest = refl
  values-of-parts (part j js) rest =
      ap (λ (x : List Piece). values (x ++ rest)) (map-append (nodes j) (nodes_of js))
      ∙ ap values (append_assoc (map piece_of (nodes j)) (map piece_of (nodes_of js)) rest)
      ∙ values-of j (map piece_of (nodes_of js) ++ rest)
      ∙ ap (λ (x : List Json). j ∷ x) (values-of-parts js rest)

pub value-from-pieces : (j : Json) → value_from (pieces j) ≡ j
value-from-pieces j = ap value_from (sym (append-nil (pieces j))) ∙ ap first_of (values-of j [])

abbrev pub document_from : List ℕ × List Piece → Document
document_from p = record { source = p.0; value = value_from p.1 }

pub same-document : (d : Document) → document_from (d.source, pieces d.value) ≡ d
same-document d = ap (λ (j : Json). record { source = d.source; value = j }) (value-from-pieces d.value)

-- a text and its value are stored as the text and the value's nodes
abbrev pub document_code : Coded Document
document_code =
    code_by (List ℕ × List Piece)
    (coded× (coded_list coded_ℕ) (coded_list (coded× coded_ℕ (coded× coded_ℕ (coded_list coded_ℕ)))))
    (λ d. (d.source, pieces d.value)) document_from same-document

abbrev pub piece_in : List ℕ → Entry → Piece
piece_in w e = (tag e.kind, (e.count, slice_range w e.start e.stop))

-- the value that the entries stand for, over this source
unfoldable pub tree_of : List ℕ → List Entry → Json
tree_of w es = value_from (map (piece_in w) es)

-- the source with that value
abbrev pub document_of : List ℕ → List Entry → Document
document_of w es = record { source = w; value = tree_of w es }

-- The entries are those of one value.
pub record IsTree (w : List ℕ) (es : List Entry) : Type 0 where
  pub entries : AreEntries w 0 es (nodes (tree_of w es))
