-- The member that a path finds is worth what the path is worth.
use Rattle.std.proofs.Common.{◌≡◌, ℕ, ℤ, List, [], ◌∷◌, ◌++◌, Option, Some, None, Ok, Err, refl, ap, ◌∙◌}
use Rattle.std.specs.Prelude.{Result}
use Rattle.expr.specs.Tree as tree
use Rattle.expr.specs.Tree.{Tree}
use Rattle.expr.specs.declared.term.Source.TheVariants as source
use Rattle.json_text.specs.Grammar.{Json}
use Rattle.json_text.specs.Grammar as json
use Rattle.json_text.specs.Text.{member_of}
use Rattle.cel_eval.specs.Data as datum
use Rattle.cel_eval.specs.Data.{Datum, Outcome, over, of_json, of_found, as_number, units_within}
use Rattle.cel_eval.specs.Operations.{member}
use Rattle.cel_eval.specs.Table.{worth, then}
use Rattle.cel_eval.specs.declared.fault.EvalFault.{EvalFault}
use Rattle.text_num.specs.Units.{units_of}
use Rattle.event_keys.specs.Buckets.{fresh_path, longer, member_at, named}

member_behind : (o : Option Json) (path : List (List ℕ)) (name : List ℕ) → member_at o (path ++ name ∷ []) ≡ named name (member_at o path)
member_behind o [] name = refl
member_behind o (n ∷ path) name = member_behind (named n o) path name

pub number_object : (r : Result ℤ EvalFault) (j : Json) → as_number r ≡ Ok (datum.object j) → ⊥
number_object (Ok n) j h = cc
number_object (Err e) j h = cc

same_object : (m j : Json) → of_json m ≡ Ok (datum.object j) → m ≡ j
same_object json.null j h = cc
same_object (json.boolean b) j h = cc
same_object (json.number w) j h = absurd (number_object (units_within (units_of (json.spelling (json.number w)))) j h)
same_object (json.text w) j h = cc
same_object (json.array w js) j h = cc
same_object (json.object w js) j h = cc

-- the value at the path is this
pub record IsAt (k : Json) (path : List (List ℕ)) (d : Datum) : Type 0 where
  pub there : Json
  pub found : member_at (Some k) path ≡ Some there
  pub value : of_json there ≡ Ok d

one_longer : (o : Option (List (List ℕ))) (name : List ℕ) (path : List (List ℕ)) → longer o name ≡ Some path → (front : List (List ℕ)) × (o ≡ Some front) × (path ≡ front ++ name ∷ [])
one_longer None name path h = cc
one_longer (Some front) name path h = (front, refl, cc)

then_ok : (o : Outcome) (name : List ℕ) (d : Datum) → then o (λ e. member e name) ≡ Ok d → (j : Json) × (m : Json) × (o ≡ Ok (datum.object j)) × (member_of j name ≡ Some m) × (of_json m ≡ Ok d)
then_ok (Err e) name d h = cc
then_ok (Ok datum.null) name d h = cc
then_ok (Ok (datum.boolean b)) name d h = cc
then_ok (Ok (datum.number n)) name d h = cc
then_ok (Ok (datum.text t)) name d h = cc
then_ok (Ok (datum.list j)) name d h = cc
then_ok (Ok (datum.written ds)) name d h = cc
then_ok (Ok (datum.object j)) name d h = let p = found_ok (member_of j name) d h in (j, p.0, refl, p.1, p.2)
  where
    found_ok : (o : Option Json) (d : Datum) → of_found o ≡ Ok d → (m : Json) × (o ≡ Some m) × (of_json m ≡ Ok d)
    found_ok None d h = cc
    found_ok (Some m) d h = (m, refl, h)

pub path_worth : (t : Tree) (path : List (List ℕ)) (j k : Json) (d : Datum) → fresh_path t ≡ Some path → worth t (over j (Some k)) ≡ Ok d → IsAt k path d
path_worth (tree.source source.Async) path j k d e h = record { there = k; found = ap (member_at (Some k)) (let same : path ≡ [] = cc in same); value = h }
path_worth (tree.source source.Event) path j k d e h = cc
path_worth (tree.member a name) path j k d e h =
    let l = one_longer (fresh_path a) name path e in
    let o = then_ok (worth a (over j (Some k))) name d h in
    let before = path_worth a l.0 j k (datum.object o.0) l.1 o.2 in
    let same = same_object before.there o.0 before.value in
    record {
      there = o.1;
      found = ap (member_at (Some k)) l.2 ∙ member_behind (Some k) l.0 name ∙ ap (named name) before.found ∙ ap (λ (m : Json). member_of m name) same ∙ o.3;
      value = o.4;
    }
path_worth tree.null path j k d e h = cc
path_worth (tree.boolean b) path j k d e h = cc
path_worth (tree.number n) path j k d e h = cc
path_worth (tree.text t) path j k d e h = cc
path_worth (tree.group a) path j k d e h = cc
path_worth (tree.list items) path j k d e h = cc
path_worth (tree.index a b) path j k d e h = cc
path_worth (tree.has a name) path j k d e h = cc
path_worth (tree.call f a) path j k d e h = cc
path_worth (tree.method m a b) path j k d e h = cc
path_worth (tree.signed s a) path j k d e h = cc
path_worth (tree.binary o a b) path j k d e h = cc
path_worth (tree.choice c a b) path j k d e h = cc
