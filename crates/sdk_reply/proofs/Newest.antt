-- The last member of a name, found in one pass over all members.
use Rattle.std.proofs.Common.{◌≡◌, refl, ap, sym, ◌∙◌, subst, ℕ, Bool, true, false, cond, List, [], ◌∷◌, map}
use Rattle.std.proofs.Common.{Option, Some, None, IfSome}
use Rattle.std.specs.Prelude.{bytes_eq, codes, option_map}
use Rattle.std.specs.List.{AllByRecursion}
use Rattle.json_text.specs.Grammar.{Json, null, boolean, number, text, array, object, spelling}
use Rattle.json_text.specs.Nodes.{AreNodesOf, Document, IsNodeOf, list_of, members_of, pairs, value_at, values_at}
use Rattle.json_text.specs.Plain.{is_plain}
use Rattle.json_text.specs.Text.{inside, last_named, member_of, or_else, text_of}
use Rattle.json_text.proofs.PlainLemmas.{plain-spelling}
use Rattle.sdk_reply.specs.declared.op_members.OpMembers.{OpMembers}
use Rattle.sdk_reply.specs.Found.{AreMembers, IsMember, newer, with_member}

-- the value of the last of these members that has the name, and else what was found before
abbrev pub latest : List ℕ → Option Json → List (Json × Json) → Option Json
latest name found [] = found
latest name found (m ∷ ms) = latest name (cond (bytes_eq (text_of m.0) name) (Some m.1) found) ms

over : (later : Option Json) (named : Bool) (v : Json) (found : Option Json)
    → or_else later (cond named (Some v) found) ≡ or_else (or_else later (cond named (Some v) None)) found
over (Some j) named v found = refl
over None true v found = refl
over None false v found = refl

latest-is : (name : List ℕ) (found : Option Json) (js : List Json) → latest name found (pairs js) ≡ or_else (last_named name js) found
latest-is name found [] = refl
latest-is name found (k ∷ []) = refl
latest-is name found (k ∷ v ∷ js) =
    latest-is name (cond (bytes_eq (text_of k) name) (Some v) found) js
    ∙ over (last_named name js) (bytes_eq (text_of k) name) v found

or-none : (o : Option Json) → or_else o None ≡ o
or-none None = refl
or-none (Some j) = refl

latest-member : (name : List ℕ) (j : Json) → latest name None (members_of j) ≡ member_of j name
latest-member name null = refl
latest-member name (boolean b) = refl
latest-member name (number w) = refl
latest-member name (text w) = refl
latest-member name (array w js) = refl
latest-member name (object w js) = latest-is name None (list_of js) ∙ or-none (last_named name (list_of js))

-- what was found is of the members before these, and these are left
pub record IsLatest (d : Document) (j : Json) (name : List ℕ) (found : Option ℕ) (left : List (ℕ × ℕ)) : Type 0 where
  pub there : IfSome found (IsNodeOf d)
  pub value : latest name (option_map (value_at d) found) (map (values_at d) left) ≡ member_of j name

latest-start : (d : Document) (j : Json) (name : List ℕ) (all : List (ℕ × ℕ)) → map (values_at d) all ≡ members_of j → IsLatest d j name None all
latest-start d j name all e = record {
  there = tt;
  value = ap (λ (ms : List (Json × Json)). latest name None ms) e ∙ latest-member name j;
}

newer-there : (d : Document) (named : Bool) (v : ℕ) (found : Option ℕ) → IsNodeOf d v → IfSome found (IsNodeOf d) → IfSome (newer named v found) (IsNodeOf d)
newer-there d true v found h there = h
newer-there d false v found h there = there

newer-value : (d : Document) (named : Bool) (v : ℕ) (found : Option ℕ)
    → option_map (value_at d) (newer named v found) ≡ cond named (Some (value_at d v)) (option_map (value_at d) found)
newer-value d true v found = refl
newer-value d false v found = refl

latest-more : (d : Document) (j : Json) (name written : List ℕ) (found : Option ℕ) (n v : ℕ) (left : List (ℕ × ℕ)) → IsNodeOf d v → written ≡ text_of (value_at d n)
    → IsLatest d j name found ((n, v) ∷ left) → IsLatest d j name (newer (bytes_eq written name) v found) left
latest-more d j name written found n v left h e l = record {
  there = newer-there d (bytes_eq written name) v found h l.there;
  value = ap (λ (o : Option Json). latest name o (map (values_at d) left))
      (newer-value d (bytes_eq written name) v found
      ∙ ap (λ (w : List ℕ). cond (bytes_eq w name) (Some (value_at d v)) (option_map (value_at d) found)) e)
      ∙ l.value;
}

latest-end : (d : Document) (j : Json) (name : List ℕ) (found : Option ℕ) → IsLatest d j name found [] → IsMember d j name found
latest-end d j name found l = (l.there, l.value)

-- the members of an object so far, and those that are left
pub record IsPassing (d : Document) (j : Json) (left : List (ℕ × ℕ)) (members : OpMembers) : Type 0 where
  pub there : AllByRecursion (AreNodesOf d) left
  pub id : IsLatest d j (codes "id") members.id left
  pub op : IsLatest d j (codes "op") members.op left
  pub «data» : IsLatest d j (codes "data") members.data left
  pub error : IsLatest d j (codes "error") members.error left
  pub opts : IsLatest d j (codes "opts") members.opts left
  pub name : IsLatest d j (codes "name") members.name left

pub passing-start : (d : Document) (j : Json) (all : List (ℕ × ℕ)) → AllByRecursion (AreNodesOf d) all → map (values_at d) all ≡ members_of j
    → IsPassing d j all (record { id = None; op = None; «data» = None; error = None; opts = None; name = None })
passing-start d j all there e = record {
  there = there;
  id = latest-start d j (codes "id") all e;
  op = latest-start d j (codes "op") all e;
  «data» = latest-start d j (codes "data") all e;
  error = latest-start d j (codes "error") all e;
  opts = latest-start d j (codes "opts") all e;
  name = latest-start d j (codes "name") all e;
}

pub passing-more : (d : Document) (j : Json) (n v : ℕ) (left : List (ℕ × ℕ)) (members with : OpMembers) (written : List ℕ) → IsPassing d j ((n, v) ∷ left) members
    → written ≡ inside (spelling (value_at d n)) → is_plain written ≡ true → with ≡ with_member members written v → IsPassing d j left with
passing-more d j n v left members with written p e plain is =
    let h : IsNodeOf d v = p.there.0.1 in
    let t : written ≡ text_of (value_at d n) = e ∙ plain-spelling (spelling (value_at d n)) (ap is_plain (sym e) ∙ plain) in
    subst (λ (m : OpMembers). IsPassing d j left m) (sym is) (record {
      there = p.there.1;
      id = latest-more d j (codes "id") written members.id n v left h t p.id;
      op = latest-more d j (codes "op") written members.op n v left h t p.op;
      «data» = latest-more d j (codes "data") written members.data n v left h t p.data;
      error = latest-more d j (codes "error") written members.error n v left h t p.error;
      opts = latest-more d j (codes "opts") written members.opts n v left h t p.opts;
      name = latest-more d j (codes "name") written members.name n v left h t p.name;
    })

pub passing-end : (d : Document) (j : Json) (members : OpMembers) → IsPassing d j [] members → AreMembers d j members
passing-end d j members p = record {
  id = latest-end d j (codes "id") members.id p.id;
  op = latest-end d j (codes "op") members.op p.op;
  «data» = latest-end d j (codes "data") members.data p.data;
  error = latest-end d j (codes "error") members.error p.error;
  opts = latest-end d j (codes "opts") members.opts p.opts;
  name = latest-end d j (codes "name") members.name p.name;
}
