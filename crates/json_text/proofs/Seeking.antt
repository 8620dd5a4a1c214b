-- From the whole text to one node of it, past the parts before.
use Rattle.std.proofs.Common.{◌≡◌, ℕ, suc, ◌+◌, ◌<◌, ◌≤◌, ◌-◌, true, false, Bool, List, [], ◌∷◌, ◌++◌, refl, sym, ◌∙◌, ap, subst, append_assoc, append-nil, arith, length, length-append, length-drop, drop, get_or}
use Rattle.std.specs.Prelude.{cond, nat_lt}
use Rattle.std.proofs.lemmas.List.{get_or-append-add}
use Rattle.std.proofs.Math.ListN.{get_or-append}
use Rattle.std.proofs.Math.Seq.{drop-append_seam}
use Rattle.json_text.specs.Grammar.{Json, null, boolean, number, text, array, object, Parts, no_parts, part, spelling}
use Rattle.json_text.specs.Nodes.{Document, IsNodeOf, behind, nodes, nodes_of, value_at}
use Rattle.json_text.specs.Starts.{rest_at, rests, rests_in, skipped}
use Rattle.json_text.proofs.Walking.{as_parts, drop_twice, head-of, is-below, is-not-below, nodes-are, tail-of}

mutual
  rests-length : (w : List ℕ) (j : Json) → length (rests w j) ≡ length (nodes j)
  rests-length w null = refl
  rests-length w (boolean b) = refl
  rests-length w (number v) = refl
  rests-length w (text v) = refl
  rests-length w (array v js) = ap suc (rests-in-length (drop 1 w) js)
  rests-length w (object v js) = ap suc (rests-in-length (drop 1 w) js)

  rests-in-length : (w : List ℕ) (js : Parts) → length (rests_in w js) ≡ length (nodes_of js)
  rests-in-length w no_parts = refl
  rests-in-length w (part j js) =
      let a = length-append (rests (skipped w) j) (rests_in (drop (length (spelling j)) (skipped w)) js) in
      let b = length-append (nodes j) (nodes_of js) in
      let e = rests-length (skipped w) j in
      let f = rests-in-length (drop (length (spelling j)) (skipped w)) js in omega (arith, a, b, e, f)

rests-are : (w : List ℕ) (j : Json) → rests w j ≡ w ∷ rests_in (drop 1 w) (as_parts j)
rests-are w null = refl
rests-are w (boolean b) = refl
rests-are w (number v) = refl
rests-are w (text v) = refl
rests-are w (array v js) = refl
rests-are w (object v js) = refl

-- parts stand in these bytes, and the node is one of theirs
pub record Seeking (d : Document) (n index : ℕ) (w : List ℕ) : Type 0 where
  pub parts : Parts
  pub tail : List Json
  pub left : drop index (nodes d.value) ≡ nodes_of parts ++ tail
  pub from : index ≤ n
  pub inside : n < index + length (nodes_of parts)
  pub found : rest_at d n ≡ get_or (rests_in w parts) (n - index) []

pub seek-start : (d : Document) (n : ℕ) (w : List ℕ) → w ≡ d.source → IsNodeOf d n → Seeking d n 0 w
seek-start d n w e h =
    let l = length-append (nodes d.value) [] in
    let z : n ≡ n - 0 = omega arith in
    record {
      parts = part d.value no_parts;
      tail = [];
      left = sym (append-nil (nodes d.value ++ []) ∙ append-nil (nodes d.value));
      from = omega arith;
      inside = omega (arith, h, l);
      found = ap (λ (x : List ℕ). get_or (rests_in x (part d.value no_parts)) n []) (sym e) ∙ ap (λ (k : ℕ). get_or (rests_in w (part d.value no_parts)) k []) z;
    }

-- the first of the parts
pub record First (d : Document) (n index : ℕ) (w : List ℕ) : Type 0 where
  pub value : Json
  pub others : Parts
  pub tail : List Json
  pub is : value_at d index ≡ value
  pub there : IsNodeOf d index
  pub left : drop index (nodes d.value) ≡ (nodes value ++ nodes_of others) ++ tail
  pub from : index ≤ n
  pub inside : n < index + length (nodes value ++ nodes_of others)
  pub found : rest_at d n ≡ get_or (rests (skipped w) value ++ rests_in (drop (length (spelling value)) (skipped w)) others) (n - index) []

first-with : (d : Document) (n index : ℕ) (w : List ℕ) (parts : Parts) (tail : List Json) → drop index (nodes d.value) ≡ nodes_of parts ++ tail → index ≤ n → n < index + length (nodes_of parts)
    → rest_at d n ≡ get_or (rests_in w parts) (n - index) [] → First d n index w
first-with d n index w no_parts tail l f i r = absurd (omega arith)
first-with d n index w (part j js) tail l f i r =
    let g : drop index (nodes d.value) ≡ j ∷ ((nodes_of (as_parts j) ++ nodes_of js) ++ tail) = l ∙ ap (λ (x : List Json). (x ++ nodes_of js) ++ tail) (nodes-are j) in
    let c : length (drop index (nodes d.value)) ≡ suc (length ((nodes_of (as_parts j) ++ nodes_of js) ++ tail)) = ap length g in
    let lt : index < length (nodes d.value) = omega (arith, c, length-drop index (nodes d.value)) in
    record {
      value = j;
      others = js;
      tail = tail;
      is = head-of (nodes d.value) index j ((nodes_of (as_parts j) ++ nodes_of js) ++ tail) lt g;
      there = lt;
      left = l;
      from = f;
      inside = i;
      found = r;
    }

pub first-of : (d : Document) (n index : ℕ) (w : List ℕ) → Seeking d n index w → First d n index w
first-of d n index w h = first-with d n index w h.parts h.tail h.left h.from h.inside h.found

pub seek-here : (d : Document) (n index : ℕ) (w : List ℕ) → Seeking d n index w → IsNodeOf d index
seek-here d n index w h = (first-of d n index w h).there

-- it is the first itself
pub seek-end : (d : Document) (n index : ℕ) (w : List ℕ) → Seeking d n index w → n ≤ index → rest_at d n ≡ skipped w
seek-end d n index w h l =
    let f = first-of d n index w h in let a = f.from in
    let k : n - index ≡ 0 = omega (arith, a, l) in
    let r : List (List ℕ) = rests_in (drop (length (spelling f.value)) (skipped w)) f.others in
    f.found ∙ ap (λ (x : ℕ). get_or (rests (skipped w) f.value ++ r) x []) k ∙ ap (λ (x : List (List ℕ)). get_or (x ++ r) 0 []) (rests-are (skipped w) f.value)

-- it is inside the first
into : (d : Document) (n index : ℕ) (w : List ℕ) → First d n index w → index < n → n < behind d index → Seeking d n (index + 1) (drop 1 (skipped w))
into d n index w f l k =
    let j : Json = f.value in
    let size : length (nodes (value_at d index)) ≡ length (nodes j) = ap (λ (x : Json). length (nodes x)) f.is in
    let more : length (nodes j) ≡ suc (length (nodes_of (as_parts j))) = ap length (nodes-are j) in
    let count = rests-length (skipped w) j in
    let r : List (List ℕ) = rests_in (drop (length (spelling j)) (skipped w)) f.others in
    let m : n - index ≡ suc (n - (index + 1)) = omega (arith, l) in
    let lt : n - index < length (rests (skipped w) j) = omega (arith, l, k, size, count) in
    let g : drop index (nodes d.value) ≡ j ∷ ((nodes_of (as_parts j) ++ nodes_of f.others) ++ f.tail) = f.left ∙ ap (λ (x : List Json). (x ++ nodes_of f.others) ++ f.tail) (nodes-are j) in
    record {
      parts = as_parts j;
      tail = nodes_of f.others ++ f.tail;
      left = tail-of (nodes d.value) index j ((nodes_of (as_parts j) ++ nodes_of f.others) ++ f.tail) f.there g ∙ append_assoc (nodes_of (as_parts j)) (nodes_of f.others) f.tail;
      from = omega (arith, l);
      inside = omega (arith, k, size, more);
      found = f.found ∙ get_or-append (rests (skipped w) j) r [] (n - index) lt
          ∙ ap (λ (x : List (List ℕ)). get_or x (n - index) []) (rests-are (skipped w) j)
          ∙ ap (λ (x : ℕ). get_or (skipped w ∷ rests_in (drop 1 (skipped w)) (as_parts j)) x []) m;
    }

-- it is behind the first
past : (d : Document) (n index : ℕ) (w : List ℕ) → First d n index w → behind d index ≤ n → Seeking d n (behind d index) (drop (length (spelling (value_at d index))) (skipped w))
past d n index w f k =
    let j : Json = f.value in
    let size : length (nodes (value_at d index)) ≡ length (nodes j) = ap (λ (x : Json). length (nodes x)) f.is in
    let all = length-append (nodes j) (nodes_of f.others) in
    let count = rests-length (skipped w) j in
    let i = f.inside in
    let m : n - index ≡ length (rests (skipped w) j) + (n - behind d index) = omega (arith, k, size, count) in
    let r : List (List ℕ) = rests_in (drop (length (spelling j)) (skipped w)) f.others in
    record {
      parts = f.others;
      tail = f.tail;
      left = ap (λ (x : ℕ). drop (index + x) (nodes d.value)) size ∙ drop_twice index (length (nodes j)) (nodes d.value)
          ∙ ap (drop (length (nodes j))) (f.left ∙ append_assoc (nodes j) (nodes_of f.others) f.tail) ∙ drop-append_seam (nodes j) (nodes_of f.others ++ f.tail);
      from = k;
      inside = omega (arith, i, k, size, all);
      found = f.found ∙ ap (λ (x : ℕ). get_or (rests (skipped w) j ++ r) x []) m ∙ get_or-append-add (rests (skipped w) j) r (n - behind d index) []
          ∙ ap (λ (x : Json). get_or (rests_in (drop (length (spelling x)) (skipped w)) f.others) (n - behind d index) []) (sym f.is);
    }

-- one step of the search
pub seek-on : (d : Document) (n index new : ℕ) (w v rest : List ℕ) → Seeking d n index w → index < n → v ≡ skipped w
    → new ≡ cond (nat_lt n (behind d index)) (index + 1) (behind d index)
    → rest ≡ drop (cond (nat_lt n (behind d index)) 1 (length (spelling (value_at d index)))) v → Seeking d n new rest
seek-on d n index new w v rest h l s e r = by_place (nat_lt n (behind d index)) refl e (r ∙ ap (drop (cond (nat_lt n (behind d index)) 1 (length (spelling (value_at d index))))) s)
  where
    by_place : (b : Bool) → nat_lt n (behind d index) ≡ b → new ≡ cond b (index + 1) (behind d index) → rest ≡ drop (cond b 1 (length (spelling (value_at d index)))) (skipped w) → Seeking d n new rest
    by_place true t i x =
        subst (λ (y : ℕ). Seeking d n y rest) (sym i) (subst (λ (y : List ℕ). Seeking d n (index + 1) y) (sym x) (into d n index w (first-of d n index w h) l (is-below n (behind d index) t)))
    by_place false t i x =
        subst (λ (y : ℕ). Seeking d n y rest) (sym i) (subst (λ (y : List ℕ). Seeking d n (behind d index) y) (sym x) (past d n index w (first-of d n index w h) (is-not-below n (behind d index) t)))

-- the search comes nearer
pub seek-nearer : (d : Document) (n index new : ℕ) → index < n → 0 < length (nodes (value_at d index)) → new ≡ cond (nat_lt n (behind d index)) (index + 1) (behind d index) → n - new < n - index
seek-nearer d n index new l p e = by_place (nat_lt n (behind d index)) e
  where
    by_place : (b : Bool) → new ≡ cond b (index + 1) (behind d index) → n - new < n - index
    by_place true i = omega (arith, l, i)
    by_place false i = omega (arith, l, p, i)

pub some-nodes : (j : Json) → 0 < length (nodes j)
some-nodes j = let e = ap length (nodes-are j) in omega (arith, e)
