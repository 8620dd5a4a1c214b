-- A condition that is true of a fresh event has the value of its bucket there: the conjunct that gives the bucket is
-- true, so the member is equal to what it is compared with, and that is worth the same over the first event alone.
use Rattle.std.proofs.Common.{◌≡◌, ◌⊎◌, inl, inr, ℕ, Bool, true, false, List, [], ◌∷◌, Option, Some, None, Ok, Err, refl, sym, ap, ◌∙◌}
use Rattle.std.specs.Prelude.{cond}
use Rattle.expr.specs.Tree as tree
use Rattle.expr.specs.Tree.{Tree}
use Rattle.expr.specs.Reading.{tree_of_text}
use Rattle.expr.specs.declared.term.Operator.TheVariants as operator
use Rattle.json_text.specs.Grammar.{Json}
use Rattle.cel_eval.specs.Data as datum
use Rattle.cel_eval.specs.Data.{Datum, Outcome, Events, over, seen, seen_outcome}
use Rattle.cel_eval.specs.Table.{worth, value_of, worth_if, worth_of}
use Rattle.kinds.specs.declared.store.Bucket.{Bucket}
use Rattle.event_keys.specs.Buckets.{Compared, against, bucket_at, bucket_in, bucket_of, bucket_with, compared, conjuncts, first_compared, found_text, fresh_path, key_text, member_at, names_fresh, or_else, value_in, worth_on}
use Rattle.event_keys.specs.Expressions.{holds_over_both, is_true, json_of, over_two}
use Rattle.event_keys.proofs.Alone.{alone}
use Rattle.event_keys.proofs.TrueConjuncts.{IsTrue, AreTrue, all_true}
use Rattle.event_keys.proofs.PathLemmas.{IsAt, path_worth}
use Rattle.event_keys.proofs.EqualTexts.{text_left, text_right, unnested, apart_left, apart_right, both_ok}

-- ---- the conjunct that gives the bucket

either_some : (x y : Option Compared) (c : Compared) → or_else x y ≡ Some c → (x ≡ Some c) ⊎ (y ≡ Some c)
either_some (Some d) y c h = inl h
either_some None y c h = inr h

against_some : (o : Option (List (List ℕ))) (t : Tree) (c : Compared) → against o t ≡ Some c → (o ≡ Some c.path) × (c.to ≡ t) × (names_fresh t ≡ false)
against_some None t c h = cc
against_some (Some []) t c h = cc
against_some (Some (n ∷ ns)) t c h = by_test (names_fresh t) refl h
  where
    by_test : (b : Bool) → names_fresh t ≡ b → elim b [ true ↦ None | false ↦ Some (record { path = n ∷ ns; to = t }) ] ≡ Some c → (Some (n ∷ ns) ≡ Some c.path) × (c.to ≡ t) × (names_fresh t ≡ false)
    by_test true e h = cc
    by_test false e h = let same : record { path = n ∷ ns; to = t } ≡ c = cc in (ap (λ (x : Compared). Some x.path) same, sym (ap (λ (x : Compared). x.to) same), e)

-- the fresh event has this text at the path
abbrev HasText : Json → List (List ℕ) → List ℕ → Type 0
HasText k path v = found_text (member_at (Some k) path) ≡ Some v

at_path : (k : Json) (path : List (List ℕ)) (d : Datum) (v : List ℕ) → IsAt k path d → key_text (Ok (seen d)) ≡ Some v → HasText k path v
at_path k path d v place h = ap found_text place.found ∙ ap (λ (o : Outcome). key_text (seen_outcome o)) place.value ∙ h

-- what stands beside the member, over both events
beside : (c : Compared) (t : Tree) (j k : Json) (v : List ℕ) → c.to ≡ t → names_fresh t ≡ false → key_text (seen_outcome (worth c.to (over j None))) ≡ Some v → key_text (seen_outcome (worth t (over j (Some k)))) ≡ Some v
beside c t j k v e n h = ap (λ (o : Outcome). key_text (seen_outcome o)) (alone t j k n ∙ ap (λ (x : Tree). worth x (over j None)) (sym e)) ∙ h

is_equal : (a b : Tree) (c : Compared) (j k : Json) (v : List ℕ) → compared (tree.binary operator.Equal a b) ≡ Some c → IsTrue (tree.binary operator.Equal a b) (over j (Some k)) → key_text (seen_outcome (worth c.to (over j None))) ≡ Some v → HasText k c.path v
is_equal a b c j k v e h t = by_side (either_some (against (fresh_path a) b) (against (fresh_path b) a) c e)
  where
    by_side : (against (fresh_path a) b ≡ Some c) ⊎ (against (fresh_path b) a ≡ Some c) → HasText k c.path v
    by_side (inl l) =
        let p = against_some (fresh_path a) b c l in
        let o = both_ok (worth a (over j (Some k))) (worth b (over j (Some k))) h in
        let key : key_text (Ok (seen o.1)) ≡ Some v = ap (λ (x : Outcome). key_text (seen_outcome x)) (sym o.3) ∙ beside c b j k v p.1 p.2 t in
        let place = path_worth a c.path j k o.0 p.0 o.2 in
        at_path k c.path o.0 v place (text_left place.there o.0 o.1 v place.value (unnested o.0 o.1 (apart_left o.0 o.1 v key) o.4) key)
    by_side (inr r) =
        let p = against_some (fresh_path b) a c r in
        let o = both_ok (worth a (over j (Some k))) (worth b (over j (Some k))) h in
        let key : key_text (Ok (seen o.0)) ≡ Some v = ap (λ (x : Outcome). key_text (seen_outcome x)) (sym o.2) ∙ beside c a j k v p.1 p.2 t in
        let place = path_worth b c.path j k o.1 p.0 o.3 in
        at_path k c.path o.1 v place (text_right o.1 o.0 v (unnested o.0 o.1 (apart_right o.1 o.0 v key) o.4) key)

one_true : (t : Tree) (c : Compared) (j k : Json) (v : List ℕ) → compared t ≡ Some c → IsTrue t (over j (Some k)) → key_text (seen_outcome (worth c.to (over j None))) ≡ Some v → HasText k c.path v
one_true (tree.binary operator.Equal a b) c j k v e h t = is_equal a b c j k v e h t
one_true (tree.binary operator.And a b) c j k v e h t = cc
one_true (tree.binary operator.Or a b) c j k v e h t = cc
one_true (tree.binary operator.Less a b) c j k v e h t = cc
one_true (tree.binary operator.LessOrEqual a b) c j k v e h t = cc
one_true (tree.binary operator.Greater a b) c j k v e h t = cc
one_true (tree.binary operator.GreaterOrEqual a b) c j k v e h t = cc
one_true (tree.binary operator.NotEqual a b) c j k v e h t = cc
one_true (tree.binary operator.In a b) c j k v e h t = cc
one_true (tree.binary operator.Plus a b) c j k v e h t = cc
one_true (tree.binary operator.Minus a b) c j k v e h t = cc
one_true (tree.binary operator.Times a b) c j k v e h t = cc
one_true (tree.binary operator.Divide a b) c j k v e h t = cc
one_true (tree.binary operator.Remainder a b) c j k v e h t = cc
one_true tree.null c j k v e h t = cc
one_true (tree.boolean b) c j k v e h t = cc
one_true (tree.number n) c j k v e h t = cc
one_true (tree.text s) c j k v e h t = cc
one_true (tree.source s) c j k v e h t = cc
one_true (tree.group a) c j k v e h t = cc
one_true (tree.list items) c j k v e h t = cc
one_true (tree.member a name) c j k v e h t = cc
one_true (tree.index a b) c j k v e h t = cc
one_true (tree.has a name) c j k v e h t = cc
one_true (tree.call f a) c j k v e h t = cc
one_true (tree.method m a b) c j k v e h t = cc
one_true (tree.signed s a) c j k v e h t = cc
one_true (tree.choice x a b) c j k v e h t = cc

first_true : (ts : List Tree) (c : Compared) (j k : Json) (v : List ℕ) → first_compared ts ≡ Some c → AreTrue ts (over j (Some k)) → key_text (seen_outcome (worth c.to (over j None))) ≡ Some v → HasText k c.path v
first_true [] c j k v e h t = cc
first_true (s ∷ ts) c j k v e h t =
    let later = first_true ts c j k v in
    by_side later (either_some (compared s) (first_compared ts) c e)
  where
    by_side : (first_compared ts ≡ Some c → AreTrue ts (over j (Some k)) → key_text (seen_outcome (worth c.to (over j None))) ≡ Some v → HasText k c.path v) → (compared s ≡ Some c) ⊎ (first_compared ts ≡ Some c) → HasText k c.path v
    by_side later (inl l) = one_true s c j k v l h.0 t
    by_side later (inr r) = later r h.1 t

-- ---- from the texts

bucket_some : (path : List (List ℕ)) (o : Option (List ℕ)) (b : Bucket) → bucket_at path o ≡ Some b → (path ≡ b.path) × (o ≡ Some b.value)
bucket_some path None b h = cc
bucket_some path (Some v) b h = let same : record { path = path; value = v } ≡ b = cc in (ap (λ (x : Bucket). x.path) same, ap (λ (x : Bucket). Some x.value) same)

compared_some : (first : List ℕ) (o : Option Compared) (b : Bucket) → bucket_with first o ≡ Some b → (c : Compared) × (o ≡ Some c) × (c.path ≡ b.path) × (key_text (worth_on c.to (json_of first)) ≡ Some b.value)
compared_some first None b h = cc
compared_some first (Some c) b h = let p = bucket_some c.path (key_text (worth_on c.to (json_of first))) b h in (c, refl, p.0, p.1)

tree_some : (first : List ℕ) (o : Option Tree) (b : Bucket) → bucket_in first o ≡ Some b → (t : Tree) × (o ≡ Some t) × (bucket_with first (first_compared (conjuncts t)) ≡ Some b)
tree_some first None b h = cc
tree_some first (Some t) b h = (t, refl, h)

worth_some : (t : Tree) (o : Option Json) (v : List ℕ) → key_text (worth_on t o) ≡ Some v → (j : Json) × (o ≡ Some j) × (key_text (seen_outcome (worth t (over j None))) ≡ Some v)
worth_some t None v h = cc
worth_some t (Some j) v h = (j, refl, h)

both_some : (w : List ℕ) (j : Json) (o : Option Json) → is_true (over_two w (Some j) o) ≡ true → (k : Json) × (o ≡ Some k) × (is_true (value_of w (over j (Some k))) ≡ true)
both_some w j None h = cc
both_some w j (Some k) h = (k, refl, h)

seen_true : (o : Outcome) → is_true (seen_outcome o) ≡ true → o ≡ Ok (datum.boolean true)
seen_true (Ok (datum.boolean b)) h = ap (λ (x : Bool). Ok (datum.boolean x)) h
seen_true (Ok datum.null) h = cc
seen_true (Ok (datum.number n)) h = cc
seen_true (Ok (datum.text t)) h = cc
seen_true (Ok (datum.list j)) h = cc
seen_true (Ok (datum.object j)) h = cc
seen_true (Ok (datum.written ds)) h = cc
seen_true (Err e) h = cc

of_tree : (w : List ℕ) (t : Tree) (events : Events) → tree_of_text w ≡ Some t → is_true (value_of w events) ≡ true → IsTrue t events
unfolding worth_of
of_tree w t events e h = seen_true (worth t events) (ap (λ (o : Option Tree). is_true (seen_outcome (worth_if o events))) (sym e) ∙ h)

pub has_value : (cond first fresh : List ℕ) (b : Bucket) → bucket_of (Some cond) first ≡ Some b → holds_over_both cond first fresh ≡ true → value_in b.path fresh ≡ Some b.value
has_value cond first fresh b e h =
    let t = tree_some first (tree_of_text cond) b e in
    let c = compared_some first (first_compared (conjuncts t.0)) b t.2 in
    let j = worth_some c.0.to (json_of first) b.value c.3 in
    let k = both_some cond j.0 (json_of fresh) (ap (λ (o : Option Json). is_true (over_two cond o (json_of fresh))) (sym j.1) ∙ h) in
    let true_of = of_tree cond t.0 (over j.0 (Some k.0)) t.1 k.2 in
    let at_c = first_true (conjuncts t.0) c.0 j.0 k.0 b.value c.1 (all_true t.0 (over j.0 (Some k.0)) true_of) j.2 in
    ap (λ (o : Option Json). found_text (member_at o b.path)) k.1 ∙ ap (λ (p : List (List ℕ)). found_text (member_at (Some k.0) p)) (sym c.2) ∙ at_c
