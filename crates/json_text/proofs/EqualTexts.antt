-- Two values have one text in common exactly where they are equal part by part.
use Rattle.std.proofs.Common.{◌≡◌, ℕ, ◌<◌, Bool, true, false, cond, List, [], ◌∷◌, ◌++◌, refl, sym, ◌∙◌, ap, subst, arith, map, length, drop, ◌⊎◌, inl, inr, Option, Some, None, Result, Ok, Err, ℤ}
use Rattle.std.proofs.lemmas.Cmp.{nat_list_cmp_total, tied_itself}
use Rattle.std.proofs.lemmas.List.{append_cancel_right}
use Rattle.std.proofs.lemmas.Map.Lookups.{exact_bytes}
use Rattle.std.proofs.lemmas.Option.{same_Some}
use Rattle.std.specs.Prelude.{◌==◌, ◌^◌, bytes_eq, codes, option_map, unsigned_abs, IfSome, ◌↔◌}
use Rattle.std.specs.List.{AllByRecursion}
use Rattle.std.specs.List.Sorted.{IsStrictlySortedBy}
use Rattle.std.specs.Map.{keys_of, lookup}
use Rattle.std.specs.BTreeMap.{insert_entry, is_at}
use Rattle.std.specs.Cmp.Lexicographic.{slice_cmp}
use Rattle.std.specs.Ordering.{is_eq, nat_cmp, match_ordering, ordering_reverse}
use Rattle.std.specs.declared.cmp.Ordering.{Ordering}
use Rattle.std.specs.declared.cmp.Ordering.TheVariants as order
use Rattle.lists.proofs.Texts.{bytes_same, bytes_self}
use Rattle.json_text.proofs.Arms.{not-eq}
use Rattle.json_text.proofs.Booleans.{decide}
use Rattle.json_text.proofs.Delimited.{is_numeric, known-small, units-numeric, parted, quoted-parted, PassesIf, passes, values-pass, all-by-name, fields-pass, listed-parts, bracketed-parts, field-parts}
use Rattle.json_text.proofs.ReadBack.{unquoted}
use Rattle.json_text.specs.Equality.{AreEqual, nulls, booleans, numbers, texts, lists, objects, AreEqualItems, no_items, item, AreEqualMembers, missing, found}
use Rattle.json_text.specs.Grammar.{Json, null, boolean, number, text, array, object, Parts, no_parts, part}
use Rattle.json_text.specs.Nodes.{kind_of, list_of}
use Rattle.json_text.specs.Same.{Field, bracketed, by_name, canonical, compared, comparison as compare_values, field_text, fields, item_texts, list_text, listed, number_text}
use Rattle.json_text.specs.Text.{last_named, or_else, quoted, text_of, unescaped}
use Rattle.json_text.specs.declared.comparison.Comparison.TheVariants as comparison
use Rattle.json_text.specs.declared.kind.Kind.{Kind}
use Rattle.json_text.specs.declared.kind.Kind.TheVariants as kind
use Rattle.text_num.specs.declared.fault.NumFault.{NumFault}
use Rattle.text_num.specs.declared.fault.NumFault.TheVariants.{NotANumber}
use Rattle.text_num.specs.Units.{units_of, units_text}
use Rattle.text_num.proofs.ShortestText.{reads_back}
use Rattle.text_num.specs.JsonNumber.{number_of, exponent_of}
use Rattle.text_num.specs.Digits.{fraction_of}

-- ---- the kind of a value, from the first byte of its text

abbrev kind_at : ℕ → Kind
kind_at b =
    cond (b == 0x6e) kind.Null (cond (b == 0x74) kind.Bool (cond (b == 0x66) kind.Bool
    (cond (b == 0x22) kind.Text (cond (b == 0x5b) kind.List (cond (b == 0x7b) kind.Object kind.Number)))))

abbrev kind_in : List ℕ → Kind
kind_in [] = kind.Null
kind_in (b ∷ bs) = kind_at b

no-units : units_of [] ≡ Err NotANumber
unfolding units_of number_of exponent_of fraction_of
no-units = refl

numeric-kind : (w : List ℕ) (u : ℤ) → AllByRecursion is_numeric w → units_of w ≡ Ok u → kind_in w ≡ kind.Number
numeric-kind [] u h e = absurd (let f = sym no-units ∙ e in cc)
numeric-kind (b ∷ bs) u h e =
    let k : is_numeric b = h.0 in
    rw (not-eq b 0x6e (λ e. omega arith), not-eq b 0x74 (λ e. omega arith), not-eq b 0x66 (λ e. omega arith), not-eq b 0x22 (λ e. omega arith), not-eq b 0x5b (λ e. omega arith), not-eq b 0x7b (λ e. omega arith)) refl

number-kind : (r : Result ℤ NumFault) (v : List ℕ) → ((u : ℤ) → r ≡ Ok u → unsigned_abs u < 10 ^ 38) → number_text r ≡ Some v → kind_in v ≡ kind.Number
number-kind (Ok u) v h e = subst (λ (z : List ℕ). kind_in z ≡ kind.Number) (same_Some _ _ e) (numeric-kind (units_text u) u (units-numeric u (h u refl)) (reads_back u (h u refl)))
number-kind (Err f) v h e = absurd (cc)

text-kind : (j : Json) (v : List ℕ) → canonical j ≡ Some v → kind_in v ≡ kind_of j
text-kind null v e = sym (ap kind_in (same_Some _ _ e))
text-kind (boolean true) v e = sym (ap kind_in (same_Some _ _ e))
text-kind (boolean false) v e = sym (ap kind_in (same_Some _ _ e))
text-kind (number w) v e = number-kind (units_of w) v (λ u. known-small w u) e
text-kind (text w) v e = sym (ap kind_in (same_Some _ _ e))
text-kind (array w js) v e = ap kind_in (bracketed-parts 0x5b 0x5d (list_text (item_texts js)) v e).2
text-kind (object w js) v e = ap kind_in (bracketed-parts 0x7b 0x7d (list_text (map field_text (by_name [] (fields js)))) v e).2

-- ---- equal texts of values without parts

same-units : (a b : ℤ) → unsigned_abs a < 10 ^ 38 → unsigned_abs b < 10 ^ 38 → units_text a ≡ units_text b → a ≡ b
same-units a b h k e = let f = sym (reads_back a h) ∙ ap units_of e ∙ reads_back b k in cc

equal-numbers : (v w x : List ℕ) (r s : Result ℤ NumFault) → units_of v ≡ r → units_of w ≡ s → number_text r ≡ Some x → number_text s ≡ Some x → AreEqual (number v) (number w)
equal-numbers v w x (Ok a) (Ok b) p q e f =
    let same = same-units a b (known-small v a p) (known-small w b q) (same_Some _ _ e ∙ sym (same_Some _ _ f)) in
    numbers v w a p (q ∙ ap (λ (u : ℤ). Ok u) (sym same))
equal-numbers v w x (Err g) s p q e f = absurd (cc)
equal-numbers v w x (Ok a) (Err g) p q e f = absurd (cc)

equal-booleans : (a b : Bool) (v : List ℕ) → canonical (boolean a) ≡ Some v → canonical (boolean b) ≡ Some v → AreEqual (boolean a) (boolean b)
equal-booleans true true v e f = booleans true
equal-booleans false false v e f = booleans false
equal-booleans true false v e f = absurd (let n = ap length (same_Some _ _ (e ∙ sym f)) in omega arith)
equal-booleans false true v e f = absurd (let n = ap length (same_Some _ _ (e ∙ sym f)) in omega arith)

same-text : (t u : List ℕ) → quoted t ≡ quoted u → t ≡ u
same-text t u e = sym (unquoted t) ∙ ap unescaped e ∙ unquoted u

-- ---- equal texts of lists and of fields

not-empty : (v w : List ℕ) (b : ℕ) → [] ≡ v ++ b ∷ w → ⊥
not-empty [] w b e = cc
not-empty (x ∷ xs) w b e = cc

equal-fields : (es fs : List Field) (v : List ℕ) → AllByRecursion PassesIf (map field_text es) → AllByRecursion PassesIf (map field_text fs)
    → list_text (map field_text es) ≡ Some v → list_text (map field_text fs) ≡ Some v → es ≡ fs
equal-fields [] [] v h k e f = refl
equal-fields [] (n ∷ ns) v h k e f =
    let l = listed-parts (field_text n) (list_text (map field_text ns)) v f in
    absurd (not-empty l.head l.tail 0x2c (same_Some _ _ e ∙ l.joined))
equal-fields (m ∷ ms) [] v h k e f =
    let l = listed-parts (field_text m) (list_text (map field_text ms)) v e in
    absurd (not-empty l.head l.tail 0x2c (same_Some _ _ f ∙ l.joined))
equal-fields (m ∷ ms) (n ∷ ns) v h k e f =
    let a = listed-parts (field_text m) (list_text (map field_text ms)) v e in
    let b = listed-parts (field_text n) (list_text (map field_text ns)) v f in
    let both = parted a.head b.head a.tail b.tail (h.0 a.head a.first) (k.0 b.head b.first) (sym a.joined ∙ b.joined) in
    let rest = equal-fields ms ns a.tail h.1 k.1 a.others (b.others ∙ ap (λ (x : List ℕ). Some x) (sym both.1)) in
    same-field m n a.head a.first (b.first ∙ ap (λ (x : List ℕ). Some x) (sym both.0)) rest
  where
    same-field : (m n : Field) (w : List ℕ) → field_text m ≡ Some w → field_text n ≡ Some w → ms ≡ ns → m ∷ ms ≡ n ∷ ns
    same-field m n w p q rest =
        let a = field-parts m w p in
        let b = field-parts n w q in
        let both = quoted-parted m.0 n.0 (0x3a ∷ a.0) (0x3a ∷ b.0) (sym a.2 ∙ b.2) in
        let name = same-text m.0 n.0 both.0 in
        let value : m.1 ≡ n.1 = let x : a.0 ≡ b.0 = cc in a.1 ∙ ap (λ (y : List ℕ). Some y) x ∙ sym b.1 in
        ap (λ (x : List ℕ). (x, m.1) ∷ ms) name ∙ ap (λ (x : Option (List ℕ)). (n.0, x) ∷ ms) value ∙ ap (λ (x : List Field). n ∷ x) rest

-- ---- the field of a name

abbrev field_at : List ℕ → List Field → Option (Option (List ℕ))
field_at name es = lookup (is_at (slice_cmp nat_cmp name)) es

equal-cmp : (o : Ordering) → is_eq o ≡ true → o ≡ order.Equal
equal-cmp order.Equal e = refl
equal-cmp order.Less e = cc
equal-cmp order.Greater e = cc

by-cmp : (q k : List ℕ) → is_eq (slice_cmp nat_cmp q k) ≡ bytes_eq k q
by-cmp q k = elim (decide (bytes_eq k q)) [
  | inl e ↦ subst (λ (x : List ℕ). is_eq (slice_cmp nat_cmp q x) ≡ true) (sym (bytes_same k q e)) (ap is_eq (tied_itself nat_list_cmp_total q)) ∙ sym e
  | inr e ↦ elim (decide (is_eq (slice_cmp nat_cmp q k))) [
    | inl f ↦ absurd (let s = exact_bytes q k (equal-cmp _ f) in let g = sym (ap (λ (x : List ℕ). bytes_eq k x) s ∙ bytes_self k) ∙ e in cc)
    | inr f ↦ f ∙ sym e
  ]
]

chosen-twice : {A : Type 0} (b : Bool) (x y z : A) → cond b x z ≡ cond b x (cond b y z)
chosen-twice true x y z = refl
chosen-twice false x y z = refl

chosen-apart : {A : Type 0} (a b : Bool) (x y z : A) → (a ≡ true → b ≡ true → ⊥) → cond b y (cond a x z) ≡ cond a x (cond b y z)
chosen-apart true true x y z h = absurd (h refl refl)
chosen-apart true false x y z h = refl
chosen-apart false b x y z h = refl

field-inserted : (q k : List ℕ) (v : Option (List ℕ)) (es : List Field) → field_at q (insert_entry (slice_cmp nat_cmp) es k v) ≡ cond (is_eq (slice_cmp nat_cmp q k)) (Some v) (field_at q es)
field-inserted q k v [] = refl
field-inserted q k v (e ∷ es) = by_order (slice_cmp nat_cmp k e.0) refl (field-inserted q k v es)
  where
    by_order : (o : Ordering) → slice_cmp nat_cmp k e.0 ≡ o → field_at q (insert_entry (slice_cmp nat_cmp) es k v) ≡ cond (is_eq (slice_cmp nat_cmp q k)) (Some v) (field_at q es)
        → field_at q (match_ordering o ((k, v) ∷ e ∷ es) ((e.0, v) ∷ es) (e ∷ insert_entry (slice_cmp nat_cmp) es k v)) ≡ cond (is_eq (slice_cmp nat_cmp q k)) (Some v) (field_at q (e ∷ es))
    by_order order.Less s rest = refl
    by_order order.Equal s rest =
        subst (λ (x : List ℕ). cond (is_eq (slice_cmp nat_cmp q e.0)) (Some v) (field_at q es) ≡ cond (is_eq (slice_cmp nat_cmp q x)) (Some v) (field_at q (e ∷ es)))
        (sym (exact_bytes k e.0 s)) (chosen-twice (is_eq (slice_cmp nat_cmp q e.0)) (Some v) (Some e.1) (field_at q es))
    by_order order.Greater s rest =
        ap (λ (x : Option (Option (List ℕ))). cond (is_eq (slice_cmp nat_cmp q e.0)) (Some e.1) x) rest
        ∙ chosen-apart (is_eq (slice_cmp nat_cmp q k)) (is_eq (slice_cmp nat_cmp q e.0)) (Some v) (Some e.1) (field_at q es)
        (λ a b. (let f = sym (tied_itself nat_list_cmp_total k) ∙ ap (slice_cmp nat_cmp k) (sym (exact_bytes q k (equal-cmp _ a)) ∙ exact_bytes q e.0 (equal-cmp _ b)) ∙ s in cc))

-- the text of a value, or else what stood before
abbrev newest : Option Json → Option (Option (List ℕ)) → Option (Option (List ℕ))
newest None old = old
newest (Some j) old = Some (canonical j)

newest-of : (o : Option Json) (b : Bool) (j : Json) (old : Option (Option (List ℕ))) → newest o (cond b (Some (canonical j)) old) ≡ newest (or_else o (cond b (Some j) None)) old
newest-of (Some i) b j old = refl
newest-of None true j old = refl
newest-of None false j old = refl

field-by-name : (q : List ℕ) (js : Parts) (sorted : List Field) → field_at q (by_name sorted (fields js)) ≡ newest (last_named q (list_of js)) (field_at q sorted)
field-by-name q no_parts sorted = refl
field-by-name q (part k no_parts) sorted = refl
field-by-name q (part k (part v js)) sorted =
    field-by-name q js (insert_entry (slice_cmp nat_cmp) sorted (text_of k) (canonical v))
    ∙ ap (newest (last_named q (list_of js))) (field-inserted q (text_of k) (canonical v) sorted ∙ ap (λ (b : Bool). cond b (Some (canonical v)) (field_at q sorted)) (by-cmp q (text_of k)))
    ∙ newest-of (last_named q (list_of js)) (bytes_eq (text_of k) q) v (field_at q sorted)

newest-alone : (o : Option Json) → newest o None ≡ option_map canonical o
newest-alone None = refl
newest-alone (Some j) = refl

field-of : (q : List ℕ) (js : Parts) → field_at q (by_name [] (fields js)) ≡ option_map canonical (last_named q (list_of js))
field-of q js = field-by-name q js [] ∙ newest-alone (last_named q (list_of js))

-- ---- names in order

above : (a k : List ℕ) (v : Option (List ℕ)) (es : List Field) → slice_cmp nat_cmp a k ≡ order.Less → AllByRecursion (λ y. slice_cmp nat_cmp a y ≡ order.Less) (keys_of es)
    → AllByRecursion (λ y. slice_cmp nat_cmp a y ≡ order.Less) (keys_of (insert_entry (slice_cmp nat_cmp) es k v))
above a k v [] h all = (h, tt)
above a k v (e ∷ es) h all = by_order (slice_cmp nat_cmp k e.0) (above a k v es h all.1)
  where
    by_order : (o : Ordering) → AllByRecursion (λ y. slice_cmp nat_cmp a y ≡ order.Less) (keys_of (insert_entry (slice_cmp nat_cmp) es k v))
        → AllByRecursion (λ y. slice_cmp nat_cmp a y ≡ order.Less) (keys_of (match_ordering o ((k, v) ∷ e ∷ es) ((e.0, v) ∷ es) (e ∷ insert_entry (slice_cmp nat_cmp) es k v)))
    by_order order.Less rest = (h, all)
    by_order order.Equal rest = all
    by_order order.Greater rest = (all.0, rest)

lower : (a b : List ℕ) (ks : List (List ℕ)) → slice_cmp nat_cmp a b ≡ order.Less → AllByRecursion (λ y. slice_cmp nat_cmp b y ≡ order.Less) ks → AllByRecursion (λ y. slice_cmp nat_cmp a y ≡ order.Less) ks
lower a b [] h all = tt
lower a b (k ∷ ks) h all = (nat_list_cmp_total.trans a b k h all.0, lower a b ks h all.1)

sorted-inserted : (es : List Field) (k : List ℕ) (v : Option (List ℕ)) → IsStrictlySortedBy (slice_cmp nat_cmp) (keys_of es) → IsStrictlySortedBy (slice_cmp nat_cmp) (keys_of (insert_entry (slice_cmp nat_cmp) es k v))
unfolding IsStrictlySortedBy
sorted-inserted [] k v s = (tt, tt)
sorted-inserted (e ∷ es) k v s = by_order (slice_cmp nat_cmp k e.0) refl (sorted-inserted es k v s.1)
  where
    by_order : (o : Ordering) → slice_cmp nat_cmp k e.0 ≡ o → IsStrictlySortedBy (slice_cmp nat_cmp) (keys_of (insert_entry (slice_cmp nat_cmp) es k v))
        → IsStrictlySortedBy (slice_cmp nat_cmp) (keys_of (match_ordering o ((k, v) ∷ e ∷ es) ((e.0, v) ∷ es) (e ∷ insert_entry (slice_cmp nat_cmp) es k v)))
    by_order order.Less p rest = ((p, lower k e.0 (keys_of es) p s.0), s)
    by_order order.Equal p rest = s
    by_order order.Greater p rest = (above e.0 k v es (nat_list_cmp_total.antisymm e.0 k ∙ ap ordering_reverse p) s.0, rest)

sorted-by-name : (ms sorted : List Field) → IsStrictlySortedBy (slice_cmp nat_cmp) (keys_of sorted) → IsStrictlySortedBy (slice_cmp nat_cmp) (keys_of (by_name sorted ms))
sorted-by-name [] sorted s = s
sorted-by-name (m ∷ ms) sorted s = sorted-by-name ms (insert_entry (slice_cmp nat_cmp) sorted m.0 m.1) (sorted-inserted sorted m.0 m.1 s)

none-sorted : IsStrictlySortedBy (slice_cmp nat_cmp) []
unfolding IsStrictlySortedBy
none-sorted = tt

-- the first field has its name
first-field : (e : Field) (es : List Field) → field_at e.0 (e ∷ es) ≡ Some e.1
first-field e es = ap (λ (o : Ordering). cond (is_eq o) (Some e.1) (field_at e.0 es)) (tied_itself nat_list_cmp_total e.0)

other-field : (q : List ℕ) (e : Field) (es : List Field) → is_eq (slice_cmp nat_cmp q e.0) ≡ false → field_at q (e ∷ es) ≡ field_at q es
other-field q e es h = ap (λ (b : Bool). cond b (Some e.1) (field_at q es)) h

no-field : (q : List ℕ) (es : List Field) → AllByRecursion (λ y. slice_cmp nat_cmp q y ≡ order.Less) (keys_of es) → field_at q es ≡ None
no-field q [] h = refl
no-field q (e ∷ es) h = other-field q e es (ap is_eq h.0) ∙ no-field q es h.1

-- fields in order are the same where each name has the same
same-sorted : (es fs : List Field) → IsStrictlySortedBy (slice_cmp nat_cmp) (keys_of es) → IsStrictlySortedBy (slice_cmp nat_cmp) (keys_of fs)
    → ((q : List ℕ) → field_at q es ≡ field_at q fs) → es ≡ fs
unfolding IsStrictlySortedBy
same-sorted [] [] s t h = refl
same-sorted [] (f ∷ fs) s t h = absurd (let e = h f.0 ∙ first-field f fs in cc)
same-sorted (e ∷ es) [] s t h = absurd (let g = sym (h e.0) ∙ first-field e es in cc)
same-sorted (e ∷ es) (f ∷ fs) s t h = by_order (slice_cmp nat_cmp e.0 f.0) refl (same-sorted es fs s.1 t.1)
  where
    by_order : (o : Ordering) → slice_cmp nat_cmp e.0 f.0 ≡ o → (((q : List ℕ) → field_at q es ≡ field_at q fs) → es ≡ fs) → e ∷ es ≡ f ∷ fs
    by_order order.Less p rest = absurd (
        let g = sym (first-field e es) ∙ h e.0 ∙ no-field e.0 (f ∷ fs) (p, lower e.0 f.0 (keys_of fs) p t.0) in cc)
    by_order order.Greater p rest = absurd (
        let n : slice_cmp nat_cmp f.0 e.0 ≡ order.Less = nat_list_cmp_total.antisymm f.0 e.0 ∙ ap ordering_reverse p in
        let g = sym (first-field f fs) ∙ sym (h f.0) ∙ no-field f.0 (e ∷ es) (n, lower f.0 e.0 (keys_of es) n s.0) in cc)
    by_order order.Equal p rest =
        let name = exact_bytes e.0 f.0 p in
        let value : e.1 ≡ f.1 = let g = sym (first-field e es) ∙ h e.0 ∙ ap (λ (x : List ℕ). field_at x (f ∷ fs)) name ∙ first-field f fs in same_Some _ _ g in
        let tails = rest (λ q. same_tail q name (decide (is_eq (slice_cmp nat_cmp q e.0)))) in
        ap (λ (x : List ℕ). (x, e.1) ∷ es) name ∙ ap (λ (x : Option (List ℕ)). (f.0, x) ∷ es) value ∙ ap (λ (x : List Field). f ∷ x) tails
      where
        same_tail : (q : List ℕ) → e.0 ≡ f.0 → (is_eq (slice_cmp nat_cmp q e.0) ≡ true) ⊎ (is_eq (slice_cmp nat_cmp q e.0) ≡ false) → field_at q es ≡ field_at q fs
        same_tail q name (inl here) =
            let n : e.0 ≡ q = sym (exact_bytes q e.0 (equal-cmp _ here)) in
            no-field q es (subst (λ (x : List ℕ). AllByRecursion (λ y. slice_cmp nat_cmp x y ≡ order.Less) (keys_of es)) n s.0)
            ∙ sym (no-field q fs (subst (λ (x : List ℕ). AllByRecursion (λ y. slice_cmp nat_cmp x y ≡ order.Less) (keys_of fs)) (sym name ∙ n) t.0))
        same_tail q name (inr apart) =
            sym (other-field q e es apart) ∙ h q
            ∙ other-field q f fs (ap (λ (x : List ℕ). is_eq (slice_cmp nat_cmp q x)) (sym name) ∙ apart)

same-fields : (js ks : Parts) → ((q : List ℕ) → option_map canonical (last_named q (list_of js)) ≡ option_map canonical (last_named q (list_of ks))) → by_name [] (fields js) ≡ by_name [] (fields ks)
same-fields js ks h =
    same-sorted (by_name [] (fields js)) (by_name [] (fields ks)) (sorted-by-name (fields js) [] none-sorted) (sorted-by-name (fields ks) [] none-sorted)
    (λ q. field-of q js ∙ h q ∙ sym (field-of q ks))

-- ---- each field has a text

abbrev HasText : Option (List ℕ) → Type 0
HasText o = (v : List ℕ) × (o ≡ Some v)

fields-known : (es : List Field) (v : List ℕ) → list_text (map field_text es) ≡ Some v → AllByRecursion (λ m. HasText m.1) es
fields-known [] v e = tt
fields-known (m ∷ ms) v e =
    let l = listed-parts (field_text m) (list_text (map field_text ms)) v e in
    let f = field-parts m l.head l.first in
    ((f.0, f.1), fields-known ms l.tail l.others)

found-known : (q : List ℕ) (es : List Field) → AllByRecursion (λ m. HasText m.1) es → IfSome (field_at q es) HasText
found-known q [] h = tt
found-known q (e ∷ es) h = by_test (is_eq (slice_cmp nat_cmp q e.0)) (found-known q es h.1)
  where
    by_test : (b : Bool) → IfSome (field_at q es) HasText → IfSome (cond b (Some e.1) (field_at q es)) HasText
    by_test true rest = h.0
    by_test false rest = rest

-- ---- from equal texts to equal values

abbrev IsTold : Json → Type 0
IsTold j = (k : Json) (v : List ℕ) → canonical j ≡ Some v → canonical k ≡ Some v → AreEqual j k

equal-members : (o p : Option Json) → IfSome o IsTold → option_map canonical o ≡ option_map canonical p → IfSome (option_map canonical o) HasText → AreEqualMembers o p
equal-members None None told e known = missing
equal-members None (Some k) told e known = absurd (cc)
equal-members (Some j) None told e known = absurd (cc)
equal-members (Some j) (Some k) told e known = found j k (told k known.0 known.1 (sym (same_Some _ _ e) ∙ known.1))

same-inside : (v w : List ℕ) (first last : ℕ) → first ∷ v ++ last ∷ [] ≡ first ∷ w ++ last ∷ [] → v ≡ w
same-inside v w first last e = append_cancel_right v w (last ∷ []) (ap (drop 1) e)

equal-objects : (w x : List ℕ) (js ks : Parts) (v : List ℕ) → ((name : List ℕ) → IfSome (last_named name (list_of js)) IsTold)
    → canonical (object w js) ≡ Some v → canonical (object x ks) ≡ Some v → AreEqual (object w js) (object x ks)
equal-objects w x js ks v told e f =
    let es = by_name [] (fields js) in
    let fs = by_name [] (fields ks) in
    let a = bracketed-parts 0x7b 0x7d (list_text (map field_text es)) v e in
    let b = bracketed-parts 0x7b 0x7d (list_text (map field_text fs)) v f in
    let inner : a.0 ≡ b.0 = same-inside a.0 b.0 0x7b 0x7d (sym a.2 ∙ b.2) in
    let same = equal-fields es fs a.0 (fields-pass es (all-by-name PassesIf (fields js) [] (values-pass js) tt)) (fields-pass fs (all-by-name PassesIf (fields ks) [] (values-pass ks) tt))
    a.1 (b.1 ∙ ap (λ (z : List ℕ). Some z) (sym inner)) in
    objects w x js ks (λ name.
    equal-members (last_named name (list_of js)) (last_named name (list_of ks)) (told name) (sym (field-of name js) ∙ ap (field_at name) same ∙ field-of name ks)
    (subst (λ (o : Option (Option (List ℕ))). IfSome o HasText) (field-of name js) (found-known name es (fields-known es a.0 a.1))))

last-told : (o : Option Json) (b : Bool) (j : Json) → IfSome o IsTold → IsTold j → IfSome (or_else o (cond b (Some j) None)) IsTold
last-told (Some i) b j h k = h
last-told None true j h k = k
last-told None false j h k = tt

mutual
  told : (j : Json) → IsTold j
  told null null v e f = nulls
  told (boolean a) (boolean b) v e f = equal-booleans a b v e f
  told (number w) (number x) v e f = equal-numbers w x v (units_of w) (units_of x) refl refl e f
  told (text w) (text x) v e f = texts w x (same-text (unescaped w) (unescaped x) (same_Some _ _ (e ∙ sym f)))
  told (array w js) (array x ks) v e f =
      let a = bracketed-parts 0x5b 0x5d (list_text (item_texts js)) v e in
      let b = bracketed-parts 0x5b 0x5d (list_text (item_texts ks)) v f in
      let inner : a.0 ≡ b.0 = same-inside a.0 b.0 0x5b 0x5d (sym a.2 ∙ b.2) in
      lists w x js ks (told-items js ks a.0 a.1 (b.1 ∙ ap (λ (z : List ℕ). Some z) (sym inner)))
  told (object w js) (object x ks) v e f = equal-objects w x js ks v (λ name. told-last js name) e f
  told j k v e f = absurd (let s : kind_of j ≡ kind_of k = sym (text-kind j v e) ∙ text-kind k v f in cc)

  told-items : (js ks : Parts) (v : List ℕ) → list_text (item_texts js) ≡ Some v → list_text (item_texts ks) ≡ Some v → AreEqualItems js ks
  told-items no_parts no_parts v e f = no_items
  told-items no_parts (part k ks) v e f =
      let b = listed-parts (canonical k) (list_text (item_texts ks)) v f in
      absurd (not-empty b.head b.tail 0x2c (same_Some _ _ e ∙ b.joined))
  told-items (part j js) no_parts v e f =
      let a = listed-parts (canonical j) (list_text (item_texts js)) v e in
      absurd (not-empty a.head a.tail 0x2c (same_Some _ _ f ∙ a.joined))
  told-items (part j js) (part k ks) v e f =
      let a = listed-parts (canonical j) (list_text (item_texts js)) v e in
      let b = listed-parts (canonical k) (list_text (item_texts ks)) v f in
      let both = parted a.head b.head a.tail b.tail (passes j a.head a.first) (passes k b.head b.first) (sym a.joined ∙ b.joined) in
      item j k js ks (told j k a.head a.first (b.first ∙ ap (λ (z : List ℕ). Some z) (sym both.0)))
      (told-items js ks a.tail a.others (b.others ∙ ap (λ (z : List ℕ). Some z) (sym both.1)))

  told-last : (js : Parts) (name : List ℕ) → IfSome (last_named name (list_of js)) IsTold
  told-last no_parts name = tt
  told-last (part k no_parts) name = tt
  told-last (part k (part v js)) name = last-told (last_named name (list_of js)) (bytes_eq (text_of k) name) v (told-last js name) (told v)

-- ---- from equal values to equal texts

mutual
  equal-text : (j k : Json) → AreEqual j k → canonical j ≡ canonical k
  equal-text j k nulls = refl
  equal-text j k (booleans b) = refl
  equal-text j k (numbers v w u p q) = ap number_text (p ∙ sym q)
  equal-text j k (texts v w p) = ap (λ (t : List ℕ). Some (quoted t)) p
  equal-text j k (lists v w js ks h) = ap (λ (os : List (Option (List ℕ))). bracketed 0x5b 0x5d (list_text os)) (equal-items js ks h)
  equal-text j k (objects v w js ks h) =
      ap (λ (es : List Field). bracketed 0x7b 0x7d (list_text (map field_text es)))
      (same-fields js ks (λ q. equal-found (last_named q (list_of js)) (last_named q (list_of ks)) (h q)))

  equal-items : (js ks : Parts) → AreEqualItems js ks → item_texts js ≡ item_texts ks
  equal-items js ks no_items = refl
  equal-items js ks (item j k ms ns e h) =
      ap (λ (o : Option (List ℕ)). o ∷ item_texts ms) (equal-text j k e) ∙ ap (λ (os : List (Option (List ℕ))). canonical k ∷ os) (equal-items ms ns h)

  equal-found : (o p : Option Json) → AreEqualMembers o p → option_map canonical o ≡ option_map canonical p
  equal-found o p missing = refl
  equal-found o p (found j k e) = ap (λ (x : Option (List ℕ)). Some x) (equal-text j k e)

pub same-texts : (a b : Json) (v w : List ℕ) → canonical a ≡ Some v → canonical b ≡ Some w → (v ≡ w) ↔ AreEqual a b
same-texts a b v w e f =
    (λ h. told a b v e (f ∙ ap (λ (z : List ℕ). Some z) (sym h)), λ h. same_Some _ _ (sym e ∙ equal-text a b h ∙ f))

-- ---- equal values have texts

listed-known : (os : List (Option (List ℕ))) → AllByRecursion HasText os → HasText (list_text os)
listed-known [] h = ([], refl)
listed-known (o ∷ os) h = let rest = listed-known os h.1 in (h.0.0 ++ 0x2c ∷ rest.0, ap (λ (x : Option (List ℕ)). listed x (list_text os)) h.0.1 ∙ ap (listed (Some h.0.0)) rest.1)

bracketed-known : (first last : ℕ) (o : Option (List ℕ)) → HasText o → HasText (bracketed first last o)
bracketed-known first last o h = (first ∷ h.0 ++ last ∷ [], ap (bracketed first last) h.1)

field-texts : (es : List Field) → AllByRecursion (λ m. HasText m.1) es → AllByRecursion HasText (map field_text es)
field-texts [] h = tt
field-texts (m ∷ ms) h = ((quoted m.0 ++ 0x3a ∷ h.0.0, ap (option_map (λ v. quoted m.0 ++ 0x3a ∷ v)) h.0.1), field-texts ms h.1)

-- what is known of each name's field is known of each field
fields-found : (es : List Field) → IsStrictlySortedBy (slice_cmp nat_cmp) (keys_of es) → ((q : List ℕ) → IfSome (field_at q es) HasText) → AllByRecursion (λ m. HasText m.1) es
unfolding IsStrictlySortedBy
fields-found [] s h = tt
fields-found (e ∷ es) s h =
    (subst (λ (o : Option (Option (List ℕ))). IfSome o HasText) (first-field e es) (h e.0), fields-found es s.1 (λ q. in_tail q (decide (is_eq (slice_cmp nat_cmp q e.0)))))
  where
    in_tail : (q : List ℕ) → (is_eq (slice_cmp nat_cmp q e.0) ≡ true) ⊎ (is_eq (slice_cmp nat_cmp q e.0) ≡ false) → IfSome (field_at q es) HasText
    in_tail q (inl here) =
        let n : e.0 ≡ q = sym (exact_bytes q e.0 (equal-cmp _ here)) in
        subst (λ (o : Option (Option (List ℕ))). IfSome o HasText)
        (sym (no-field q es (subst (λ (x : List ℕ). AllByRecursion (λ y. slice_cmp nat_cmp x y ≡ order.Less) (keys_of es)) n s.0))) tt
    in_tail q (inr apart) = subst (λ (o : Option (Option (List ℕ))). IfSome o HasText) (other-field q e es apart) (h q)

object-known : (w : List ℕ) (js : Parts) → ((q : List ℕ) → IfSome (option_map canonical (last_named q (list_of js))) HasText) → HasText (canonical (object w js))
object-known w js h =
    let es = by_name [] (fields js) in
    bracketed-known 0x7b 0x7d (list_text (map field_text es)) (listed-known (map field_text es) (field-texts es
    (fields-found es (sorted-by-name (fields js) [] none-sorted) (λ q. subst (λ (o : Option (Option (List ℕ))). IfSome o HasText) (sym (field-of q js)) (h q)))))

mutual
  has-text : (j k : Json) → AreEqual j k → HasText (canonical j)
  has-text j k nulls = (codes "null", refl)
  has-text j k (booleans true) = (codes "true", refl)
  has-text j k (booleans false) = (codes "false", refl)
  has-text j k (numbers v w u p q) = (units_text u, ap number_text p)
  has-text j k (texts v w p) = (quoted (unescaped v), refl)
  has-text j k (lists v w js ks h) = bracketed-known 0x5b 0x5d (list_text (item_texts js)) (listed-known (item_texts js) (have-texts js ks h))
  has-text j k (objects v w js ks h) = object-known v js (λ q. has-found (last_named q (list_of js)) (last_named q (list_of ks)) (h q))

  have-texts : (js ks : Parts) → AreEqualItems js ks → AllByRecursion HasText (item_texts js)
  have-texts js ks no_items = tt
  have-texts js ks (item j k ms ns e h) = (has-text j k e, have-texts ms ns h)

  has-found : (o p : Option Json) → AreEqualMembers o p → IfSome (option_map canonical o) HasText
  has-found o p missing = tt
  has-found o p (found j k e) = has-text j k e

-- ---- the comparison

compared-equal : (o p : Option (List ℕ)) → compared o p ≡ comparison.Equal → (v : List ℕ) × (o ≡ Some v) × (p ≡ Some v)
compared-equal None p e = absurd (cc)
compared-equal (Some v) None e = absurd (cc)
compared-equal (Some v) (Some w) e = by_test (bytes_eq v w) refl e
  where
    by_test : (b : Bool) → bytes_eq v w ≡ b → cond b comparison.Equal comparison.Unequal ≡ comparison.Equal → (x : List ℕ) × (Some v ≡ Some x) × (Some w ≡ Some x)
    by_test true s f = (v, refl, ap (λ (x : List ℕ). Some x) (sym (bytes_same v w s)))
    by_test false s f = absurd (cc)

equal-compared : (v : List ℕ) (o p : Option (List ℕ)) → o ≡ Some v → p ≡ Some v → compared o p ≡ comparison.Equal
equal-compared v o p e f =
    ap (λ (x : Option (List ℕ)). compared x p) e ∙ ap (compared (Some v)) f ∙ ap (λ (b : Bool). cond b comparison.Equal comparison.Unequal) (bytes_self v)

pub compared-by-parts : (a b : Json) → (compare_values a b ≡ comparison.Equal) ↔ AreEqual a b
compared-by-parts a b = (
  λ h. (let t = compared-equal (canonical a) (canonical b) h in told a b t.0 t.1 t.2),
  λ h. (let t = has-text a b h in equal-compared t.0 (canonical a) (canonical b) t.1 (sym (equal-text a b h) ∙ t.1)),
)
