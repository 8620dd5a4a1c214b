-- Where the text that a value has in common with its equals ends: at the first comma outside of brackets and
-- strings. So of two such texts, each before a comma, one is no longer than the other.
use Rattle.std.proofs.Common.{◌≡◌, ℕ, zero, suc, ◌<◌, ◌≤◌, Bool, true, false, cond, List, [], ◌∷◌, ◌++◌, refl, sym, ◌∙◌, ap, subst, append_assoc, arith, drop, inl, inr, Option, Some, None, Result, Ok, Err, ℤ}
use Rattle.std.proofs.lemmas.Bool.Decides.{nat_tests}
use Rattle.std.proofs.lemmas.List.{append_cancel_right}
use Rattle.std.proofs.lemmas.Option.{same_Some}
use Rattle.std.specs.Prelude.{◌==◌, codes, map, nat_lt, ◌/◌, ◌%◌, ◌^◌, unsigned_abs}
use Rattle.std.specs.Int.{is_negative}
use Rattle.std.specs.List.{AllByRecursion}
use Rattle.std.specs.Char.{is_ascii_digit}
use Rattle.std.specs.Cmp.Lexicographic.{slice_cmp}
use Rattle.std.specs.Ordering.{nat_cmp, match_ordering}
use Rattle.std.specs.declared.cmp.Ordering.{Ordering}
use Rattle.std.specs.declared.cmp.Ordering.TheVariants as order
use Rattle.std.specs.BTreeMap.{insert_entry}
use Rattle.json_text.proofs.Arms.{not-eq}
use Rattle.json_text.proofs.Booleans.{and_left, and_right}
use Rattle.json_text.proofs.ReadBack.{escape_of}
use Rattle.json_text.specs.Grammar.{Json, null, boolean, number, text, array, object, Parts, no_parts, part}
use Rattle.json_text.specs.Same.{Field, bracketed, by_name, canonical, field_text, fields, item_texts, list_text, listed, number_text}
use Rattle.json_text.specs.Text.{quoted, escaped, escaped_byte, hex_digit, unescaped}
use Rattle.text_num.specs.declared.fault.NumFault.{NumFault}
use Rattle.text_num.specs.Digits.{all_digits, fraction_text}
use Rattle.text_num.specs.JsonNumber.{sign_text}
use Rattle.text_num.proofs.ShortestText.{text_is_number}
use Rattle.text_num.specs.Units.{units_of, units_text, number_of_units, multiple_of, signed_multiple, signed, magnitude_of, digits_of, places_up, places_down}
use Rattle.text_num.proofs.MultipleLemmas.{multiple_small}
use Rattle.text_num.proofs.UnitsLemmas.{number_at, units_at, signed_abs}

-- ---- the bytes behind a text

-- Outside of strings, with so many brackets open; in a string, or behind its backslash. Behind a string that
-- stands alone nothing more is looked at.
pub data Place : Type 0 where
  outside : ℕ → Place
  quoting : Option ℕ → Place
  escaping : Option ℕ → Place

abbrev less : ℕ → ℕ
less zero = zero
less (suc d) = d

abbrev beyond : ℕ → ℕ → Place
beyond d b =
    cond (b == 0x22) (quoting (Some d))
    (cond (b == 0x5b) (outside (suc d)) (cond (b == 0x7b) (outside (suc d))
    (cond (b == 0x5d) (outside (less d)) (cond (b == 0x7d) (outside (less d)) (outside d)))))

abbrev pub past : Place → List ℕ → List ℕ
past p [] = []
past (outside zero) (b ∷ bs) = cond (b == 0x2c) bs (past (beyond zero b) bs)
past (outside (suc d)) (b ∷ bs) = past (beyond (suc d) b) bs
past (quoting None) (b ∷ bs) = cond (b == 0x22) bs (past (cond (b == 0x5c) (escaping None) (quoting None)) bs)
past (quoting (Some d)) (b ∷ bs) = past (cond (b == 0x22) (outside d) (cond (b == 0x5c) (escaping (Some d)) (quoting (Some d)))) bs
past (escaping o) (b ∷ bs) = past (quoting o) bs

-- the text ends where it began: with all its brackets and strings closed, and with no comma outside of them
abbrev pub Passes : List ℕ → Type 0
Passes v = (d : ℕ) (rest : List ℕ) → past (outside d) (v ++ rest) ≡ past (outside d) rest

-- before a comma, one such text is told from what follows
pub parted : (v w x y : List ℕ) → Passes v → Passes w → v ++ 0x2c ∷ x ≡ w ++ 0x2c ∷ y → (v ≡ w) × (x ≡ y)
parted v w x y p q e =
    let rest : x ≡ y = sym (p 0 (0x2c ∷ x)) ∙ ap (past (outside 0)) e ∙ q 0 (0x2c ∷ y) in
    (append_cancel_right v w (0x2c ∷ y) (ap (λ (z : List ℕ). v ++ 0x2c ∷ z) (sym rest) ∙ e), rest)

-- ---- numbers and words

abbrev pub is_numeric : ℕ → Type 0
is_numeric b = (0x2d ≤ b) × (b ≤ 0x39)

plain-step : (d b : ℕ) (rest : List ℕ) → is_numeric b → past (outside d) (b ∷ rest) ≡ past (outside d) rest
plain-step zero b rest h =
    rw (not-eq b 0x2c (λ e. omega arith), not-eq b 0x22 (λ e. omega arith), not-eq b 0x5b (λ e. omega arith), not-eq b 0x7b (λ e. omega arith), not-eq b 0x5d (λ e. omega arith), not-eq b 0x7d (λ e. omega arith)) refl
plain-step (suc d) b rest h =
    rw (not-eq b 0x22 (λ e. omega arith), not-eq b 0x5b (λ e. omega arith), not-eq b 0x7b (λ e. omega arith), not-eq b 0x5d (λ e. omega arith), not-eq b 0x7d (λ e. omega arith)) refl

numeric-passes : (w : List ℕ) → AllByRecursion is_numeric w → Passes w
numeric-passes [] h d rest = refl
numeric-passes (b ∷ bs) h d rest = plain-step d b (bs ++ rest) h.0 ∙ numeric-passes bs h.1 d rest

null-passes : Passes (codes "null")
null-passes zero rest = refl
null-passes (suc d) rest = refl

true-passes : Passes (codes "true")
true-passes zero rest = refl
true-passes (suc d) rest = refl

false-passes : Passes (codes "false")
false-passes zero rest = refl
false-passes (suc d) rest = refl

-- ---- strings

inner-step : (b : ℕ) (o : Option ℕ) (rest : List ℕ) → (b == 0x22) ≡ false → (b == 0x5c) ≡ false → past (quoting o) (b ∷ rest) ≡ past (quoting o) rest
inner-step b None rest h k = rw (h, k) refl
inner-step b (Some d) rest h k = rw (h, k) refl

hex-inside : (n : ℕ) → ((hex_digit n == 0x22) ≡ false) × ((hex_digit n == 0x5c) ≡ false)
hex-inside n = (grind (arith, nat_tests), grind (arith, nat_tests))

-- a control character
hexed : (n m : ℕ) (o : Option ℕ) (rest : List ℕ) → past (quoting o) (0x5c ∷ 0x75 ∷ 0x30 ∷ 0x30 ∷ hex_digit n ∷ hex_digit m ∷ rest) ≡ past (quoting o) rest
hexed n m None rest =
    inner-step (hex_digit n) None (hex_digit m ∷ rest) (hex-inside n).0 (hex-inside n).1 ∙ inner-step (hex_digit m) None rest (hex-inside m).0 (hex-inside m).1
hexed n m (Some d) rest =
    inner-step (hex_digit n) (Some d) (hex_digit m ∷ rest) (hex-inside n).0 (hex-inside n).1 ∙ inner-step (hex_digit m) (Some d) rest (hex-inside m).0 (hex-inside m).1

escape-passes : (c : ℕ) (o : Option ℕ) (rest : List ℕ) (q b s : Bool) → (c == 0x22) ≡ q → (c == 0x5c) ≡ b → nat_lt c 0x20 ≡ s
    → past (quoting o) (escape_of q b s c ++ rest) ≡ past (quoting o) rest
escape-passes c None rest true b s e f g = refl
escape-passes c (Some d) rest true b s e f g = refl
escape-passes c None rest false true s e f g = refl
escape-passes c (Some d) rest false true s e f g = refl
escape-passes c o rest false false true e f g = hexed (c / 16) (c % 16) o rest
escape-passes c o rest false false false e f g = inner-step c o rest e f

escaped-passes : (t : List ℕ) (o : Option ℕ) (rest : List ℕ) → past (quoting o) (escaped t ++ rest) ≡ past (quoting o) rest
escaped-passes [] o rest = refl
escaped-passes (b ∷ bs) o rest =
    ap (past (quoting o)) (append_assoc (escaped_byte b) (escaped bs) rest)
    ∙ escape-passes b o (escaped bs ++ rest) (b == 0x22) (b == 0x5c) (nat_lt b 0x20) refl refl refl
    ∙ escaped-passes bs o rest

-- the bytes behind a string that stands alone
string-end : (t : List ℕ) (rest : List ℕ) → past (quoting None) ((escaped t ++ 0x22 ∷ []) ++ rest) ≡ rest
string-end t rest = ap (past (quoting None)) (append_assoc (escaped t) (0x22 ∷ []) rest) ∙ escaped-passes t None (0x22 ∷ rest)

pub quoted-parted : (t u x y : List ℕ) → quoted t ++ x ≡ quoted u ++ y → (quoted t ≡ quoted u) × (x ≡ y)
quoted-parted t u x y e =
    let rest : x ≡ y = sym (string-end t x) ∙ ap (λ (z : List ℕ). past (quoting None) (drop 1 z)) e ∙ string-end u y in
    (append_cancel_right (quoted t) (quoted u) y (ap (λ (z : List ℕ). quoted t ++ z) (sym rest) ∙ e), rest)

inside-string : (d : ℕ) (t : List ℕ) (rest : List ℕ) → past (quoting (Some d)) ((escaped t ++ 0x22 ∷ []) ++ rest) ≡ past (outside d) rest
inside-string d t rest = ap (past (quoting (Some d))) (append_assoc (escaped t) (0x22 ∷ []) rest) ∙ escaped-passes t (Some d) (0x22 ∷ rest)

quoted-passes : (t : List ℕ) → Passes (quoted t)
quoted-passes t zero rest = inside-string 0 t rest
quoted-passes t (suc d) rest = inside-string (suc d) t rest

-- ---- lists and objects

-- the text is one that passes, where there is one
abbrev pub PassesIf : Option (List ℕ) → Type 0
PassesIf o = (v : List ℕ) → o ≡ Some v → Passes v

-- the first of the texts, and the others
pub record Listed (o rest : Option (List ℕ)) (v : List ℕ) : Type 0 where
  pub head : List ℕ
  pub tail : List ℕ
  pub first : o ≡ Some head
  pub others : rest ≡ Some tail
  pub joined : v ≡ head ++ 0x2c ∷ tail

pub listed-parts : (o rest : Option (List ℕ)) (v : List ℕ) → listed o rest ≡ Some v → Listed o rest v
listed-parts None rest v e = absurd (cc)
listed-parts (Some w) None v e = absurd (cc)
listed-parts (Some w) (Some x) v e = record { head = w; tail = x; first = refl; others = refl; joined = sym (same_Some _ _ e) }

list-passes : (os : List (Option (List ℕ))) (v : List ℕ) → AllByRecursion PassesIf os → list_text os ≡ Some v
    → (d : ℕ) (rest : List ℕ) → past (outside (suc d)) (v ++ rest) ≡ past (outside (suc d)) rest
list-passes [] v h e d rest = ap (λ (z : List ℕ). past (outside (suc d)) (z ++ rest)) (sym (same_Some _ _ e))
list-passes (o ∷ os) v h e d rest =
    let l = listed-parts o (list_text os) v e in
    ap (λ (z : List ℕ). past (outside (suc d)) (z ++ rest)) l.joined
    ∙ ap (past (outside (suc d))) (append_assoc l.head (0x2c ∷ l.tail) rest)
    ∙ h.0 l.head l.first (suc d) (0x2c ∷ l.tail ++ rest)
    ∙ list-passes os l.tail h.1 l.others d rest

-- what stands between the brackets
pub bracketed-parts : (first last : ℕ) (o : Option (List ℕ)) (v : List ℕ) → bracketed first last o ≡ Some v
    → (w : List ℕ) × (o ≡ Some w) × (v ≡ first ∷ w ++ last ∷ [])
bracketed-parts first last None v e = absurd (cc)
bracketed-parts first last (Some w) v e = (w, refl, sym (same_Some _ _ e))

bracketed-passes : (first last : ℕ) (os : List (Option (List ℕ))) (v : List ℕ) → AllByRecursion PassesIf os → bracketed first last (list_text os) ≡ Some v
    → ((d : ℕ) (rest : List ℕ) → past (outside d) (first ∷ rest) ≡ past (outside (suc d)) rest)
    → ((d : ℕ) (rest : List ℕ) → past (outside (suc d)) (last ∷ rest) ≡ past (outside d) rest) → Passes v
bracketed-passes first last os v h e opens closes d rest =
    let b = bracketed-parts first last (list_text os) v e in
    ap (λ (z : List ℕ). past (outside d) (z ++ rest)) b.2
    ∙ opens d ((b.0 ++ last ∷ []) ++ rest)
    ∙ ap (past (outside (suc d))) (append_assoc b.0 (last ∷ []) rest)
    ∙ list-passes os b.0 h b.1 d (last ∷ rest)
    ∙ closes d rest

opens-list : (d : ℕ) (rest : List ℕ) → past (outside d) (0x5b ∷ rest) ≡ past (outside (suc d)) rest
opens-list zero rest = refl
opens-list (suc d) rest = refl

opens-object : (d : ℕ) (rest : List ℕ) → past (outside d) (0x7b ∷ rest) ≡ past (outside (suc d)) rest
opens-object zero rest = refl
opens-object (suc d) rest = refl

-- what holds of each value holds of each when one more is put among them
pub all-inserted : {X : Type 0} (P : X → Type 0) (es : List (List ℕ × X)) (k : List ℕ) (v : X) → P v → AllByRecursion (λ e. P e.1) es → AllByRecursion (λ e. P e.1) (insert_entry (slice_cmp nat_cmp) es k v)
all-inserted {X} P [] k v i h = (i, tt)
all-inserted {X} P (e ∷ es) k v i h =
    let rest = all-inserted P es k v i h.1 in by_order rest (slice_cmp nat_cmp k e.0)
  where
    by_order : AllByRecursion (λ e. P e.1) (insert_entry (slice_cmp nat_cmp) es k v) → (o : Ordering)
        → AllByRecursion (λ e. P e.1) (match_ordering o ((k, v) ∷ e ∷ es) ((e.0, v) ∷ es) (e ∷ insert_entry (slice_cmp nat_cmp) es k v))
    by_order rest order.Less = (i, h)
    by_order rest order.Equal = (i, h.1)
    by_order rest order.Greater = (h.0, rest)

pub all-by-name : (P : Option (List ℕ) → Type 0) (ms sorted : List Field) → AllByRecursion (λ m. P m.1) ms → AllByRecursion (λ m. P m.1) sorted → AllByRecursion (λ m. P m.1) (by_name sorted ms)
all-by-name P [] sorted h k = k
all-by-name P (m ∷ ms) sorted h k = all-by-name P ms (insert_entry (slice_cmp nat_cmp) sorted m.0 m.1) h.1 (all-inserted P sorted m.0 m.1 h.0 k)

-- a field: its name, a colon and its value
pub field-parts : (m : Field) (v : List ℕ) → field_text m ≡ Some v → (w : List ℕ) × (m.1 ≡ Some w) × (v ≡ quoted m.0 ++ 0x3a ∷ w)
field-parts (k, None) v e = absurd (cc)
field-parts (k, Some w) v e = (w, refl, sym (same_Some _ _ e))

colon-step : (d : ℕ) (rest : List ℕ) → past (outside d) (0x3a ∷ rest) ≡ past (outside d) rest
colon-step zero rest = refl
colon-step (suc d) rest = refl

field-passes : (m : Field) → PassesIf m.1 → PassesIf (field_text m)
field-passes m h v e d rest =
    let f = field-parts m v e in
    ap (λ (z : List ℕ). past (outside d) (z ++ rest)) f.2
    ∙ ap (past (outside d)) (append_assoc (quoted m.0) (0x3a ∷ f.0) rest)
    ∙ quoted-passes m.0 d (0x3a ∷ f.0 ++ rest)
    ∙ colon-step d (f.0 ++ rest)
    ∙ h f.0 f.1 d rest

pub fields-pass : (ms : List Field) → AllByRecursion (λ m. PassesIf m.1) ms → AllByRecursion PassesIf (map field_text ms)
fields-pass [] h = tt
fields-pass (m ∷ ms) h = (field-passes m h.0, fields-pass ms h.1)

-- ---- the text of units

digits-numeric : (ds : List ℕ) → all_digits ds ≡ true → AllByRecursion is_numeric ds
digits-numeric [] h = tt
digits-numeric (d ∷ ds) h = (digit-numeric d (and_left (is_ascii_digit d) (all_digits ds) h), digits-numeric ds (and_right (is_ascii_digit d) (all_digits ds) h))
  where
    digit-numeric : (b : ℕ) → is_ascii_digit b ≡ true → is_numeric b
    digit-numeric b e = (grind (arith, nat_tests), grind (arith, nat_tests))

numeric-append : (v w : List ℕ) → AllByRecursion is_numeric v → AllByRecursion is_numeric w → AllByRecursion is_numeric (v ++ w)
numeric-append [] w h k = k
numeric-append (b ∷ bs) w h k = (h.0, numeric-append bs w h.1 k)

sign-numeric : (b : Bool) → AllByRecursion is_numeric (sign_text b)
sign-numeric true = ((omega arith, omega arith), tt)
sign-numeric false = tt

fraction-numeric : (ds : List ℕ) → AllByRecursion is_numeric ds → AllByRecursion is_numeric (fraction_text ds)
fraction-numeric [] h = tt
fraction-numeric (d ∷ ds) h = ((omega arith, omega arith), h)

pub units-numeric : (u : ℤ) → unsigned_abs u < 10 ^ 38 → AllByRecursion is_numeric (units_text u)
unfolding number_of_units
units-numeric u small =
    let n = text_is_number u small in
    subst (AllByRecursion is_numeric) (sym n.written)
    (numeric-append _ [] (numeric-append _ [] (numeric-append _ _ (numeric-append _ _ (sign-numeric (is_negative u)) (digits-numeric _ n.digits)) (fraction-numeric _ (digits-numeric _ n.fraction))) tt) tt)

small-of : (negative : Bool) (o : Option ℕ) (u : ℤ) (digits up down : ℕ) → o ≡ multiple_of digits up down → signed_multiple negative o ≡ Ok u → unsigned_abs u < 10 ^ 38
small-of negative None u digits up down e f = absurd (cc)
small-of negative (Some m) u digits up down e f =
    let same : signed negative m ≡ u = cc in
    let size : unsigned_abs u ≡ m = ap unsigned_abs (sym same) ∙ signed_abs negative m in
    let small = multiple_small digits up down m e in
    omega arith

-- units that are known are below 10^38
pub known-small : (w : List ℕ) (u : ℤ) → units_of w ≡ Ok u → unsigned_abs u < 10 ^ 38
known-small w u e = elim (number_at w (Ok u) (sym e)) [
  | inl bad ↦ absurd (cc)
  | inr n ↦ small-of n.0.negative (magnitude_of n.0) u (digits_of n.0) (places_up n.0) (places_down n.0) refl (sym (units_at w (Ok u) (sym e) n.0 n.1))
]

number-case : (r : Result ℤ NumFault) (v : List ℕ) → ((u : ℤ) → r ≡ Ok u → unsigned_abs u < 10 ^ 38) → number_text r ≡ Some v → Passes v
number-case (Ok u) v h e = subst Passes (same_Some _ _ e) (numeric-passes (units_text u) (units-numeric u (h u refl)))
number-case (Err f) v h e = absurd (cc)

-- ---- each value's text

mutual
  pub passes : (j : Json) → PassesIf (canonical j)
  passes null v e = subst Passes (same_Some _ _ e) null-passes
  passes (boolean true) v e = subst Passes (same_Some _ _ e) true-passes
  passes (boolean false) v e = subst Passes (same_Some _ _ e) false-passes
  passes (number w) v e = number-case (units_of w) v (λ u. known-small w u) e
  passes (text w) v e = subst Passes (same_Some _ _ e) (quoted-passes (unescaped w))
  passes (array w js) v e = bracketed-passes 0x5b 0x5d (item_texts js) v (items-pass js) e opens-list (λ d rest. refl)
  passes (object w js) v e =
      bracketed-passes 0x7b 0x7d (map field_text (by_name [] (fields js))) v
      (fields-pass (by_name [] (fields js)) (all-by-name PassesIf (fields js) [] (values-pass js) tt)) e opens-object (λ d rest. refl)

  pub items-pass : (js : Parts) → AllByRecursion PassesIf (item_texts js)
  items-pass no_parts = tt
  items-pass (part j js) = (passes j, items-pass js)

  pub values-pass : (js : Parts) → AllByRecursion (λ m. PassesIf m.1) (fields js)
  values-pass no_parts = tt
  values-pass (part k no_parts) = tt
  values-pass (part k (part v js)) = (passes v, values-pass js)
