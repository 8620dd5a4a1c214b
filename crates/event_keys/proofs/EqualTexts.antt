-- A value that is equal to a null, a boolean, a number or a text has the same text.
use Rattle.std.proofs.Common.{◌≡◌, ℕ, ℤ, Bool, true, false, List, Some, Ok, Err, refl, sym, ap, ◌∙◌, subst}
use Rattle.std.specs.Prelude.{Result, ◌||◌, ◌&&◌, cond}
use Rattle.std.proofs.lemmas.Bool.Decides.{Decides-int_eq}
use Rattle.std.proofs.lemmas.Slice.Eq.{bytes_eq-Decides}
use Rattle.expr.specs.declared.term.Operator.TheVariants as operator
use Rattle.json_text.specs.Grammar.{Json}
use Rattle.json_text.specs.Grammar as json
use Rattle.cel_eval.specs.Data as datum
use Rattle.cel_eval.specs.Data.{Datum, Outcome, of_json, as_number, units_within, seen}
use Rattle.cel_eval.specs.Equality.{equal, is_boolean, is_json, is_null, is_string, is_units, same_bool}
use Rattle.cel_eval.specs.Operations.{are_nested, if_fit, is_list, is_object, operate}
use Rattle.cel_eval.specs.Table.{both}
use Rattle.cel_eval.specs.declared.fault.EvalFault.{EvalFault}
use Rattle.text_num.specs.Units.{units_of}
use Rattle.event_keys.specs.Buckets.{key_text}
use Rattle.event_keys.proofs.PathLemmas.{number_object}

-- ---- equal values have one text

written_list : (r : Result ℤ EvalFault) (j : Json) → as_number r ≡ Ok (datum.list j) → ⊥
written_list (Ok n) j h = cc
written_list (Err e) j h = cc

no_list : (m j : Json) (e : Datum) (v : List ℕ) → of_json m ≡ Ok (datum.list j) → is_json e j ≡ true → key_text (Ok (seen e)) ≡ Some v → ⊥
no_list m j e v h s k = by_kind m h
  where
    array_is : (w : List ℕ) (js : json.Parts) (e : Datum) → is_json e (json.array w js) ≡ true → key_text (Ok (seen e)) ≡ Some v → ⊥
    array_is w js datum.null s k = cc
    array_is w js (datum.boolean b) s k = cc
    array_is w js (datum.number n) s k = cc
    array_is w js (datum.text t) s k = cc
    array_is w js (datum.list l) s k = cc
    array_is w js (datum.object l) s k = cc
    array_is w js (datum.written ds) s k = cc

    by_kind : (m : Json) → of_json m ≡ Ok (datum.list j) → ⊥
    by_kind json.null h = cc
    by_kind (json.boolean b) h = cc
    by_kind (json.number w) h = written_list (units_within (units_of (json.spelling (json.number w)))) j h
    by_kind (json.text w) h = cc
    by_kind (json.array w js) h = array_is w js e (subst (λ (x : Json). is_json e x ≡ true) (let same : j ≡ json.array w js = cc in same) s) k
    by_kind (json.object w js) h = cc

no_object : (m j : Json) (e : Datum) (v : List ℕ) → of_json m ≡ Ok (datum.object j) → is_json e j ≡ true → key_text (Ok (seen e)) ≡ Some v → ⊥
no_object m j e v h s k = by_kind m h
  where
    object_is : (w : List ℕ) (js : json.Parts) (e : Datum) → is_json e (json.object w js) ≡ true → key_text (Ok (seen e)) ≡ Some v → ⊥
    object_is w js datum.null s k = cc
    object_is w js (datum.boolean b) s k = cc
    object_is w js (datum.number n) s k = cc
    object_is w js (datum.text t) s k = cc
    object_is w js (datum.list l) s k = cc
    object_is w js (datum.object l) s k = cc
    object_is w js (datum.written ds) s k = cc

    by_kind : (m : Json) → of_json m ≡ Ok (datum.object j) → ⊥
    by_kind json.null h = cc
    by_kind (json.boolean b) h = cc
    by_kind (json.number w) h = number_object (units_within (units_of (json.spelling (json.number w)))) j h
    by_kind (json.text w) h = cc
    by_kind (json.array w js) h = cc
    by_kind (json.object w js) h = object_is w js e (subst (λ (x : Json). is_json e x ≡ true) (let same : j ≡ json.object w js = cc in same) s) k

-- ---- what is equal to a null, a boolean, a number or a text

is_null_of : (d : Datum) → is_null d ≡ true → d ≡ datum.null
is_null_of datum.null h = refl
is_null_of (datum.boolean b) h = cc
is_null_of (datum.number n) h = cc
is_null_of (datum.text t) h = cc
is_null_of (datum.list j) h = cc
is_null_of (datum.object j) h = cc
is_null_of (datum.written ds) h = cc

same_truth : (b c : Bool) → same_bool b c ≡ true → b ≡ c
same_truth true c h = sym h
same_truth false false h = refl
same_truth false true h = cc

is_boolean_of : (b : Bool) (d : Datum) → is_boolean b d ≡ true → d ≡ datum.boolean b
is_boolean_of b (datum.boolean c) h = ap (λ (x : Bool). datum.boolean x) (sym (same_truth b c h))
is_boolean_of b datum.null h = cc
is_boolean_of b (datum.number n) h = cc
is_boolean_of b (datum.text t) h = cc
is_boolean_of b (datum.list j) h = cc
is_boolean_of b (datum.object j) h = cc
is_boolean_of b (datum.written ds) h = cc

is_number_of : (n : ℤ) (d : Datum) → is_units n d ≡ true → d ≡ datum.number n
is_number_of n (datum.number m) h = ap (λ (x : ℤ). datum.number x) (sym ((Decides-int_eq n m).0 h))
is_number_of n datum.null h = cc
is_number_of n (datum.boolean b) h = cc
is_number_of n (datum.text t) h = cc
is_number_of n (datum.list j) h = cc
is_number_of n (datum.object j) h = cc
is_number_of n (datum.written ds) h = cc

is_text_of : (t : List ℕ) (d : Datum) → is_string t d ≡ true → d ≡ datum.text t
is_text_of t (datum.text u) h = ap (λ (x : List ℕ). datum.text x) (sym ((bytes_eq-Decides t u).0 h))
is_text_of t datum.null h = cc
is_text_of t (datum.boolean b) h = cc
is_text_of t (datum.number n) h = cc
is_text_of t (datum.list j) h = cc
is_text_of t (datum.object j) h = cc
is_text_of t (datum.written ds) h = cc

pub text_right : (d e : Datum) (v : List ℕ) → equal e d ≡ true → key_text (Ok (seen e)) ≡ Some v → key_text (Ok (seen d)) ≡ Some v
text_right d datum.null v s k = rw (is_null_of d s) k
text_right d (datum.boolean b) v s k = rw (is_boolean_of b d s) k
text_right d (datum.number n) v s k = rw (is_number_of n d s) k
text_right d (datum.text t) v s k = rw (is_text_of t d s) k
text_right d (datum.list j) v s k = cc
text_right d (datum.object j) v s k = cc
text_right d (datum.written ds) v s k = cc

-- the same where the other stands on the right, and the first is a value of an event's text
pub text_left : (m : Json) (d e : Datum) (v : List ℕ) → of_json m ≡ Ok d → equal d e ≡ true → key_text (Ok (seen e)) ≡ Some v → key_text (Ok (seen d)) ≡ Some v
text_left m (datum.list j) e v h s k = absurd (no_list m j e v h s k)
text_left m (datum.object j) e v h s k = absurd (no_object m j e v h s k)
text_left m datum.null e v h s k = rw (is_null_of e s) at k
text_left m (datum.boolean b) e v h s k = rw (is_boolean_of b e s) at k
text_left m (datum.number n) e v h s k = rw (is_number_of n e s) at k
text_left m (datum.text t) e v h s k = rw (is_text_of t e s) at k
text_left m (datum.written ds) datum.null v h s k = cc
text_left m (datum.written ds) (datum.boolean b) v h s k = cc
text_left m (datum.written ds) (datum.number n) v h s k = cc
text_left m (datum.written ds) (datum.text t) v h s k = cc
text_left m (datum.written ds) (datum.list j) v h s k = cc
text_left m (datum.written ds) (datum.object j) v h s k = cc
text_left m (datum.written ds) (datum.written es) v h s k = cc

-- ---- the operator `==`

pub unnested : (d e : Datum) → are_nested d e ≡ false → operate operator.Equal d e ≡ Ok (datum.boolean true) → equal d e ≡ true
unnested d e n h =
    let same : Ok (datum.boolean (equal d e)) ≡ Ok (datum.boolean true) = sym (ap (λ (b : Bool). cond b (if_fit d e (equal d e)) (Ok (datum.boolean (equal d e)))) n) ∙ h in
    cc

-- with a value that has a text there is nothing to look into
apart : (a b : Bool) → ((a && false) || (b && false)) ≡ false
apart true true = refl
apart true false = refl
apart false true = refl
apart false false = refl

pub apart_left : (d e : Datum) (v : List ℕ) → key_text (Ok (seen e)) ≡ Some v → are_nested d e ≡ false
apart_left d datum.null v k = apart (is_list d) (is_object d)
apart_left d (datum.boolean b) v k = apart (is_list d) (is_object d)
apart_left d (datum.number n) v k = apart (is_list d) (is_object d)
apart_left d (datum.text t) v k = apart (is_list d) (is_object d)
apart_left d (datum.list j) v k = cc
apart_left d (datum.object j) v k = cc
apart_left d (datum.written ds) v k = cc

pub apart_right : (d e : Datum) (v : List ℕ) → key_text (Ok (seen e)) ≡ Some v → are_nested e d ≡ false
apart_right d datum.null v k = refl
apart_right d (datum.boolean b) v k = refl
apart_right d (datum.number n) v k = refl
apart_right d (datum.text t) v k = refl
apart_right d (datum.list j) v k = cc
apart_right d (datum.object j) v k = cc
apart_right d (datum.written ds) v k = cc

pub both_ok : (l r : Outcome) → both l r (operate operator.Equal) ≡ Ok (datum.boolean true) → (d : Datum) × (e : Datum) × (l ≡ Ok d) × (r ≡ Ok e) × (operate operator.Equal d e ≡ Ok (datum.boolean true))
both_ok (Ok d) (Ok e) h = (d, e, refl, refl, h)
both_ok (Ok d) (Err f) h = cc
both_ok (Err f) r h = cc
