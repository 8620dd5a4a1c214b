-- One more item of a list that a loop goes over.
use Rattle.std.proofs.Common.{◌≡◌, ℕ, zero, suc, ◌+◌, ◌<◌, ◌≤◌, Bool, true, false, List, [], ◌∷◌, length, get_or, drop, map, Option, Some, None, refl, sym, ap, ◌∙◌, arith, add-one}
use Rattle.std.specs.Prelude.{slice_get}
use Rattle.std.proofs.lemmas.Option.{slice_get_within, get_or_from_slice_get}
use Rattle.std.proofs.Math.Seq.{drop-cons}
use Rattle.json_text.specs.Grammar.{Json}
use Rattle.cel_eval.specs.Equality.{is_json, are_parts, is_among_parts, all_equal}
use Rattle.cel_eval.specs.Data.{Datum, Data, none, more}
use Rattle.cel_eval.specs.Operands.{datum_of, data_of, data_from}
use Rattle.cel_eval.specs.declared.operand.Operand.{Operand}

pub data_step : (xs : List Operand) (i : ℕ) (d : Operand) → i < length xs → data_of (drop i xs) ≡ more (datum_of (get_or xs i d)) (data_of (drop (i + 1) xs))
data_step xs i d h = rw add-one (ap data_of (drop-cons xs i d h))

pub data_end : (xs : List Operand) (i : ℕ) → length xs ≤ i → data_of (drop i xs) ≡ none
data_end [] zero h = refl
data_end [] (suc i) h = refl
data_end (x ∷ xs) zero h = absurd (omega arith)
data_end (x ∷ xs) (suc i) h = data_end xs i (omega arith)

pub list_step : {A : Type 0} → (ys : List A) (k : ℕ) (y : A) → slice_get ys k ≡ Some y → drop k ys ≡ y ∷ drop (k + 1) ys
list_step ys k y h =
    rw add-one (drop-cons ys k y (slice_get_within ys k y h) ∙ ap (λ z. z ∷ drop (suc k) ys) (get_or_from_slice_get ys k y y h))

pub list_end : {A : Type 0} → (ys : List A) (k : ℕ) → slice_get ys k ≡ None → drop k ys ≡ []
list_end [] zero h = refl
list_end [] (suc k) h = refl
list_end (x ∷ ys) zero h = cc
list_end (x ∷ ys) (suc k) h = list_end ys k h

-- ---- an item beside one of an event's text

pub parts_end : (xs : List Operand) (ys : List Json) (k : ℕ) (d : Operand) → k < length xs → slice_get ys k ≡ None → are_parts (data_of (drop k xs)) (drop k ys) ≡ false
parts_end xs ys k d h e = rw (data_step xs k d h, list_end ys k e) refl

pub parts_step : (xs : List Operand) (ys : List Json) (k : ℕ) (d : Operand) (y : Json) → k < length xs → slice_get ys k ≡ Some y → is_json (datum_of (get_or xs k d)) y ≡ true → are_parts (data_of (drop k xs)) (drop k ys) ≡ are_parts (data_of (drop (k + 1) xs)) (drop (k + 1) ys)
parts_step xs ys k d y h e same = rw (data_step xs k d h, list_step ys k y e, same) refl

pub parts_differ : (xs : List Operand) (ys : List Json) (k : ℕ) (d : Operand) (y : Json) → k < length xs → slice_get ys k ≡ Some y → is_json (datum_of (get_or xs k d)) y ≡ false → are_parts (data_of (drop k xs)) (drop k ys) ≡ false
parts_differ xs ys k d y h e differs = rw (data_step xs k d h, list_step ys k y e, differs) refl

pub among_step : (d : Datum) (ys : List Json) (k : ℕ) (y : Json) → slice_get ys k ≡ Some y → is_json d y ≡ false → is_among_parts d (drop k ys) ≡ is_among_parts d (drop (k + 1) ys)
among_step d ys k y e differs = rw (list_step ys k y e, differs) refl

-- ---- the end of one list before the other's

pub is_ended : (ys : List Operand) (n : ℕ) → length ys ≤ n → all_equal none (data_of (drop n ys)) ≡ true
is_ended ys n h = rw (data_end ys n h) refl

pub not_ended : (ys : List Operand) (n : ℕ) → n < length ys → all_equal none (data_of (drop n ys)) ≡ false
not_ended [] n h = absurd (omega arith)
not_ended (y ∷ ys) zero h = refl
not_ended (y ∷ ys) (suc n) h = not_ended ys n (omega arith)
