-- What a file stands for: records one behind another, and rows worked out by hand.
use Rattle.std.proofs.Common.{◌≡◌, ℕ, zero, suc, ◌+◌, ◌<◌, ◌≤◌, nat_le, Bool, true, false, ◌&&◌, List, [], ◌∷◌, ◌++◌, length, take, drop, refl, sym, ap, ◌∙◌, arith}
use Rattle.std.specs.Int.{w32, from_be_bytes}
use Rattle.std.proofs.lemmas.Bool.Decides.{nat_tests}
use Rattle.std.proofs.lemmas.List.{length-drop, take-append-le, drop-append-le, length-append, take_all, drop_all}
use Rattle.std.proofs.lemmas.Nat.{from_be_bytes-to_be_bytes_4}
use Rattle.journal_core.specs.Records.{greatest, spelled, first_length, begins_whole, first_payload, after_first, with_first, Contents, read_records, contents}

-- ---- rows

pub no_bytes : contents [] ≡ record { payloads = []; rest = [] }
unfolding contents read_records
no_bytes = refl

two_records : contents (0 ∷ 0 ∷ 0 ∷ 1 ∷ 65 ∷ 0 ∷ 0 ∷ 0 ∷ 2 ∷ 7 ∷ 8 ∷ []) ≡ record { payloads = (65 ∷ []) ∷ (7 ∷ 8 ∷ []) ∷ []; rest = [] }
unfolding contents read_records first_length
two_records = refl

-- a length of 0, a length past the end, and one over the greatest are none
no_length : contents (0 ∷ 0 ∷ 0 ∷ 0 ∷ 65 ∷ []) ≡ record { payloads = []; rest = 0 ∷ 0 ∷ 0 ∷ 0 ∷ 65 ∷ [] }
unfolding contents read_records first_length
no_length = refl

cut_short : contents (0 ∷ 0 ∷ 0 ∷ 1 ∷ 65 ∷ 0 ∷ 0 ∷ 0 ∷ 2 ∷ 7 ∷ []) ≡ record { payloads = (65 ∷ []) ∷ []; rest = 0 ∷ 0 ∷ 0 ∷ 2 ∷ 7 ∷ [] }
unfolding contents read_records first_length
cut_short = refl

too_long : begins_whole (0 ∷ 128 ∷ 0 ∷ 1 ∷ 65 ∷ []) ≡ false
unfolding first_length
too_long = refl

row_spelled : spelled (65 ∷ 66 ∷ []) ≡ 0 ∷ 0 ∷ 0 ∷ 2 ∷ 65 ∷ 66 ∷ []
row_spelled = refl

-- ---- fuel

not_whole : (bytes : List ℕ) → length bytes ≤ 0 → begins_whole bytes ≡ false
not_whole [] h = refl
not_whole (b ∷ bytes) h = absurd (omega arith)

shorter : (bytes : List ℕ) (n : ℕ) → length bytes ≤ suc n → length (after_first bytes) ≤ n
shorter bytes n h = simp length-drop (omega arith)

read_more : (n m : ℕ) (bytes : List ℕ) → length bytes ≤ n → length bytes ≤ m → read_records n bytes ≡ read_records m bytes
unfolding read_records
read_more zero zero bytes h k = refl
read_more zero (suc m) bytes h k = sym (ap (λ b. with_first b bytes (read_records m (after_first bytes))) (not_whole bytes h))
read_more (suc n) zero bytes h k = ap (λ b. with_first b bytes (read_records n (after_first bytes))) (not_whole bytes k)
read_more (suc n) (suc m) bytes h k = ap (with_first (begins_whole bytes) bytes) (read_more n m (after_first bytes) (shorter bytes n h) (shorter bytes m k))

-- the first record, and then what stands behind it
pub contents_step : (bytes : List ℕ) → contents bytes ≡ with_first (begins_whole bytes) bytes (contents (after_first bytes))
unfolding contents read_records
contents_step bytes =
    read_more (length bytes) (suc (length bytes)) bytes (omega arith) (omega arith)
    ∙ ap (with_first (begins_whole bytes) bytes) (read_more (length bytes) (length (after_first bytes)) (after_first bytes) (shorter bytes (length bytes) (omega arith)) (omega arith))

-- ---- one file behind another

whole_parts : (x y z w : Bool) → (x && (y && (z && w))) ≡ true → (x ≡ true) × (y ≡ true) × (z ≡ true) × (w ≡ true)
whole_parts true true true true h = (refl, refl, refl, refl)
whole_parts true true true false h = absurd (let no : false ≡ true = h in cc)
whole_parts true true false w h = absurd (let no : false ≡ true = h in cc)
whole_parts true false z w h = absurd (let no : false ≡ true = h in cc)
whole_parts false y z w h = absurd (let no : false ≡ true = h in cc)

whole_from : (n len : ℕ) → 4 ≤ len → 1 ≤ n → n ≤ 8388608 → 4 + n ≤ len → (nat_le 4 len && (nat_le 1 n && (nat_le n 8388608 && nat_le (4 + n) len))) ≡ true
whole_from n len a b c d = grind (arith, nat_tests)

-- what a whole record at the front says of the lengths
pub record IsWhole (bytes : List ℕ) : Type 0 where
  pub head : 4 ≤ length bytes
  pub some : 1 ≤ first_length bytes
  pub fits : first_length bytes ≤ 8388608
  pub within : 4 + first_length bytes ≤ length bytes

le_from : (a b : ℕ) → nat_le a b ≡ true → a ≤ b
le_from a b h = grind (arith, nat_tests)

pub is_whole : (bytes : List ℕ) → begins_whole bytes ≡ true → IsWhole bytes
is_whole bytes h =
    let parts = whole_parts (nat_le 4 (length bytes)) (nat_le 1 (first_length bytes)) (nat_le (first_length bytes) 8388608) (nat_le (4 + first_length bytes) (length bytes)) h in
    record {
      head = le_from 4 (length bytes) parts.0;
      some = le_from 1 (first_length bytes) parts.1;
      fits = le_from (first_length bytes) 8388608 parts.2;
      within = le_from (4 + first_length bytes) (length bytes) parts.3;
    }

-- the first record of a file, with more behind the file
pub record IsSameFront (a b : List ℕ) : Type 0 where
  pub begins : begins_whole (a ++ b) ≡ true
  pub payload : first_payload (a ++ b) ≡ first_payload a
  pub after : after_first (a ++ b) ≡ after_first a ++ b

same_length : (a b : List ℕ) → 4 ≤ length a → first_length (a ++ b) ≡ first_length a
unfolding first_length
same_length a b h = ap (from_be_bytes w32) (take-append-le 4 a b h)

same_front : (a b : List ℕ) → begins_whole a ≡ true → IsSameFront a b
same_front a b h =
    let w = is_whole a h in
    let size = same_length a b w.head in
    let whole : length (a ++ b) ≡ length a + length b = length-append a b in
    let behind : first_length a ≤ length (drop 4 a) = simp length-drop (omega (arith, w.within)) in
    record {
      begins = whole_from (first_length (a ++ b)) (length (a ++ b)) (omega (arith, w.head)) (omega (arith, w.some)) (omega (arith, w.fits)) (omega (arith, w.within));
      payload = ap (λ n. take n (drop 4 (a ++ b))) size ∙ ap (take (first_length a)) (drop-append-le 4 a b w.head) ∙ take-append-le (first_length a) (drop 4 a) b behind;
      after = ap (λ n. drop (4 + n) (a ++ b)) size ∙ drop-append-le (4 + first_length a) a b w.within;
    }

-- payloads before those of a file
abbrev before : List (List ℕ) → Contents → Contents
before payloads more = record { payloads = payloads ++ more.payloads; rest = more.rest }

appended_by : (n : ℕ) (a b : List ℕ) → length a ≤ n → (contents a).rest ≡ [] → contents (a ++ b) ≡ before (contents a).payloads (contents b)
appended_by n [] b h rest = sym (ap (λ (c : Contents). before c.payloads (contents b)) no_bytes)
appended_by zero (x ∷ a) b h rest = absurd (omega arith)
appended_by (suc n) (x ∷ a) b h rest = by_front (begins_whole (x ∷ a)) refl (appended_by n (after_first (x ∷ a)) b (shorter (x ∷ a) n h))
  where
    by_front : (t : Bool) → begins_whole (x ∷ a) ≡ t → ((contents (after_first (x ∷ a))).rest ≡ [] → contents (after_first (x ∷ a) ++ b) ≡ before (contents (after_first (x ∷ a))).payloads (contents b))
        → contents ((x ∷ a) ++ b) ≡ before (contents (x ∷ a)).payloads (contents b)
    by_front true t more =
        let front = same_front (x ∷ a) b t in
        let here : contents (x ∷ a) ≡ with_first true (x ∷ a) (contents (after_first (x ∷ a))) = contents_step (x ∷ a) ∙ ap (λ w. with_first w (x ∷ a) (contents (after_first (x ∷ a)))) t in
        let rest_here : (contents (after_first (x ∷ a))).rest ≡ [] = sym (ap (λ (c : Contents). c.rest) here) ∙ rest in
        contents_step ((x ∷ a) ++ b)
        ∙ ap (λ w. with_first w ((x ∷ a) ++ b) (contents (after_first ((x ∷ a) ++ b)))) front.begins
        ∙ ap (λ p. record { payloads = p ∷ (contents (after_first ((x ∷ a) ++ b))).payloads; rest = (contents (after_first ((x ∷ a) ++ b))).rest }) front.payload
        ∙ ap (λ (c : Contents). record { payloads = first_payload (x ∷ a) ∷ c.payloads; rest = c.rest }) (ap contents front.after ∙ more rest_here)
        ∙ sym (ap (λ (c : Contents). before c.payloads (contents b)) here)
    by_front false t more =
        let here : contents (x ∷ a) ≡ record { payloads = []; rest = x ∷ a } = contents_step (x ∷ a) ∙ ap (λ w. with_first w (x ∷ a) (contents (after_first (x ∷ a)))) t in
        absurd (let no : x ∷ a ≡ [] = sym (ap (λ (c : Contents). c.rest) here) ∙ rest in cc)

-- what stands behind whole records is read after them
pub contents-append : (a b : List ℕ) → (contents a).rest ≡ [] → contents (a ++ b) ≡ record { payloads = (contents a).payloads ++ (contents b).payloads; rest = (contents b).rest }
contents-append a b h = appended_by (length a) a b (omega arith) h

-- ---- one record

spelled_length : (payload : List ℕ) → length payload ≤ 8388608 → first_length (spelled payload) ≡ length payload
unfolding first_length
spelled_length payload h = from_be_bytes-to_be_bytes_4 (length payload) (omega arith)

pub contents-spelled : (payload : List ℕ) → 0 < length payload → length payload ≤ greatest → contents (spelled payload) ≡ record { payloads = payload ∷ []; rest = [] }
contents-spelled payload some fits =
    let size = spelled_length payload fits in
    let whole = whole_from (first_length (spelled payload)) (length (spelled payload)) (omega arith) (omega arith) (omega arith) (omega arith) in
    contents_step (spelled payload)
    ∙ ap (λ w. with_first w (spelled payload) (contents (after_first (spelled payload)))) whole
    ∙ ap (λ p. record { payloads = p ∷ (contents (after_first (spelled payload))).payloads; rest = (contents (after_first (spelled payload))).rest }) (ap (λ n. take n payload) size ∙ take_all (length payload) payload (omega arith))
    ∙ ap (λ bytes. record { payloads = payload ∷ (contents bytes).payloads; rest = (contents bytes).rest }) (ap (λ n. drop (4 + n) (spelled payload)) size ∙ drop_all (4 + length payload) (spelled payload) (omega arith))
    ∙ ap (λ (c : Contents). record { payloads = payload ∷ c.payloads; rest = c.rest }) no_bytes
