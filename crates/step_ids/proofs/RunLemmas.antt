-- The layout of a run's id: to its bits, to bytes and back.
use Rattle.std.proofs.Common.{◌≡◌, ℕ, ◌+◌, ◌*◌, ◌/◌, ◌%◌, ◌^◌, ◌<◌, Bool, true, false, cond, ◌&&◌, eqb, List, Some, None, Option, sym, refl, ap, ◌∙◌, arith, All, inl, IfSome, option_map, option_and_then, eq-eqb, eqb-true}
use Rattle.std.specs.Int.{w128, from_be_bytes, to_be_bytes}
use Rattle.uuid.specs.Text.{parsed, lower, hyphenated_text}
use Rattle.uuid.proofs.OrderLemmas.{from_be_bytes-to_be_bytes_16}
use Rattle.uuid.proofs.RoundTrips.{parses_hyphenated}
use Rattle.step_ids.proofs.Bytes.{high_first_fit}
use Rattle.step_ids.specs.Run.{run_value, run_text, run_of_halves, run_of_value, run_of_text, uuid_value, IsRun}

value_fits : (moment number : ℕ) → IsRun moment number → run_value moment number < 2 ^ 128
unfolding run_value
value_fits moment number is_run = omega (arith, is_run.moment_fits, is_run.number_fits)

of_halves : (high low moment number : ℕ) → high ≡ moment * 2 ^ 16 + 7 * 2 ^ 12 → low ≡ 2 * 2 ^ 62 + number → number < 2 ^ 62
    → run_of_halves high low ≡ Some (moment, number)
of_halves high low moment number is_high is_low fits =
    let version : eqb (high % 2 ^ 16) (7 * 2 ^ 12) ≡ true = eq-eqb _ _ (omega arith) in
    let variant : eqb (low / 2 ^ 62) 2 ≡ true = eq-eqb _ _ (omega arith) in
    let its_moment : high / 2 ^ 16 ≡ moment = omega arith in
    let its_number : low % 2 ^ 62 ≡ number = omega arith in
    rw (version, variant, its_moment, its_number) refl

split : (a b : Bool) (p q m n : ℕ) → cond {A = Option (ℕ × ℕ)} (a && b) (Some (p, q)) None ≡ Some (m, n) → (a ≡ true) × (b ≡ true) × (p ≡ m) × (q ≡ n)
split true true p q m n e =
    let pair : ℕ × ℕ = (p, q) in
    let other : ℕ × ℕ = (m, n) in
    let same : pair ≡ other = cc in (refl, refl, ap (λ (r : ℕ × ℕ). r.0) same, ap (λ (r : ℕ × ℕ). r.1) same)
split true false p q m n e = cc
split false b p q m n e = cc

-- the bits of a run's id give the run back
pub of_value : (moment number : ℕ) → IsRun moment number → run_of_value (run_value moment number) ≡ Some (moment, number)
unfolding run_value run_of_value
of_value moment number is_run =
    let fits = is_run.number_fits in
    of_halves (run_value moment number / 2 ^ 64) (run_value moment number % 2 ^ 64) moment number (omega arith) (omega arith) fits

-- and they are the only bits that do
to_value : (value moment number : ℕ) → moment < 2 ^ 48 → run_of_value value ≡ Some (moment, number)
    → IsRun moment number × (value ≡ run_value moment number)
unfolding run_value run_of_value
to_value value moment number fits e =
    let parts = split (eqb (value / 2 ^ 64 % 2 ^ 16) (7 * 2 ^ 12)) (eqb (value % 2 ^ 64 / 2 ^ 62) 2) (value / 2 ^ 64 / 2 ^ 16) (value % 2 ^ 64 % 2 ^ 62) moment number e in
    let version : value / 2 ^ 64 % 2 ^ 16 ≡ 7 * 2 ^ 12 = eqb-true _ _ parts.0 in
    let variant : value % 2 ^ 64 / 2 ^ 62 ≡ 2 = eqb-true _ _ parts.1 in
    let its_moment : value / 2 ^ 64 / 2 ^ 16 ≡ moment = parts.2 in
    let its_number : value % 2 ^ 64 % 2 ^ 62 ≡ number = parts.3 in
    (record { moment_fits = omega arith; number_fits = omega arith }, omega arith)

-- an id's text reads as its bits
pub text_value : (moment number : ℕ) (text : List ℕ) → IsRun moment number
    → Some (to_be_bytes w128 (run_value moment number)) ≡ parsed text → uuid_value text ≡ Some (run_value moment number)
unfolding uuid_value
text_value moment number text is_run e =
    ap (option_map (from_be_bytes w128)) (sym e) ∙ ap (λ v. Some v) (from_be_bytes-to_be_bytes_16 (run_value moment number) (value_fits moment number is_run))

pub text_run : (moment number : ℕ) (text : List ℕ) → IsRun moment number
    → Some (to_be_bytes w128 (run_value moment number)) ≡ parsed text → run_of_text text ≡ Some (moment, number)
unfolding run_of_text
text_run moment number text is_run e =
    ap (option_and_then run_of_value) (text_value moment number text is_run e) ∙ of_value moment number is_run

-- what a text of a known value names
pub value_run : (text : List ℕ) (value : ℕ) → uuid_value text ≡ Some value → run_of_text text ≡ run_of_value value
unfolding run_of_text
value_run text value e = ap (option_and_then run_of_value) e

pub own_value : (text : List ℕ) (value : ℕ) (run : Option (ℕ × ℕ)) → uuid_value text ≡ Some value → IfSome run (λ r. r.0 < 2 ^ 48)
    → run ≡ run_of_value value → IfSome run (λ r. IsRun r.0 r.1 × (uuid_value text ≡ Some (run_value r.0 r.1)))
own_value text value None e fits is = tt
own_value text value (Some r) e fits is =
    let found = to_value value r.0 r.1 fits (sym is) in (found.0, e ∙ ap (λ v. Some v) found.1)

pub some_value : (text u : List ℕ) → Some u ≡ parsed text → uuid_value text ≡ Some (from_be_bytes w128 u)
unfolding uuid_value
some_value text u e = ap (option_map (from_be_bytes w128)) (sym e)

pub no_value : (text : List ℕ) → ((u : List ℕ) → parsed text ≡ Some u → ⊥) → uuid_value text ≡ None
unfolding uuid_value
no_value text none = go (parsed text) none
  where
    go : (o : Option (List ℕ)) → ((u : List ℕ) → o ≡ Some u → ⊥) → option_map (from_be_bytes w128) o ≡ None
    go None h = refl
    go (Some u) h = absurd (h u refl)

pub no_run : (text : List ℕ) → uuid_value text ≡ None → run_of_text text ≡ None
unfolding run_of_text
no_run text e = ap (option_and_then run_of_value) e

-- two runs with one id are one
pub same_run : (moment number other_moment other_number : ℕ) → ◌≡◌ {A = Option (ℕ × ℕ)} (Some (moment, number)) (Some (other_moment, other_number))
    → (moment ≡ other_moment) × (number ≡ other_number)
same_run moment number other_moment other_number e =
    let pair : ℕ × ℕ = (moment, number) in
    let other : ℕ × ℕ = (other_moment, other_number) in
    let same : pair ≡ other = cc in (ap (λ (r : ℕ × ℕ). r.0) same, ap (λ (r : ℕ × ℕ). r.1) same)

bytes_fit : (n : ℕ) → All (λ b. b < 256) (to_be_bytes w128 n)
bytes_fit n = high_first_fit 16 n

pub own_run : (moment number : ℕ) → IsRun moment number → run_of_text (run_text moment number) ≡ Some (moment, number)
unfolding run_text
own_run moment number is_run =
    let bytes = to_be_bytes w128 (run_value moment number) in
    text_run moment number (hyphenated_text lower bytes) is_run (parses_hyphenated lower bytes (inl refl) refl (bytes_fit (run_value moment number)))
