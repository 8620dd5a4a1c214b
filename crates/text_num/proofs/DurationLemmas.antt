-- Durations: their parts one after another.
use Rattle.std.proofs.Common.{◌≡◌, ◌≢◌, ℕ, zero, suc, ◌+◌, ◌<◌, ◌≤◌, min, true, false, eqb, List, [], ◌∷◌, ◌++◌, length, get_or, Option, Some, None, Result, Err, option_map, option_and_then, ◌⊎◌, sym, refl, ap, ◌∙◌, arith, inl, inr}
use Rattle.std.specs.List.{AllByRecursion}
use Rattle.std.proofs.lemmas.Bool.{cases_lt}
use Rattle.std.proofs.lemmas.Bool.Decides.{nat_tests}
use Rattle.text_num.specs.declared.fault.NumFault.{NumFault}
use Rattle.text_num.specs.declared.fault.NumFault.TheVariants.{NotANumber}
use Rattle.text_num.specs.Digits.{at_most}
use Rattle.text_num.specs.Duration.{Part, IsPart, IsDuration, part_text, part_millis, parts_text, parts_millis, part_of, capped_part, parts_of, longest, millis_after, duration_of}
use Rattle.text_num.proofs.DigitLemmas.{above}
use Rattle.text_num.proofs.PartLemmas.{part_is, part_read, part_first, part_shrinks}

pub no_parts : (most : ℕ) → parts_of most [] ≡ Some []
unfolding parts_of
no_parts zero = refl
no_parts (suc most) = refl

parts_step : (most : ℕ) (text : List ℕ) → 0 < length text
    → parts_of (suc most) text ≡ option_and_then (λ (part : Part × List ℕ). option_map (λ parts. part.0 ∷ parts) (parts_of most part.1)) (part_of text)
unfolding parts_of
parts_step most [] some = absurd (omega arith)
parts_step most (c ∷ cs) some = refl

-- ---- a reader's steps

pub starts : (text : List ℕ) → 0 < length text → millis_after 0 (parts_of (length text) text) ≡ duration_of text
unfolding duration_of
starts [] some = absurd (omega arith)
starts (c ∷ cs) some = refl

pub empty_text : (text : List ℕ) → length text ≡ 0 → Err NotANumber ≡ duration_of text
unfolding duration_of
empty_text [] e = refl
empty_text (c ∷ cs) e = absurd (omega arith)

pub ends : (most total : ℕ) (rest : List ℕ) → length rest ≡ 0 → millis_after total (parts_of most rest) ≡ at_most longest total
ends most total [] e = ap (millis_after total) (no_parts most) ∙ ap (at_most longest) (omega arith)
ends most total (c ∷ cs) e = absurd (omega arith)

pub fails : (most total : ℕ) (rest : List ℕ) → 0 < length rest → part_of rest ≡ None → millis_after total (parts_of (suc most) rest) ≡ Err NotANumber
fails most total rest some none =
    ap (millis_after total) (parts_step most rest some ∙ ap (option_and_then (λ (part : Part × List ℕ). option_map (λ parts. part.0 ∷ parts) (parts_of most part.1))) none)

-- a sum that is past the longest duration may be cut to one past it
capped_sum : (total millis behind : ℕ) → at_most longest (min (total + min millis (longest + 1)) (longest + 1) + behind) ≡ at_most longest (total + (millis + behind))
capped_sum total millis behind =
    elim (cases_lt longest (total + millis)) [
      | inl more ↦ above longest _ (omega arith) ∙ sym (above longest _ (omega arith))
      | inr fits ↦ ap (at_most longest) (omega arith)
    ]

absorbed : (total : ℕ) (p : Part) (o : Option (List Part))
    → millis_after (min (total + min (part_millis p) (longest + 1)) (longest + 1)) o ≡ millis_after total (option_map (λ parts. p ∷ parts) o)
absorbed total p None = refl
absorbed total p (Some parts) = capped_sum total (part_millis p) (parts_millis parts)

pub goes_on : (most total : ℕ) (rest after : List ℕ) (p : Part) → 0 < length rest → part_of rest ≡ Some (p, after)
    → millis_after (min (total + min (part_millis p) (longest + 1)) (longest + 1)) (parts_of most after) ≡ millis_after total (parts_of (suc most) rest)
goes_on most total rest after p some e =
    absorbed total p (parts_of most after)
    ∙ ap (millis_after total) (sym (parts_step most rest some ∙ ap (option_and_then (λ (part : Part × List ℕ). option_map (λ parts. part.0 ∷ parts) (parts_of most part.1))) e))

-- ---- what is read is written, and what is written is read

more_parts : (p : Part) (o : Option (List Part)) (ps : List Part) → option_map (λ parts. p ∷ parts) o ≡ Some ps → (qs : List Part) × (o ≡ Some qs) × (p ∷ qs ≡ ps)
more_parts p None ps e = cc
more_parts p (Some qs) ps e = (qs, refl, cc)

parts_are : (most : ℕ) (text : List ℕ) (ps : List Part) → parts_of most text ≡ Some ps → (text ≡ parts_text ps) × AllByRecursion IsPart ps
unfolding parts_of
parts_are zero [] ps e = let same : [] ≡ ps = cc in rw (← same) (refl, tt)
parts_are (suc most) [] ps e = let same : [] ≡ ps = cc in rw (← same) (refl, tt)
parts_are zero (c ∷ cs) ps e = cc
parts_are (suc most) (c ∷ cs) ps e = go (part_of (c ∷ cs)) refl e (parts_are most)
  where
    go : (o : Option (Part × List ℕ)) → part_of (c ∷ cs) ≡ o
        → option_and_then (λ part. option_map (λ parts. part.0 ∷ parts) (parts_of most part.1)) o ≡ Some ps
        → ((text : List ℕ) (qs : List Part) → parts_of most text ≡ Some qs → (text ≡ parts_text qs) × AllByRecursion IsPart qs)
        → (c ∷ cs ≡ parts_text ps) × AllByRecursion IsPart ps
    go None is e ih = cc
    go (Some part) is e ih =
        let found = more_parts part.0 (parts_of most part.1) ps e in
        let first = part_is (c ∷ cs) part.0 part.1 is in
        let others = ih part.1 found.0 found.1 in
        rw (← found.2) (first.1 ∙ ap (λ l. part_text part.0 ++ l) others.0, (first.0, others.1))

parts_first : (ps : List Part) → AllByRecursion IsPart ps → eqb (get_or (parts_text ps) 0 0) 115 ≡ false
parts_first [] each = refl
parts_first (p ∷ ps) each = part_first p (parts_text ps) each.0

parts_read : (most : ℕ) (ps : List Part) → AllByRecursion IsPart ps → length (parts_text ps) ≤ most → parts_of most (parts_text ps) ≡ Some ps
parts_read most [] each room = no_parts most
parts_read zero (p ∷ ps) each room =
    absurd (omega (arith, part_shrinks _ p (parts_text ps) (part_read p (parts_text ps) each.0 (parts_first ps each.1))))
parts_read (suc most) (p ∷ ps) each room =
    let read = part_read p (parts_text ps) each.0 (parts_first ps each.1) in
    let shrinks = part_shrinks (part_text p ++ parts_text ps) p (parts_text ps) read in
    let others = parts_read most ps each.1 (omega arith) in
    parts_step most (part_text p ++ parts_text ps) (omega arith)
    ∙ ap (option_and_then (λ (part : Part × List ℕ). option_map (λ parts. part.0 ∷ parts) (parts_of most part.1))) read
    ∙ ap (option_map (λ parts. p ∷ parts)) others

some_text : (ps : List Part) → AllByRecursion IsPart ps → ps ≢ [] → 0 < length (parts_text ps)
some_text [] each some = absurd (some refl)
some_text (p ∷ ps) each some =
    omega (arith, part_shrinks _ p (parts_text ps) (part_read p (parts_text ps) each.0 (parts_first ps each.1)))

-- any parts that write a text give its value
pub value_of_parts : (text : List ℕ) (ps : List Part) → IsDuration text ps → duration_of text ≡ at_most longest (parts_millis ps)
value_of_parts text ps written =
    let some = some_text ps written.each written.some in
    let read = parts_read (length (parts_text ps)) ps written.each (omega arith) in
    ap duration_of written.written ∙ sym (starts (parts_text ps) some) ∙ ap (millis_after 0) read ∙ ap (at_most longest) (omega arith)

no_text : (c : ℕ) (cs : List ℕ) → c ∷ cs ≡ [] → ⊥
no_text c cs e = cc

-- and a text that parts don't write is no number
pub parts_or_none : (text : List ℕ) → (duration_of text ≡ Err NotANumber) ⊎ ((ps : List Part) × IsDuration text ps)
unfolding duration_of
parts_or_none [] = inl refl
parts_or_none (c ∷ cs) = go (parts_of (length (c ∷ cs)) (c ∷ cs)) refl
  where
    go : (o : Option (List Part)) → parts_of (length (c ∷ cs)) (c ∷ cs) ≡ o
        → (millis_after 0 o ≡ Err NotANumber) ⊎ ((ps : List Part) × IsDuration (c ∷ cs) ps)
    go None is = inl refl
    go (Some ps) is =
        let found = parts_are (length (c ∷ cs)) (c ∷ cs) ps is in
        inr (ps, record { written = found.0; some = λ none. no_text c cs (found.0 ∙ ap parts_text none); each = found.1 })

pub sum_at : (text : List ℕ) (result : Result ℕ NumFault) → result ≡ duration_of text
    → (ps : List Part) → IsDuration text ps → result ≡ at_most longest (parts_millis ps)
sum_at text result is ps written = is ∙ value_of_parts text ps written

pub parts_at : (text : List ℕ) (result : Result ℕ NumFault) → result ≡ duration_of text
    → (result ≡ Err NotANumber) ⊎ ((ps : List Part) × IsDuration text ps)
parts_at text result is = rw is (parts_or_none text)

-- what a part's reader gave
pub part_found : (o : Option (Part × List ℕ)) (millis : ℕ) (after : List ℕ) → option_map capped_part o ≡ Some (millis, after)
    → (p : Part) × (o ≡ Some (p, after)) × (millis ≡ min (part_millis p) (longest + 1))
part_found None millis after e = cc
part_found (Some part) millis after e =
    let one : ℕ × List ℕ = capped_part part in
    let other : ℕ × List ℕ = (millis, after) in
    let same : one ≡ other = cc in
    (part.0, ap (λ l. Some (part.0, l)) (ap (λ (p : ℕ × List ℕ). p.1) same), sym (ap (λ (p : ℕ × List ℕ). p.0) same))

pub no_part_found : (o : Option (Part × List ℕ)) → option_map capped_part o ≡ None → o ≡ None
no_part_found None e = refl
no_part_found (Some part) e = cc

pub step : (most total sum : ℕ) (rest after : List ℕ) (millis : ℕ) (goal : Result ℕ NumFault) → 0 < length rest
    → length rest ≤ most → option_map capped_part (part_of rest) ≡ Some (millis, after) → sum ≡ min (total + millis) (longest + 1)
    → millis_after total (parts_of most rest) ≡ goal
    → (length after < length rest) × ((less : ℕ) × (length after ≤ less) × (millis_after sum (parts_of less after) ≡ goal))
step zero total sum rest after millis goal some room read is so_far = absurd (omega arith)
step (suc most) total sum rest after millis goal some room read is so_far =
    let found = part_found (part_of rest) millis after read in
    let shrinks = part_shrinks rest found.0 after found.1 in (
      shrinks,
      (
        most,
        omega arith,
        ap (λ n. millis_after n (parts_of most after)) (is ∙ ap (λ m. min (total + m) (longest + 1)) found.2)
            ∙ goes_on most total rest after found.0 some found.1 ∙ so_far,
      ),
    )

pub stop : (most total : ℕ) (rest : List ℕ) (goal : Result ℕ NumFault) → 0 < length rest → length rest ≤ most
    → option_map capped_part (part_of rest) ≡ None → millis_after total (parts_of most rest) ≡ goal → Err NotANumber ≡ goal
stop zero total rest goal some room read so_far = absurd (omega arith)
stop (suc most) total rest goal some room read so_far =
    sym (fails most total rest some (no_part_found (part_of rest) read)) ∙ so_far

pub some_from : (n : ℕ) → false ≡ eqb n 0 → 0 < n
some_from n e = grind (arith, nat_tests)

pub none_from : (n : ℕ) → true ≡ eqb n 0 → n ≡ 0
none_from n e = grind (arith, nat_tests)
