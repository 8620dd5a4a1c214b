-- Runs that have ended by place.
use Rattle.std.proofs.Common.{◌≡◌, ℕ, ◌+◌, ◌<◌, ◌==◌, Bool, true, false, cond, not, List, [], ◌∷◌, ◌++◌, map, find, length, Option, Some, None, option_map, refl, sym, ap, ◌∙◌, arith, subst}
use Rattle.std.specs.List.{AllByRecursion}
use Rattle.std.specs.Option.{MatchOption}
use Rattle.std.specs.Ordering.{is_lt}
use Rattle.std.proofs.lemmas.Bool.Decides.{nat_tests}
use Rattle.lists.proofs.Elements.{all-filter, all-last, all-weaker}
use Rattle.lists.proofs.Keyed.{filter_none}
use Rattle.lists.specs.Entries.{has, without, insert_in, is_due, pair_cmp, AreApart}
use Rattle.runs.specs.Ended.{ended_number}
use Rattle.runs.specs.declared.ended.EndedRun.{EndedRun}
use Rattle.runs.specs.declared.row.Placed.{Placed}

abbrev pub ended_of : Placed → EndedRun
ended_of p = p.ended

abbrev pub place_of : Placed → ℕ
place_of p = p.place

abbrev pub number_of : Placed → ℕ
number_of p = p.ended.run

-- all places are below the next
abbrev pub AreBelow : ℕ → List Placed → Type 0
AreBelow next ps = AllByRecursion (λ (p : Placed). p.place < next) ps

pub find_ended : (run : ℕ) (ps : List Placed) → find (has ended_number run) (map ended_of ps) ≡ option_map ended_of (find (has number_of run) ps)
find_ended run [] = refl
find_ended run (p ∷ ps) = by_test (run == p.ended.run) (find_ended run ps)
  where
    by_test : (b : Bool) → find (has ended_number run) (map ended_of ps) ≡ option_map ended_of (find (has number_of run) ps)
        → cond b (Some p.ended) (find (has ended_number run) (map ended_of ps)) ≡ option_map ended_of (cond b (Some p) (find (has number_of run) ps))
    by_test true more = refl
    by_test false more = more

pub none_ended : (run : ℕ) (ps : List Placed) → find (has ended_number run) (map ended_of ps) ≡ None → find (has number_of run) ps ≡ None
none_ended run ps h = by_found (find (has number_of run) ps) (sym (find_ended run ps) ∙ h)
  where
    by_found : (o : Option Placed) → option_map ended_of o ≡ None → o ≡ None
    by_found None h = refl
    by_found (Some p) h = cc

pub length_ended : (ps : List Placed) → length (map ended_of ps) ≡ length ps
length_ended [] = refl
length_ended (p ∷ ps) = let more = length_ended ps in omega (arith, more)

-- ---- one comes

comes_after : (a n b m : ℕ) → b < a → is_lt (pair_cmp (a, n) (b, m)) ≡ false
comes_after a n b m h = grind (arith, nat_tests, h)

placed_last : (p : Placed) (ps : List Placed) → AreBelow p.place ps → insert_in place_of number_of p ps ≡ ps ++ p ∷ []
placed_last p [] h = refl
placed_last p (q ∷ ps) h = rw (comes_after p.place p.ended.run q.place q.ended.run h.0) (ap (λ r. q ∷ r) (placed_last p ps h.1))

ended_last : (ps : List Placed) (p : Placed) → map ended_of (ps ++ p ∷ []) ≡ map ended_of ps ++ p.ended ∷ []
ended_last [] p = refl
ended_last (q ∷ ps) p = ap (λ r. q.ended ∷ r) (ended_last ps p)

pub row_pushed : (p : Placed) (old new : List Placed) (next : ℕ) → new ≡ insert_in place_of number_of p old → AreBelow p.place old → next ≡ p.place + 1
    → (map ended_of new ≡ map ended_of old ++ p.ended ∷ []) × AreBelow next new
row_pushed p old new next e b n =
    let last = e ∙ placed_last p old b in (
      ap (map ended_of) last ∙ ended_last old p,
      subst (AreBelow next) (sym last) (all-last (λ (q : Placed). q.place < next) old p (all-weaker (λ (q : Placed). q.place < p.place) (λ (q : Placed). q.place < next) old (λ q l. omega (arith, l, n)) b) (omega (arith, n))),
    )

-- ---- one goes

pub row_removed : (run : ℕ) (old new : List Placed) (next : ℕ) → new ≡ without number_of run old → AreBelow next old → (map ended_of new ≡ without ended_number run (map ended_of old)) × AreBelow next new
row_removed run old new next e b = (ap (map ended_of) e ∙ ended_without old, subst (AreBelow next) (sym e) (all-filter (λ (q : Placed). q.place < next) (λ q. not (has number_of run q)) old b))
  where
    ended_without : (ps : List Placed) → map ended_of (without number_of run ps) ≡ without ended_number run (map ended_of ps)
    ended_without [] = refl
    ended_without (p ∷ ps) = by_test (run == p.ended.run) (ended_without ps)
      where
        by_test : (b : Bool) → map ended_of (without number_of run ps) ≡ without ended_number run (map ended_of ps)
            → map ended_of (cond (not b) (p ∷ without number_of run ps) (without number_of run ps)) ≡ cond (not b) (p.ended ∷ without ended_number run (map ended_of ps)) (without ended_number run (map ended_of ps))
        by_test true more = more
        by_test false more = ap (λ r. p.ended ∷ r) more

-- what the first of the row leaves
abbrev pub Firsts : List EndedRun → Option EndedRun → List EndedRun → Type 0
Firsts old result new = MatchOption result (old ≡ []) (λ e. old ≡ e ∷ new)

due_first : (next : ℕ) (p : Placed) → p.place < next → is_due place_of next p ≡ true
due_first next p h = grind (arith, nat_tests, h)

same_self : (n : ℕ) → (n == n) ≡ true
same_self n = grind (arith, nat_tests)

without_first : (p : Placed) (ps : List Placed) → AreApart number_of (p ∷ ps) → without number_of (number_of p) (p ∷ ps) ≡ ps
without_first p ps a = ap (λ b. cond (not b) (p ∷ without number_of (number_of p) ps) (without number_of (number_of p) ps)) (same_self p.ended.run) ∙ filter_none (has number_of p.ended.run) ps a.0

pub row_empty : (next : ℕ) (ps : List Placed) → AreBelow next ps → None ≡ find (is_due place_of next) ps → map ended_of ps ≡ []
row_empty next [] b h = refl
row_empty next (p ∷ ps) b h = let no : None ≡ Some p = h ∙ ap (λ t. cond t (Some p) (find (is_due place_of next) ps)) (due_first next p b.0) in cc

some_same : (p q : Placed) → Some p ≡ Some q → p ≡ q
some_same p q h = cc

pub row_first : (next : ℕ) (p : Placed) (old new : List Placed) → AreApart number_of old → AreBelow next old → Some p ≡ find (is_due place_of next) old → new ≡ without number_of (number_of p) old
    → (map ended_of old ≡ p.ended ∷ map ended_of new) × AreBelow next new
row_first next p [] new a b h e = let no : Some p ≡ None = h in cc
row_first next p (q ∷ old) new a b h e =
    let same : p ≡ q = some_same p q (h ∙ ap (λ t. cond t (Some q) (find (is_due place_of next) old)) (due_first next q b.0)) in
    let left : new ≡ old = e ∙ ap (λ r. without number_of (number_of r) (q ∷ old)) same ∙ without_first q old a in
    (ap (λ r. r.ended ∷ map ended_of old) (sym same) ∙ ap (λ ps. p.ended ∷ map ended_of ps) (sym left), subst (AreBelow next) (sym left) b.1)
