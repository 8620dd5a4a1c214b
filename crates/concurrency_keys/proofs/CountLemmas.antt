-- Counts of issues by cell: one more, one fewer, a list's cells one after another, and the whole beside the issues.
use Rattle.std.proofs.Common.{◌≡◌, ℕ, ◌+◌, ◌-◌, ◌≤◌, nat_lt, nat_le, Bool, true, false, cond, not, ◌||◌, List, [], ◌∷◌, ◌++◌, Option, Some, None, refl, sym, ap, ◌∙◌, subst, arith, take}
use mathlib.Core.Path.{fun_ext}
use Rattle.std.specs.BTreeMap.{insert_entry, is_at}
use Rattle.std.specs.List.{find, list_any}
use Rattle.std.specs.List.Sorted.{IsStrictlySortedBy}
use Rattle.std.specs.Map.{keys_of, values_of, lookup, remove_entry}
use Rattle.std.specs.Option.{unwrap_or, SomeIff}
use Rattle.std.specs.Ordering.{is_eq, nat_cmp}
use Rattle.std.specs.declared.cmp.Ordering.{Ordering}
use Rattle.std.specs.declared.cmp.Ordering.TheVariants.{Less, Equal, Greater}
use Rattle.std.proofs.lemmas.Cmp.{eq_by_cmp_equiv}
use Rattle.std.proofs.lemmas.List.Folds.{list_any-append}
use Rattle.kinds.proofs.CellLemmas.{cell_total, cell_tied}
use Rattle.kinds.specs.Cells.{cell_cmp, is_cell, has_cell, open_in, are_free, has_issue, without_issue, insert_issue}
use Rattle.kinds.specs.declared.cell.Cell.{Cell}
use Rattle.kinds.specs.declared.cell.CellLimit.{CellLimit}
use Rattle.kinds.specs.declared.cell.IssueEntry.{IssueEntry}
use Rattle.lists.proofs.Keyed.{filter_none}
use Rattle.lists.proofs.Stored.{InsertsByNumber, stored_empty, numbered_put, numbered_left, numbered_found}
use Rattle.concurrency_keys.specs.Counts.{count_of, held, issue_of, Sets, NoneIsZero, IsSame, IsRaised, IsLowered, IsRaisedAt, IsLoweredAt, IsRaisedAll, IsLoweredAll, IsCounted}

-- ---- cells

is_equal : (o : Ordering) → is_eq o ≡ true → o ≡ Equal
is_equal Less h = cc
is_equal Equal h = refl
is_equal Greater h = cc

same_cell : (a b : Cell) → is_cell a b ≡ true → a ≡ b
same_cell a b h = cell_tied a b (is_equal (cell_cmp a b) h)

cell_flip : (a b : Cell) → is_cell a b ≡ is_cell b a
cell_flip a b = (eq_by_cmp_equiv cell_total).symm a b

-- ---- one cell

-- a look-up behind a change of one key
changed : (b : Bool) (w o now : Option ℕ) (n m : ℕ) → now ≡ cond b w o → (b ≡ true → unwrap_or w 0 ≡ n) → (b ≡ false → unwrap_or o 0 ≡ m) → unwrap_or now 0 ≡ cond b n m
changed true w o now n m h e f = ap (λ r. unwrap_or r 0) h ∙ e refl
changed false w o now n m h e f = ap (λ r. unwrap_or r 0) h ∙ f refl

cond_more : (b : Bool) (n : ℕ) → cond b (n + 1) n ≡ n + cond b 1 0
cond_more true n = refl
cond_more false n = omega arith

cond_less : (b : Bool) (n : ℕ) → cond b (n - 1) n ≡ n - cond b 1 0
cond_less true n = refl
cond_less false n = omega arith

pub raised : (cell key : Cell) (n : ℕ) (old new : List (Cell × ℕ)) → key ≡ cell → n ≡ count_of cell old + 1
    → ((q : Cell) → lookup (is_at (cell_cmp q)) new ≡ cond (is_at (cell_cmp key) q) (Some n) (lookup (is_at (cell_cmp q)) old)) → IsRaised cell old new
raised cell key n old new same more h = record {
  each = λ q.
      changed (is_cell cell q) (Some n) (lookup (is_at (cell_cmp q)) old) (lookup (is_at (cell_cmp q)) new) (count_of q old + 1) (count_of q old)
      (h q ∙ ap (λ k. cond (is_at (cell_cmp k) q) (Some n) (lookup (is_at (cell_cmp q)) old)) same)
      (λ e. more ∙ ap (λ r. count_of r old + 1) (same_cell cell q e)) (λ e. refl)
      ∙ cond_more (is_cell cell q) (count_of q old);
}

pub lowered : (cell : Cell) (w : Option ℕ) (old new : List (Cell × ℕ)) → unwrap_or w 0 ≡ count_of cell old - 1
    → ((q : Cell) → lookup (is_at (cell_cmp q)) new ≡ cond (is_at (cell_cmp cell) q) w (lookup (is_at (cell_cmp q)) old)) → IsLowered cell old new
lowered cell w old new less h = record {
  each = λ q.
      changed (is_cell cell q) w (lookup (is_at (cell_cmp q)) old) (lookup (is_at (cell_cmp q)) new) (count_of q old - 1) (count_of q old)
      (h q) (λ e. less ∙ ap (λ r. count_of r old - 1) (same_cell cell q e)) (λ e. refl)
      ∙ cond_less (is_cell cell q) (count_of q old);
}

pub some_more : (n m : ℕ) → n ≡ m + 1 → Some n ≡ Some 0 → ⊥
some_more n m h e = let zero : n ≡ 0 = cc in omega arith

-- a change of one cell to a count that isn't 0, or to none
pub none_zero : (key : Cell) (w : Option ℕ) (old new : List (Cell × ℕ)) → (w ≡ Some 0 → ⊥) → Sets key w old new → NoneIsZero old → NoneIsZero new
none_zero key w old new some sets was q z = by_cell (is_cell key q) (sets q)
  where
    by_cell : (b : Bool) → lookup (is_at (cell_cmp q)) new ≡ cond b w (lookup (is_at (cell_cmp q)) old) → ⊥
    by_cell true e = some (sym e ∙ z)
    by_cell false e = was q (sym e ∙ z)

-- a checked sum
pub more_by : (o : Option ℕ) (n m : ℕ) (P : Type 0) → SomeIff o P m → o ≡ Some n → n ≡ m
more_by None n m P h e = cc
more_by (Some x) n m P h e = some_same e ∙ h.1
  where
    some_same : Some x ≡ Some n → n ≡ x
    some_same h = cc

-- ---- a list's cells

has_last : (q : Cell) (xs : List CellLimit) (x : CellLimit) → has_cell q (xs ++ x ∷ []) ≡ (has_cell q xs || (is_cell q x.cell || false))
has_last q xs x = list_any-append (λ (l : CellLimit). is_cell q l.cell) xs (x ∷ [])

or_cases : (a b c : Bool) → c ≡ (a || (b || false)) → (b ≡ true → a ≡ true) → c ≡ a
or_cases true b c e h = e
or_cases false true c e h = absurd_bool (h refl)
  where
    absurd_bool : false ≡ true → c ≡ false
    absurd_bool h = cc
or_cases false false c e h = e

or_apart : (a b c : Bool) → c ≡ (a || (b || false)) → (b ≡ true → a ≡ false) → cond c 1 0 ≡ cond a 1 0 + cond b 1 0
or_apart true true c e h = absurd_bool (h refl)
  where
    absurd_bool : true ≡ false → cond c 1 0 ≡ 1 + 1
    absurd_bool h = cc
or_apart true false c e h = ap (λ b. cond b 1 0) e
or_apart false true c e h = ap (λ b. cond b 1 0) e
or_apart false false c e h = ap (λ b. cond b 1 0) e

held_again : (q : Cell) (xs : List CellLimit) (x : CellLimit) → has_cell x.cell xs ≡ true → held q (xs ++ x ∷ []) ≡ held q xs
unfolding held
held_again q xs x h =
    ap (λ b. cond b 1 0) (or_cases (has_cell q xs) (is_cell q x.cell) (has_cell q (xs ++ x ∷ [])) (has_last q xs x) (λ e. ap (λ r. has_cell r xs) (same_cell q x.cell e) ∙ h))

held_more : (q : Cell) (xs : List CellLimit) (x : CellLimit) → has_cell x.cell xs ≡ false → held q (xs ++ x ∷ []) ≡ held q xs + cond (is_cell x.cell q) 1 0
unfolding held
held_more q xs x h =
    or_apart (has_cell q xs) (is_cell q x.cell) (has_cell q (xs ++ x ∷ [])) (has_last q xs x) (λ e. ap (λ r. has_cell r xs) (same_cell q x.cell e) ∙ h)
    ∙ ap (λ b. cond (has_cell q xs) 1 0 + cond b 1 0) (cell_flip q x.cell)

pub raised_again : (k : ℕ) (limits : List CellLimit) (x : CellLimit) (old : List (Cell × ℕ)) → take (k + 1) limits ≡ take k limits ++ x ∷ [] → true ≡ has_cell x.cell (take k limits)
    → IsRaisedAt k limits old old
raised_again k limits x old e h = record { each = λ q. ap (λ n. count_of q old + n) (sym (ap (held q) e ∙ held_again q (take k limits) x (sym h))) }

pub raised_at : (k : ℕ) (limits : List CellLimit) (x : CellLimit) (old new : List (Cell × ℕ)) → take (k + 1) limits ≡ take k limits ++ x ∷ [] → false ≡ has_cell x.cell (take k limits)
    → IsRaised x.cell old new → IsRaisedAt k limits old new
raised_at k limits x old new e h r = record {
  each = λ q.
      let more = ap (held q) e ∙ held_more q (take k limits) x (sym h) in
      let one = r.each q in
      omega (arith, more, one);
}

pub lowered_again : (k : ℕ) (limits : List CellLimit) (x : CellLimit) (old : List (Cell × ℕ)) → take (k + 1) limits ≡ take k limits ++ x ∷ [] → true ≡ has_cell x.cell (take k limits)
    → IsLoweredAt k limits old old
lowered_again k limits x old e h = record {
  more = λ q. let same = ap (held q) e ∙ held_again q (take k limits) x (sym h) in omega (arith, same);
  each = λ q. let same = ap (held q) e ∙ held_again q (take k limits) x (sym h) in omega (arith, same);
}

pub lowered_at : (k : ℕ) (limits : List CellLimit) (x : CellLimit) (old new : List (Cell × ℕ)) → take (k + 1) limits ≡ take k limits ++ x ∷ [] → false ≡ has_cell x.cell (take k limits)
    → IsLowered x.cell old new → IsLoweredAt k limits old new
lowered_at k limits x old new e h r = record {
  more = λ q. let more = ap (held q) e ∙ held_more q (take k limits) x (sym h) in omega (arith, more);
  each = λ q.
      let more = ap (held q) e ∙ held_more q (take k limits) x (sym h) in
      let one = r.each q in
      omega (arith, more, one);
}

-- ---- all of them

held_none : (q : Cell) → held q [] ≡ 0
unfolding held
held_none q = refl

pub raised_none : (old : List (Cell × ℕ)) → IsRaisedAll [] old old
raised_none old = record { each = λ q. let none = held_none q in omega (arith, none) }

pub lowered_none : (old : List (Cell × ℕ)) → IsLoweredAll [] old old
lowered_none old = record { each = λ q. let none = held_none q in omega (arith, none) }

pub raised_on : (k : ℕ) (limits : List CellLimit) (first old new : List (Cell × ℕ)) → IsRaisedAll (take k limits) first old → IsRaisedAt k limits old new → IsRaisedAll (take (k + 1) limits) first new
raised_on k limits first old new a b = record { each = λ q. let so = a.each q in let step = b.each q in omega (arith, so, step) }

pub lowered_on : (k : ℕ) (limits : List CellLimit) (first old new : List (Cell × ℕ)) → IsLoweredAll (take k limits) first old → IsLoweredAt k limits old new → IsLoweredAll (take (k + 1) limits) first new
lowered_on k limits first old new a b = record { each = λ q. let so = a.each q in let step = b.each q in let more = b.more q in omega (arith, so, step, more) }

pub raised_undone : (limits : List CellLimit) (first old new : List (Cell × ℕ)) → IsRaisedAll limits first old → IsLoweredAll limits old new → IsSame first new
raised_undone limits first old new a b = record { each = λ q. let up = a.each q in let down = b.each q in omega (arith, up, down) }

-- ---- beside the issues

by_number : InsertsByNumber issue_of insert_issue
by_number = record { empty = λ x. refl; place = λ x y ys. refl }

open_put : (q : Cell) (x : IssueEntry) (es : List IssueEntry) → open_in q (insert_issue x es) ≡ open_in q es + held q x.cells
unfolding held
open_put q x [] = grind arith
open_put q x (e ∷ es) = by_place (nat_lt x.issue e.issue) (open_put q x es)
  where
    by_place : (b : Bool) → open_in q (insert_issue x es) ≡ open_in q es + held q x.cells → open_in q (cond b (x ∷ e ∷ es) (e ∷ insert_issue x es)) ≡ open_in q (e ∷ es) + held q x.cells
    by_place true h = grind arith
    by_place false h = grind (arith, h)

open_left : (q : Cell) (t : ℕ → Bool) (pairs : List (ℕ × IssueEntry)) (x : IssueEntry) → Some x ≡ lookup t pairs → open_in q (values_of (remove_entry t pairs)) ≡ open_in q (values_of pairs) - held q x.cells
unfolding held
open_left q t [] x h = cc
open_left q t (p ∷ pairs) x h = by_test (t p.0) (open_left q t pairs x) h
  where
    some_same : Some x ≡ Some p.1 → x ≡ p.1
    some_same h = cc

    within : (ps : List (ℕ × IssueEntry)) → Some x ≡ lookup t ps → held q x.cells ≤ open_in q (values_of ps)
    within [] h = cc
    within (r ∷ ps) h = grind (arith, h, within ps)

    by_test : (b : Bool) → (Some x ≡ lookup t pairs → open_in q (values_of (remove_entry t pairs)) ≡ open_in q (values_of pairs) - held q x.cells) → Some x ≡ cond b (Some p.1) (lookup t pairs)
        → open_in q (values_of (cond b pairs (p ∷ remove_entry t pairs))) ≡ open_in q (p.1 ∷ values_of pairs) - held q x.cells
    by_test true more h = let same = ap (λ (e : IssueEntry). held q e.cells) (some_same h) in grind (arith, same)
    by_test false more h = let less = more h in let room = within pairs h in grind (arith, less, room)

pub counted_empty : (pairs : List (ℕ × IssueEntry)) (counts : List (Cell × ℕ)) → pairs ≡ [] → counts ≡ [] → IsCounted pairs counts
counted_empty pairs counts p c = record {
  stored = stored_empty nat_cmp issue_of pairs p;
  counted = λ q. ap (count_of q) c ∙ sym (ap (λ r. open_in q (values_of r)) p);
}

pub counted_put : (old new : List (ℕ × IssueEntry)) (x : IssueEntry) (was now : List (Cell × ℕ)) → IsCounted old was → find (has_issue x.issue) (values_of old) ≡ None → new ≡ insert_entry nat_cmp old x.issue x
    → IsStrictlySortedBy nat_cmp (keys_of new) → IsRaisedAll x.cells was now → (values_of new ≡ insert_issue x (values_of old)) × IsCounted new now
counted_put old new x was now k none e s r =
    let put = numbered_put issue_of by_number old new x k.stored none e s in (
      put.0,
      record {
        stored = put.1;
        counted = λ q. r.each q ∙ ap (λ n. n + held q x.cells) (k.counted q) ∙ sym (ap (open_in q) put.0 ∙ open_put q x (values_of old));
      },
    )

pub counted_undone : (old new : List (ℕ × IssueEntry)) (was now : List (Cell × ℕ)) → IsCounted old was → new ≡ old → IsSame was now → IsCounted new now
counted_undone old new was now k e s =
    subst (λ r. IsCounted r now) (sym e) (record { stored = k.stored; counted = λ q. s.each q ∙ k.counted q })

pub counted_left : (old new : List (ℕ × IssueEntry)) (n : ℕ) (x : IssueEntry) (was now : List (Cell × ℕ)) → IsCounted old was → Some x ≡ lookup (is_at (nat_cmp n)) old → new ≡ remove_entry (is_at (nat_cmp n)) old
    → IsStrictlySortedBy nat_cmp (keys_of new) → IsLoweredAll x.cells was now → (values_of new ≡ without_issue n (values_of old)) × IsCounted new now
counted_left old new n x was now k h e s r =
    let left = numbered_left issue_of old new n k.stored e s in (
      left.0,
      record {
        stored = left.1;
        counted = λ q. r.each q ∙ ap (λ m. m - held q x.cells) (k.counted q) ∙ sym (ap (λ ps. open_in q (values_of ps)) e ∙ open_left q (is_at (nat_cmp n)) old x h);
      },
    )

pub counted_none : (old new : List (ℕ × IssueEntry)) (n : ℕ) (was : List (Cell × ℕ)) → IsCounted old was → None ≡ lookup (is_at (nat_cmp n)) old → new ≡ old
    → (values_of new ≡ without_issue n (values_of old)) × IsCounted new was
counted_none old new n was k h e = (
  ap values_of e ∙ sym (filter_none (has_issue n) (values_of old) (sym (numbered_found issue_of old n k.stored) ∙ sym h)),
  subst (λ r. IsCounted r was) (sym e) k,
)

pub free_counted : (limits : List CellLimit) (pairs : List (ℕ × IssueEntry)) (counts : List (Cell × ℕ)) → IsCounted pairs counts
    → not (list_any (λ (l : CellLimit). nat_le l.limit (count_of l.cell counts)) limits) ≡ are_free limits (values_of pairs)
free_counted limits pairs counts k = ap (λ t. not (list_any t limits)) (fun_ext (λ (l : CellLimit). ap (nat_le l.limit) (k.counted l.cell)))
