-- The entry of a throttle's cell beside the starts that there were: while time goes on, and at a start.
use Rattle.std.proofs.Common.{◌≡◌, ◌⊎◌, inl, inr, ℕ, ◌+◌, ◌<◌, ◌≤◌, nat_le, nat_lt, max, Bool, true, false, cond, List, [], ◌∷◌, ◌++◌, find, Option, Some, None, refl, sym, ap, ◌∙◌, subst, arith}
use Rattle.std.specs.List.{AllByRecursion}
use Rattle.std.specs.Ordering.{is_eq, match_ordering}
use Rattle.std.specs.declared.cmp.Ordering.{Ordering}
use Rattle.std.specs.declared.cmp.Ordering.TheVariants.{Less, Equal, Greater}
use Rattle.kinds.proofs.CellLemmas.{cell_tied}
use Rattle.kinds.specs.Cells.{StandsFor, after_start, cell_cmp, greatest_at, greatest_in, greatest_of, has_start, is_allowed, is_cell, later_starts, lets_start, put_start, slack, spacing}
use Rattle.kinds.specs.declared.cell.Cell.{Cell}
use Rattle.kinds.specs.declared.cell.StartEntry.{StartEntry}
use Rattle.lists.proofs.Elements.{all-both, all-filter, all-weaker, filter-passes}
use Rattle.throttle.proofs.StartLemmas.{greatest_after, lets_greatest, put_found}
use Rattle.run_model.proofs.Apart.{all-none}

-- what an entry of the cell has is at most a number
abbrev IsWithin : Cell → ℕ → StartEntry → Type 0
IsWithin cell most e = is_cell cell e.cell ≡ true → e.greatest ≤ most

-- the cell's entry stands for the starts, or it has none and they let the next from a moment on
pub record Stands (t : ℕ) (cell : Cell) (starts : List ℕ) (entries : List StartEntry) : Type 0 where
  pub tells :
      StandsFor entries cell starts ⊎ ((find (has_start cell) entries ≡ None) × (greatest_of cell starts ≤ t))
  pub within : AllByRecursion (IsWithin cell (greatest_of cell starts)) entries

pub stands-none : (t : ℕ) (cell : Cell) → Stands t cell [] []
stands-none t cell = record { tells = inl refl; within = tt }

-- ## Time goes on

later-found : (p : StartEntry → Bool) (t : ℕ) (es : List StartEntry) → t < greatest_in (find p es)
    → greatest_in (find p (later_starts t es)) ≡ greatest_in (find p es)
later-found p t [] h = refl
later-found p t (e ∷ es) h = by_tests (p e) (nat_lt t e.greatest) refl refl h (later-found p t es)
  where
    by_tests : (b d : Bool) → p e ≡ b → nat_lt t e.greatest ≡ d → t < greatest_in (cond b (Some e) (find p es))
        → (t < greatest_in (find p es) → greatest_in (find p (later_starts t es)) ≡ greatest_in (find p es))
        → greatest_in (find p (cond d (e ∷ later_starts t es) (later_starts t es)))
        ≡ greatest_in (cond b (Some e) (find p es))
    by_tests true true same later h more = rw same refl
    by_tests true false same later h more = absurd (grind (arith, later, h))
    by_tests false true same later h more = rw same (more h)
    by_tests false false same later h more = more h

-- an entry that stays is over the moment
over-none : (cell : Cell) (u g : ℕ) (e : StartEntry) → g ≤ u → IsWithin cell g e → nat_lt u e.greatest ≡ true
    → has_start cell e ≡ false
over-none cell u g e low within over = by_test (is_cell cell e.cell) refl
  where
    by_test : (b : Bool) → is_cell cell e.cell ≡ b → b ≡ false
    by_test true own = let most = within own in absurd (grind (arith, most, low, over))
    by_test false own = refl

gone : (cell : Cell) (u g : ℕ) (es : List StartEntry) → g ≤ u → AllByRecursion (IsWithin cell g) es
    → find (has_start cell) (later_starts u es) ≡ None
gone cell u g es low within =
    let later : List StartEntry = later_starts u es in
    all-none (has_start cell) later
    (all-both (IsWithin cell g) (λ e. nat_lt u e.greatest ≡ true) (λ e. has_start cell e ≡ false) later
    (λ e k over. over-none cell u g e low k over)
    (all-filter (IsWithin cell g) (λ e. nat_lt u e.greatest) es within)
    (filter-passes (λ (e : StartEntry). nat_lt u e.greatest) es))

tells-later : (t u : ℕ) (cell : Cell) (starts : List ℕ) (es : List StartEntry) → t ≤ u
    → AllByRecursion (IsWithin cell (greatest_of cell starts)) es
    → StandsFor es cell starts ⊎ ((find (has_start cell) es ≡ None) × (greatest_of cell starts ≤ t))
    → StandsFor (later_starts u es) cell starts
    ⊎ ((find (has_start cell) (later_starts u es) ≡ None) × (greatest_of cell starts ≤ u))
tells-later t u cell starts es on within (inl stands) = by_test (nat_lt u (greatest_of cell starts)) refl
  where
    not-over : (a b : ℕ) → nat_lt a b ≡ false → b ≤ a
    not-over a b e = grind (arith, e)

    is-over : (a b : ℕ) → nat_lt a b ≡ true → a < b
    is-over a b e = grind (arith, e)

    by_test : (b : Bool) → nat_lt u (greatest_of cell starts) ≡ b
        → StandsFor (later_starts u es) cell starts
        ⊎ ((find (has_start cell) (later_starts u es) ≡ None) × (greatest_of cell starts ≤ u))
    by_test true e =
        let over : u < greatest_at cell es = subst (λ g. u < g) stands (is-over u (greatest_of cell starts) e) in
        inl (stands ∙ sym (later-found (has_start cell) u es over))
    by_test false e =
        let low : greatest_of cell starts ≤ u = not-over u (greatest_of cell starts) e in
        inr (gone cell u (greatest_of cell starts) es low within, low)
tells-later t u cell starts es on within (inr none) =
    let low : greatest_of cell starts ≤ t = none.1 in
    let after : greatest_of cell starts ≤ u = omega (arith, low, on) in
    inr (gone cell u (greatest_of cell starts) es after within, after)

pub stands-later : (t u : ℕ) (cell : Cell) (starts : List ℕ) (es : List StartEntry) → t ≤ u
    → Stands t cell starts es → Stands u cell starts (later_starts u es)
stands-later t u cell starts es on h = record {
  tells = tells-later t u cell starts es on h.within h.tells;
  within = all-filter (IsWithin cell (greatest_of cell starts)) (λ e. nat_lt u e.greatest) es h.within;
}

-- ## The next start

pub lets-next : (t : ℕ) (cell : Cell) (starts : List ℕ) (es : List StartEntry) → Stands t cell starts es
    → is_allowed cell t es ≡ true → lets_start cell starts t ≡ true
lets-next t cell starts es h allowed = lets_greatest cell starts t ∙ by_cases h.tells
  where
    from : (g d : ℕ) → g ≤ t → nat_le g (t + d) ≡ true
    from g d low = grind (arith, low)

    by_cases : StandsFor es cell starts ⊎ ((find (has_start cell) es ≡ None) × (greatest_of cell starts ≤ t))
        → nat_le (greatest_of cell starts) (t + slack cell) ≡ true
    by_cases (inl stands) = subst (λ g. nat_le g (t + slack cell) ≡ true) (sym stands) allowed
    by_cases (inr none) = from (greatest_of cell starts) (slack cell) none.1

-- ## A start is put

all-put : (P : StartEntry → Type 0) (x : StartEntry) (es : List StartEntry) → P x → AllByRecursion P es
    → AllByRecursion P (put_start x es)
all-put P x [] own h = (own, tt)
all-put P x (e ∷ es) own h = by_order (cell_cmp x.cell e.cell) (all-put P x es own h.1)
  where
    by_order : (o : Ordering) → AllByRecursion P (put_start x es)
        → AllByRecursion P (match_ordering o (x ∷ e ∷ es) (x ∷ es) (e ∷ put_start x es))
    by_order Less more = (own, h)
    by_order Equal more = (own, h.1)
    by_order Greater more = (h.0, more)

-- of another cell
put-other : (cell : Cell) (x : StartEntry) (es : List StartEntry) → is_cell cell x.cell ≡ false
    → find (has_start cell) (put_start x es) ≡ find (has_start cell) es
put-other cell x [] other = rw other refl
put-other cell x (e ∷ es) other = by_order (cell_cmp x.cell e.cell) refl (put-other cell x es other)
  where
    by_order : (o : Ordering) → cell_cmp x.cell e.cell ≡ o
        → find (has_start cell) (put_start x es) ≡ find (has_start cell) es
        → find (has_start cell) (match_ordering o (x ∷ e ∷ es) (x ∷ es) (e ∷ put_start x es))
        ≡ find (has_start cell) (e ∷ es)
    by_order Less k more = rw other refl
    by_order Equal k more =
        let e_other : is_cell cell e.cell ≡ false =
        subst (λ (c : Cell). is_cell cell c ≡ false) (cell_tied x.cell e.cell k) other in
        rw (other, e_other) refl
    by_order Greater k more = ap (λ o. cond (is_cell cell e.cell) (Some e) o) more

pub stands-other : (t u : ℕ) (cell other : Cell) (starts : List ℕ) (es : List StartEntry)
    → is_cell cell other ≡ false → Stands t cell starts es → Stands t cell starts (after_start other u es)
stands-other t u cell other starts es differs h =
    let x : StartEntry = record { cell = other; greatest = max (greatest_at other es) u + spacing other } in
    let same : find (has_start cell) (put_start x es) ≡ find (has_start cell) es = put-other cell x es differs in
    record {
      tells = subst (λ (found : Option StartEntry). (greatest_of cell starts ≡ greatest_in found)
          ⊎ ((found ≡ None) × (greatest_of cell starts ≤ t))) (sym same) h.tells;
      within = all-put (IsWithin cell (greatest_of cell starts)) x es (λ own. absurd (no_both own)) h.within;
    }
  where
    no_both : is_cell cell other ≡ true → ⊥
    no_both own = cc

-- cells that are one are equal
pub same-cell : (cell other : Cell) → is_cell cell other ≡ true → cell ≡ other
same-cell cell other own = cell_tied cell other (by_order (cell_cmp cell other) own)
  where
    by_order : (o : Ordering) → is_eq o ≡ true → o ≡ Equal
    by_order Less e = absurd (cc)
    by_order Equal e = refl
    by_order Greater e = absurd (cc)

-- of the cell itself
pub stands-start : (t : ℕ) (cell : Cell) (starts : List ℕ) (es : List StartEntry) → Stands t cell starts es
    → Stands t cell (starts ++ t ∷ []) (after_start cell t es)
stands-start t cell starts es h =
    let g : ℕ = greatest_of cell starts in
    let x : StartEntry = record { cell = cell; greatest = max (greatest_at cell es) t + spacing cell } in
    let after : greatest_of cell (starts ++ t ∷ []) ≡ max g t + spacing cell = greatest_after cell starts t in
    let same : max g t ≡ max (greatest_at cell es) t = by_cases h.tells in
    let put : greatest_at cell (put_start x es) ≡ x.greatest = ap greatest_in (put_found x es) in
    let stands : greatest_of cell (starts ++ t ∷ []) ≡ x.greatest =
    after ∙ ap (λ m. m + spacing cell) same in
    record {
      tells = inl (stands ∙ sym put);
      within = all-put (IsWithin cell (greatest_of cell (starts ++ t ∷ []))) x es
          (λ own. equal-low x.greatest (greatest_of cell (starts ++ t ∷ [])) stands)
          (all-weaker (IsWithin cell g) (IsWithin cell (greatest_of cell (starts ++ t ∷ []))) es
          (λ e k own. more e.greatest g (spacing cell) (greatest_of cell (starts ++ t ∷ [])) (k own) after) h.within);
    }
  where
    equal-low : (a b : ℕ) → b ≡ a → a ≤ b
    equal-low a b e = omega (arith, e)

    more : (a g d b : ℕ) → a ≤ g → b ≡ max g t + d → a ≤ b
    more a g d b low e = omega (arith, low, e)

    over : (g : ℕ) → g ≤ t → max g t ≡ max 0 t
    over g low = omega (arith, low)

    by_cases : StandsFor es cell starts ⊎ ((find (has_start cell) es ≡ None) × (greatest_of cell starts ≤ t))
        → max (greatest_of cell starts) t ≡ max (greatest_at cell es) t
    by_cases (inl stands) = ap (λ m. max m t) stands
    by_cases (inr none) =
        over (greatest_of cell starts) none.1 ∙ ap (λ o. max (greatest_in o) t) (sym none.0)
