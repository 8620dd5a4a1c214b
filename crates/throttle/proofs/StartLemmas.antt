-- Starts of a cell by the greatest that stands for them, and the list of the greatests.
use Rattle.std.proofs.Common.{◌≡◌, ℕ, ◌+◌, ◌*◌, nat_le, cond, ◌&&◌, List, [], ◌∷◌, ◌++◌, Option, Some, None, refl, ap, ◌∙◌, arith, length, max}
use Rattle.std.specs.List.{find}
use Rattle.std.specs.Ordering.{is_eq, match_ordering}
use Rattle.std.specs.declared.cmp.Ordering.{Ordering}
use Rattle.std.specs.declared.cmp.Ordering.TheVariants.{Less, Equal, Greater}
use Rattle.std.proofs.lemmas.Bool.Decides.{nat_tests}
use Rattle.std.proofs.lemmas.Cmp.{tied_itself}
use Rattle.kinds.proofs.CellLemmas.{cell_total}
use Rattle.kinds.specs.Cells.{cell_cmp, is_cell, spacing, slack, lets_start, greatest_of, has_start, put_start}
use Rattle.kinds.specs.declared.cell.Cell.{Cell}
use Rattle.kinds.specs.declared.cell.StartEntry.{StartEntry}

-- ---- lists of starts

le_max : (a b x : ℕ) → (nat_le a x && nat_le b x) ≡ nat_le (max a b) x
le_max a b x = grind (arith, nat_tests)

-- the inequality for each start is the one for the greatest
pub lets_greatest : (cell : Cell) (starts : List ℕ) (t : ℕ) → lets_start cell starts t ≡ nat_le (greatest_of cell starts) (t + slack cell)
lets_greatest cell [] t = grind (arith, nat_tests)
lets_greatest cell (s ∷ later) t =
    ap (λ b. nat_le (s + (1 + length later) * spacing cell) (t + slack cell) && b) (lets_greatest cell later t)
    ∙ le_max (s + (1 + length later) * spacing cell) (greatest_of cell later) (t + slack cell)

length_last : (xs : List ℕ) (t : ℕ) → length (xs ++ t ∷ []) ≡ length xs + 1
length_last [] t = refl
length_last (x ∷ xs) t = let more = length_last xs t in omega (arith, more)

times_more : (n d : ℕ) → (1 + (n + 1)) * d ≡ (1 + n) * d + d
times_more n d = grind arith

max_both : (a b c d t g : ℕ) → b ≡ a + d → c ≡ max g t + d → max b c ≡ max (max a g) t + d
max_both a b c d t g h k = omega (arith, h, k)

-- one start more
pub greatest_after : (cell : Cell) (starts : List ℕ) (t : ℕ) → greatest_of cell (starts ++ t ∷ []) ≡ max (greatest_of cell starts) t + spacing cell
greatest_after cell [] t = grind arith
greatest_after cell (s ∷ later) t =
    max_both (s + (1 + length later) * spacing cell) (s + (1 + length (later ++ t ∷ [])) * spacing cell) (greatest_of cell (later ++ t ∷ [])) (spacing cell) t (greatest_of cell later)
    (let more = ap (λ n. (1 + n) * spacing cell) (length_last later t) ∙ times_more (length later) (spacing cell) in omega (arith, more))
    (greatest_after cell later t)

-- ---- the list of entries

-- what was put is found
pub put_found : (x : StartEntry) (es : List StartEntry) → find (has_start x.cell) (put_start x es) ≡ Some x
put_found x [] = itself x
  where
    itself : (x : StartEntry) → cond (is_cell x.cell x.cell) (Some x) None ≡ Some x
    itself x = ap (λ o. cond (is_eq o) (Some x) None) (tied_itself cell_total x.cell)
put_found x (e ∷ es) = by_order (cell_cmp x.cell e.cell) refl (put_found x es)
  where
    itself : (rest : Option StartEntry) → cond (is_cell x.cell x.cell) (Some x) rest ≡ Some x
    itself rest = ap (λ o. cond (is_eq o) (Some x) rest) (tied_itself cell_total x.cell)

    by_order : (o : Ordering) → cell_cmp x.cell e.cell ≡ o → find (has_start x.cell) (put_start x es) ≡ Some x → find (has_start x.cell) (match_ordering o (x ∷ e ∷ es) (x ∷ es) (e ∷ put_start x es)) ≡ Some x
    by_order Less h more = itself (find (has_start x.cell) (e ∷ es))
    by_order Equal h more = itself (find (has_start x.cell) es)
    by_order Greater h more = ap (λ o. cond (is_eq o) (Some e) (find (has_start x.cell) (put_start x es))) h ∙ more
