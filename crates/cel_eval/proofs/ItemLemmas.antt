-- The items of a list that an expression writes out.
use Rattle.std.proofs.Common.{◌≡◌, ℕ, zero, suc, ◌+◌, ◌-◌, ◌<◌, ◌≤◌, List, [], ◌∷◌, ◌++◌, length, get_or, map, Some, None, refl, ap, arith}
use Rattle.cel_eval.specs.Data.{Datum, Data, none, more}
use Rattle.cel_eval.specs.Operations.{written_item, count}
use Rattle.cel_eval.specs.Operands.{datum_of, data_of, data_from}
use Rattle.cel_eval.specs.declared.operand.Operand.{Operand}

pub item_there : (xs : List Operand) (k : ℕ) (d : Operand) → k < length xs → written_item (data_of xs) k ≡ Some (datum_of (get_or xs k d))
item_there [] k d h = absurd (omega arith)
item_there (x ∷ xs) zero d h = refl
item_there (x ∷ xs) (suc k) d h = item_there xs k d (omega arith)

pub no_item : (xs : List Operand) (k : ℕ) → length xs ≤ k → written_item (data_of xs) k ≡ None
no_item [] k h = refl
no_item (x ∷ xs) zero h = absurd (omega arith)
no_item (x ∷ xs) (suc k) h = no_item xs k (omega arith)

pub count_all : (xs : List Operand) → count (data_of xs) ≡ length xs
count_all [] = refl
count_all (x ∷ xs) = grind (arith, count_all xs)
