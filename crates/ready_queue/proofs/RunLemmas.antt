-- Items by their runs.
use Rattle.std.proofs.Common.{◌≡◌, ℕ, ◌==◌, nat_lt, Bool, true, false, cond, List, [], ◌∷◌, refl, sym, ap, ◌∙◌, arith}
use Rattle.std.specs.Ordering.{nat_cmp, is_lt}
use Rattle.std.proofs.lemmas.Bool.Decides.{nat_tests}
use Rattle.kinds.specs.Queue.{number_of, insert_item}
use Rattle.kinds.specs.declared.store.Item.{Item}
use Rattle.lists.specs.Entries.{insert_in}

-- items that stand by number alone have the rank 0
abbrev pub no_rank : Item → ℕ
no_rank item = 0

lt_same : (a b : ℕ) → nat_lt a b ≡ is_lt (nat_cmp a b)
lt_same a b = grind (arith, nat_tests)

pub same_insert : (x : Item) (ys : List Item) → insert_item x ys ≡ insert_in no_rank number_of x ys
same_insert x [] = refl
same_insert x (y ∷ ys) = ap (λ b. cond b (x ∷ y ∷ ys) (y ∷ insert_item x ys)) (lt_same x.number y.number) ∙ ap (λ r. cond (is_lt (nat_cmp x.number y.number)) (x ∷ y ∷ ys) (y ∷ r)) (same_insert x ys)
