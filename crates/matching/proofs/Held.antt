-- An entry that came and went.
use Rattle.std.proofs.Common.{◌≡◌, ℕ, cond, List, [], ◌∷◌, None, refl, ap, ap₂, ◌∙◌}
use Rattle.std.specs.List.{find}
use Rattle.std.specs.Ordering.{nat_cmp, is_lt}
use Rattle.lists.specs.Entries.{has, without, insert_in, insert_by, key_of, pair_cmp}
use Rattle.lists.proofs.Keyed.{without-insert}
use Rattle.ordered.proofs.Apart.{number_tells, inserts}

pub put_undone : {X : Type 0} (rank number : X → ℕ) (x : X) (n : ℕ) (es now left : List X) → n ≡ number x → find (has number (number x)) es ≡ None → now ≡ insert_in rank number x es → left ≡ without number n now → left ≡ es
put_undone rank number x n es now left e none h k =
    k ∙ ap (without number n) h ∙ ap (λ m. without number m (insert_in rank number x es)) e
    ∙ without-insert pair_cmp (key_of rank number) (inserts rank number) (has number (number x)) x es (number_tells.self (number x)) none

-- where all ranks are 0, entries stand by number alone
pub insert_in-by : {X : Type 0} (rank number : X → ℕ) → ((e : X) → rank e ≡ 0) → (x : X) (es : List X) → insert_in rank number x es ≡ insert_by number x es
insert_in-by rank number zero x [] = refl
insert_in-by rank number zero x (e ∷ es) =
    ap₂ (λ a b. cond (is_lt (pair_cmp (a, number x) (b, number e))) (x ∷ e ∷ es) (e ∷ insert_in rank number x es)) (zero x) (zero e)
    ∙ ap (λ more. cond (is_lt (nat_cmp (number x) (number e))) (x ∷ e ∷ es) (e ∷ more)) (insert_in-by rank number zero x es)
