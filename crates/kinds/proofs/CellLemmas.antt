-- Cells that compare equal are one cell, and so are copies.
use Rattle.std.proofs.Common.{◌≡◌, ℕ, ◌<◌, List, [], ◌∷◌, Option, Some, None, refl, ap, ap₂, subst}
use Rattle.std.specs.Cmp.{IsTotalOrder}
use Rattle.std.specs.Cmp.Lexicographic.{slice_cmp}
use Rattle.std.specs.Option.{option_cmp}
use Rattle.std.specs.Ordering.{nat_cmp, ordering_then, MatchOrdering}
use Rattle.std.specs.declared.cmp.Ordering.{Ordering}
use Rattle.std.specs.declared.cmp.Ordering.TheVariants.{Less, Equal, Greater}
use Rattle.std.proofs.lemmas.Cmp.{ranked}
use Rattle.kinds.specs.Cells.{cell_cmp}
use Rattle.kinds.specs.Queue.{limit_cmp, group_cmp}
use Rattle.kinds.specs.contracts.cell.CellClone.TheImpl as cell_copies
use Rattle.kinds.specs.contracts.cell.CellOrd.TheImpl.Laws as cell_laws
use Rattle.kinds.specs.declared.cell.Cell.{Cell}
use Rattle.kinds.specs.declared.cell.Cell.TheVariants.{Own, Env, Account, Throttle}
use Rattle.kinds.specs.declared.cell.CellLimit.{CellLimit}

pub cell_total : IsTotalOrder cell_cmp
cell_total = cell_laws.total-law

-- ---- what compares equal is equal

then_tied : (a b : Ordering) → ordering_then a b ≡ Equal → (a ≡ Equal) × (b ≡ Equal)
then_tied Less b h = cc
then_tied Equal b h = (refl, h)
then_tied Greater b h = cc

nat_tied : (x y : ℕ) → nat_cmp x y ≡ Equal → x ≡ y
nat_tied x y h = subst (λ o. MatchOrdering o (x < y) (x ≡ y) (y < x)) h (ranked x y (nat_cmp x y) refl)

slice_tied : {A : Type 0} (cmp : A → A → Ordering) → ((x y : A) → cmp x y ≡ Equal → x ≡ y) → (xs ys : List A) → slice_cmp cmp xs ys ≡ Equal → xs ≡ ys
slice_tied cmp tied [] [] h = refl
slice_tied cmp tied [] (y ∷ ys) h = cc
slice_tied cmp tied (x ∷ xs) [] h = cc
slice_tied cmp tied (x ∷ xs) (y ∷ ys) h =
    let parts = then_tied (cmp x y) (slice_cmp cmp xs ys) h in
    let head = tied x y parts.0 in
    let tail = slice_tied cmp tied xs ys parts.1 in
    cc

option_tied : {A : Type 0} (cmp : A → A → Ordering) → ((x y : A) → cmp x y ≡ Equal → x ≡ y) → (a b : Option A) → option_cmp cmp a b ≡ Equal → a ≡ b
option_tied cmp tied None None h = refl
option_tied cmp tied None (Some b) h = cc
option_tied cmp tied (Some a) None h = cc
option_tied cmp tied (Some a) (Some b) h = ap Some (tied a b h)

bytes_tied : (xs ys : List ℕ) → slice_cmp nat_cmp xs ys ≡ Equal → xs ≡ ys
bytes_tied = slice_tied nat_cmp nat_tied

pub cell_tied : (a b : Cell) → cell_cmp a b ≡ Equal → a ≡ b
cell_tied (Own f p v) (Own g q w) h =
    let first = then_tied (slice_cmp nat_cmp f g) (ordering_then (nat_cmp p q) (slice_cmp nat_cmp v w)) h in
    let second = then_tied (nat_cmp p q) (slice_cmp nat_cmp v w) first.1 in
    let a = bytes_tied f g first.0 in
    let b = nat_tied p q second.0 in
    let c = bytes_tied v w second.1 in
    cc
cell_tied (Env v) (Env w) h = ap Env (bytes_tied v w h)
cell_tied (Account v) (Account w) h = ap Account (bytes_tied v w h)
cell_tied (Throttle f l p b k v) (Throttle g m q c j w) h =
    let one = then_tied (slice_cmp nat_cmp f g) (ordering_then (nat_cmp l m) (ordering_then (nat_cmp p q) (ordering_then (nat_cmp b c) (ordering_then (option_cmp (slice_cmp nat_cmp) k j) (slice_cmp nat_cmp v w))))) h in
    let two = then_tied (nat_cmp l m) (ordering_then (nat_cmp p q) (ordering_then (nat_cmp b c) (ordering_then (option_cmp (slice_cmp nat_cmp) k j) (slice_cmp nat_cmp v w)))) one.1 in
    let three = then_tied (nat_cmp p q) (ordering_then (nat_cmp b c) (ordering_then (option_cmp (slice_cmp nat_cmp) k j) (slice_cmp nat_cmp v w))) two.1 in
    let four = then_tied (nat_cmp b c) (ordering_then (option_cmp (slice_cmp nat_cmp) k j) (slice_cmp nat_cmp v w)) three.1 in
    let five = then_tied (option_cmp (slice_cmp nat_cmp) k j) (slice_cmp nat_cmp v w) four.1 in
    let e = bytes_tied f g one.0 in
    let n = nat_tied l m two.0 in
    let o = nat_tied p q three.0 in
    let r = nat_tied b c four.0 in
    let s = option_tied (slice_cmp nat_cmp) bytes_tied k j five.0 in
    let t = bytes_tied v w five.1 in
    cc
cell_tied a b h = cc

limit_tied : (a b : CellLimit) → limit_cmp a b ≡ Equal → a ≡ b
limit_tied a b h =
    let parts = then_tied (cell_cmp a.cell b.cell) (nat_cmp a.limit b.limit) h in
    let cell = cell_tied a.cell b.cell parts.0 in
    let limit = nat_tied a.limit b.limit parts.1 in
    ap₂ (λ c n. record { cell = c; limit = n }) cell limit

pub group_tied : (a b : List CellLimit × Option Cell) → group_cmp a b ≡ Equal → a ≡ b
group_tied a b h =
    let parts = then_tied (slice_cmp limit_cmp a.0 b.0) (option_cmp cell_cmp a.1 b.1) h in
    let cells = slice_tied limit_cmp limit_tied a.0 b.0 parts.0 in
    let start = option_tied cell_cmp cell_tied a.1 b.1 parts.1 in
    ap₂ (λ c s. (c, s)) cells start

-- ---- a copy is equal

pub cell_same : (a b : Cell) → cell_copies.ghosts.is_clone a b → b ≡ a
cell_same (Own f p v) (Own g q w) h = cc
cell_same (Env v) (Env w) h = cc
cell_same (Account v) (Account w) h = cc
cell_same (Throttle f l p b None v) (Throttle g m q c None w) h = cc
cell_same (Throttle f l p b None v) (Throttle g m q c (Some j) w) h = absurd h.1.1.1.1.0
cell_same (Throttle f l p b (Some k) v) (Throttle g m q c None w) h = absurd h.1.1.1.1.0
cell_same (Throttle f l p b (Some k) v) (Throttle g m q c (Some j) w) h = cc
cell_same a b h = absurd h
