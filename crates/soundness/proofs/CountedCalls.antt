-- How many queued items and open calls there are of a run and a target, where items and calls come and go.
use Rattle.std.proofs.Common.{◌≡◌, ◌≢◌, ℕ, inl, inr, ◌+◌, ◌≤◌, ◌==◌, Bool, true, false, not, ◌&&◌, ◌||◌, cond, List, [], ◌∷◌, ◌++◌, map, filter, length, refl, sym, ap, ap₂, ◌∙◌, subst, bytes_eq, nat_lt, arith, eq-eqb}
use Rattle.std.specs.List.{AllByRecursion, list_any}
use Rattle.kinds.specs.Queue.{insert_item}
use Rattle.kinds.specs.declared.store.Item.{Item}
use Rattle.run_model.specs.Fit.{item_of}
use Rattle.run_model.specs.Laws.{IsIn}
use Rattle.run_model.specs.Sound.{ArePairwise, is_step}
use Rattle.run_model.specs.State.{Issue}
use Rattle.run_model.proofs.Apart.{not-same}
use Rattle.run_model.proofs.Members.{in-all}
use Rattle.run_model.proofs.Tidied.{filter-all}
use Rattle.run_model.proofs.WaitingCounts.{counted, one_if, own-step, waits_at}
use Rattle.soundness.proofs.Carried.{IsFor}

abbrev pub item_run : Item → ℕ
item_run i = i.run

abbrev pub item_target : Item → List ℕ
item_target i = i.target

abbrev pub issue_run : Issue → ℕ
issue_run i = i.item.run

abbrev pub issue_target : Issue → List ℕ
issue_target i = i.item.target

abbrev pub queued : ℕ → List ℕ → List Item → ℕ
queued run name items = counted item_run item_target run name items

abbrev pub opened : ℕ → List ℕ → List Issue → ℕ
opened run name issues = counted issue_run issue_target run name issues

-- ## Tests

pub either-none : (a b : Bool) → (a || b) ≡ false → (a ≡ false) × (b ≡ false)
either-none true b e = absurd (cc)
either-none false b e = (refl, e)

and-false : (a b : Bool) → b ≡ false → (a && b) ≡ false
and-false true b e = e
and-false false b e = refl

-- another run
pub other-run : (run at : ℕ) (name hash : List ℕ) → (run == at) ≡ false → is_step run name at hash ≡ false
other-run run at name hash e = ap (λ b. b && bytes_eq name hash) e

-- another name
pub other-name : (run at : ℕ) (name hash : List ℕ) → bytes_eq name hash ≡ false → is_step run name at hash ≡ false
other-name run at name hash e = and-false (run == at) (bytes_eq name hash) e

pub this-step : (run at : ℕ) (name hash : List ℕ) → run ≡ at → name ≡ hash → is_step run name at hash ≡ true
this-step run at name hash a b =
    subst (λ n. is_step run name n hash ≡ true) a
    (subst (λ n. is_step run name run n ≡ true) b (own-step run name))

-- ## Any lists

module _ {X : Type 0} (run_of : X → ℕ) (hash_of : X → List ℕ) (run : ℕ) (name : List ℕ) where
  abbrev passes : X → Bool
  passes x = waits_at run_of hash_of run name x

  pub counted-first : (x : X) (xs : List X)
      → counted run_of hash_of run name (x ∷ xs)
      ≡ counted run_of hash_of run name xs + one_if (is_step run name (run_of x) (hash_of x))
  counted-first x xs = one (passes x)
    where
      one : (b : Bool) → length (cond b (x ∷ filter passes xs) (filter passes xs))
          ≡ length (filter passes xs) + cond b 1 0
      one true = omega arith
      one false = omega arith

  pub counted-both : (xs ys : List X)
      → counted run_of hash_of run name (xs ++ ys)
      ≡ counted run_of hash_of run name xs + counted run_of hash_of run name ys
  counted-both [] ys = omega arith
  counted-both (x ∷ xs) ys =
      let a = counted-first x (xs ++ ys) in
      let b = counted-first x xs in
      let c = counted-both xs ys in
      omega (arith, a, b, c)

  pub counted-none : (xs : List X) → list_any passes xs ≡ false → counted run_of hash_of run name xs ≡ 0
  counted-none [] h = refl
  counted-none (x ∷ xs) h = by_test (passes x) h (counted-none xs)
    where
      by_test : (b : Bool) → (b || list_any passes xs) ≡ false
          → (list_any passes xs ≡ false → counted run_of hash_of run name xs ≡ 0)
          → length (cond b (x ∷ filter passes xs) (filter passes xs)) ≡ 0
      by_test true e more = absurd (cc)
      by_test false e more = more e

  pub counted-some : (xs : List X) → list_any passes xs ≡ true → 1 ≤ counted run_of hash_of run name xs
  counted-some [] h = absurd (cc)
  counted-some (x ∷ xs) h = by_test (passes x) h (counted-some xs)
    where
      by_test : (b : Bool) → (b || list_any passes xs) ≡ true
          → (list_any passes xs ≡ true → 1 ≤ counted run_of hash_of run name xs)
          → 1 ≤ length (cond b (x ∷ filter passes xs) (filter passes xs))
      by_test true e more = omega arith
      by_test false e more = more e

  -- one goes by its number, which no other has
  pub counted-taken : (number_of : X → ℕ) (x : X) (xs : List X) → IsIn x xs
      → ArePairwise (λ a later. number_of a ≢ number_of later) xs
      → counted run_of hash_of run name (filter (λ y. not (number_of x == number_of y)) xs)
      + one_if (is_step run name (run_of x) (hash_of x))
      ≡ counted run_of hash_of run name xs
  counted-taken number_of x [] there apart = absurd there
  counted-taken number_of x (y ∷ ys) (inl same) apart =
      subst (λ z. counted run_of hash_of run name (filter (λ v. not (number_of z == number_of v)) (y ∷ ys))
      + one_if (is_step run name (run_of z) (hash_of z)) ≡ counted run_of hash_of run name (y ∷ ys)) same
      (ap (λ zs. counted run_of hash_of run name zs + one_if (is_step run name (run_of y) (hash_of y))) gone
      ∙ sym (counted-first y ys))
    where
      all-others : (zs : List X) → AllByRecursion (λ z. number_of y ≢ number_of z) zs
          → AllByRecursion (λ z. not (number_of y == number_of z) ≡ true) zs
      all-others [] h = tt
      all-others (z ∷ zs) h = (ap not (not-same (number_of y) (number_of z) h.0), all-others zs h.1)

      gone : filter (λ z. not (number_of y == number_of z)) (y ∷ ys) ≡ ys
      gone = rw (eq-eqb (number_of y) (number_of y) refl)
          (filter-all (λ z. not (number_of y == number_of z)) ys (all-others ys apart.0))
  counted-taken number_of x (y ∷ ys) (inr there) apart =
      let more = counted-taken number_of x ys there apart.1 in
      let left : List X = filter (λ z. not (number_of x == number_of z)) ys in
      let a = counted-first y left in
      let b = counted-first y ys in
      ap (λ zs. counted run_of hash_of run name zs + one_if (is_step run name (run_of x) (hash_of x))) stays
      ∙ (omega (arith, a, b, more))
    where
      other : number_of y ≢ number_of x
      other = in-all (λ z. number_of y ≢ number_of z) x ys there apart.0

      stays : filter (λ z. not (number_of x == number_of z)) (y ∷ ys)
          ≡ y ∷ filter (λ z. not (number_of x == number_of z)) ys
      stays = rw (not-same (number_of x) (number_of y) (λ e. other (sym e))) refl

-- of a run that isn't there yet
pub counted-over : {X : Type 0} (run_of : X → ℕ) (hash_of : X → List ℕ) (runs run : ℕ) (name : List ℕ)
    (xs : List X) → run ≡ runs + 1 → AllByRecursion (λ x. run_of x ≤ runs) xs
    → counted run_of hash_of run name xs ≡ 0
counted-over run_of hash_of runs run name [] next h = refl
counted-over run_of hash_of runs run name (x ∷ xs) next h =
    let other : (run == run_of x) ≡ false =
    not-same run (run_of x) (λ same. let low = h.0 in omega (arith, low, next, same)) in
    rw other (counted-over run_of hash_of runs run name xs next h.1)

-- ## Items

pub queued-more : (run : ℕ) (name : List ℕ) (i : Item) (items : List Item)
    → queued run name (insert_item i items) ≡ queued run name items + one_if (is_step run name i.run i.target)
queued-more run name i [] = counted-first item_run item_target run name i []
queued-more run name i (j ∷ items) = by_test (nat_lt i.number j.number) (queued-more run name i items)
  where
    by_test : (b : Bool)
        → queued run name (insert_item i items) ≡ queued run name items + one_if (is_step run name i.run i.target)
        → queued run name (cond b (i ∷ j ∷ items) (j ∷ insert_item i items))
        ≡ queued run name (j ∷ items) + one_if (is_step run name i.run i.target)
    by_test true more = counted-first item_run item_target run name i (j ∷ items)
    by_test false more =
        let a = counted-first item_run item_target run name j (insert_item i items) in
        let b = counted-first item_run item_target run name j items in
        omega (arith, a, b, more)

pub queued-opened : (run : ℕ) (name : List ℕ) (is : List Issue)
    → queued run name (map item_of is) ≡ opened run name is
queued-opened run name [] = refl
queued-opened run name (i ∷ is) =
    let a = counted-first item_run item_target run name i.item (map item_of is) in
    let b = counted-first issue_run issue_target run name i is in
    let c = queued-opened run name is in
    omega (arith, a, b, c)

-- an item with the run and the target of another one counts as that one
pub step-same : (run at : ℕ) (name hash : List ℕ) (i : Item) → IsFor at hash i
    → one_if (is_step run name i.run i.target) ≡ one_if (is_step run name at hash)
step-same run at name hash i own = ap₂ (λ (n : ℕ) (target : List ℕ). one_if (is_step run name n target)) own.0 own.1
