-- Each run that wants to find out what comes next gets its item, one noted run after the other.
use Rattle.std.proofs.Common.{◌≡◌, ℕ, ◌<◌, ◌≤◌, ◌==◌, Bool, true, false, not, cond, ◌&&◌, List, [], ◌∷◌, map, filter, find, Option, Some, None, nat_lt, refl, sym, ap, ◌∙◌, arith, eqb-true}
use Rattle.std.specs.List.{AllByRecursion}
use Rattle.std.specs.List.Sorted.{IsStrictlySortedBy}
use Rattle.std.specs.Ordering.{nat_cmp}
use Rattle.std.specs.declared.cmp.Ordering.TheVariants.{Less}
use Rattle.std.proofs.lemmas.Bool.{cond-false}
use Rattle.std.proofs.lemmas.Bool.Decides.{nat_tests}
use Rattle.std.proofs.lemmas.Map.Keys.{sorted_head, sorted_tail}
use Rattle.lists.proofs.Elements.{all-weaker}
use Rattle.runs.specs.Runs.{run_number}
use Rattle.run_model.specs.Making.{discover_all, discover_one, has_discovery, new_item, queue_new, step_target}
use Rattle.run_model.specs.State.{State, Run, live_run}
use Rattle.machine.specs.Discovered.{discover_at}
use Rattle.machine.specs.Held.{is_left}
use Rattle.machine.specs.Words.{queue_at, wants_at}
use Rattle.machine.proofs.HeldMaking.{left-before}

abbrev left_in : State → Run → Bool
left_in s r = is_left s.items s.issues r

-- ## Those that aren't noted get nothing

left-one : (b : Bool) (r q : Run) (s : State) → left_in (cond b (queue_new r step_target s) s) q ≡ true
    → left_in s q ≡ true
left-one true r q s h = left-before (new_item r step_target s) s.items s.issues q h
left-one false r q s h = h

abbrev OnlyNoted : (ℕ → Bool) → State → List Run → Type 0
OnlyNoted p s rs = AllByRecursion (λ (q : Run). left_in s q ≡ true → p q.number ≡ true) rs

only-after : (p : ℕ → Bool) (r : Run) (s : State) (rs : List Run) → OnlyNoted p s rs
    → OnlyNoted p (discover_one r s) rs
only-after p r s rs h =
    all-weaker (λ (q : Run). left_in s q ≡ true → p q.number ≡ true)
    (λ (q : Run). left_in (discover_one r s) q ≡ true → p q.number ≡ true) rs
    (λ q only left. only (left-one (left_in s r) r q s left)) h

nothing-for : (r : Run) (s : State) (b : Bool) → left_in s r ≡ b → (b ≡ true → false ≡ true)
    → cond (left_in s r) (queue_new r step_target s) s ≡ s
nothing-for r s true e h = let clash : false ≡ true = h refl in cc
nothing-for r s false e h = cond-false (left_in s r) (queue_new r step_target s) s e

pick-by : (p : ℕ → Bool) (r : Run) (rs : List Run) (s : State) → (left_in s r ≡ true → p r.number ≡ true)
    → discover_all rs (discover_one r s) ≡ discover_all (filter (λ (q : Run). p q.number) rs) (discover_one r s)
    → (b : Bool) → p r.number ≡ b
    → discover_all rs (discover_one r s)
    ≡ discover_all (cond b (r ∷ filter (λ (q : Run). p q.number) rs) (filter (λ (q : Run). p q.number) rs)) s
pick-by p r rs s only rest true e = rest
pick-by p r rs s only rest false e =
    rest ∙ ap (discover_all (filter (λ (q : Run). p q.number) rs))
    (nothing-for r s (left_in s r) refl (λ left. sym e ∙ only left))

pub pick-all : (p : ℕ → Bool) (rs : List Run) (s : State) → OnlyNoted p s rs
    → discover_all rs s ≡ discover_all (filter (λ (q : Run). p q.number) rs) s
pick-all p [] s h = refl
pick-all p (r ∷ rs) s h =
    pick-by p r rs s h.0 (pick-all p rs (discover_one r s) (only-after p r s rs h.1)) (p r.number) refl

-- ## The first of those that are noted

-- all numbers are greater
abbrev Above : ℕ → List Run → Type 0
Above k rs = AllByRecursion (λ (r : Run). k < r.number) rs

less-than : (a b : ℕ) → nat_cmp a b ≡ Less → a < b
less-than a b h = grind (arith, nat_tests, h)

pub above-head : (r : Run) (rs : List Run) → AllByRecursion (λ n. nat_cmp r.number n ≡ Less) (map run_number rs)
    → Above r.number rs
above-head r [] h = tt
above-head r (q ∷ rs) h = (less-than r.number q.number h.0, above-head r rs h.1)

above-more : (k n : ℕ) (rs : List Run) → k ≤ n → Above n rs → Above k rs
above-more k n rs low h =
    all-weaker (λ (r : Run). n < r.number) (λ (r : Run). k < r.number) rs
    (λ r (more : n < r.number). omega (arith, low, more)) h

other : (k n : ℕ) → k < n → (k == n) ≡ false
other k n h = grind (arith, nat_tests, h)

pub none-above : (k : ℕ) (rs : List Run) → Above k rs → find (λ (r : Run). k == r.number) rs ≡ None
none-above k [] h = refl
none-above k (r ∷ rs) h =
    cond-false (k == r.number) (Some r) (find (λ (q : Run). k == q.number) rs) (other k r.number h.0)
    ∙ none-above k rs h.1

-- the tests agree on all but one number
abbrev Parted : ℕ → (p q : ℕ → Bool) → Type 0
Parted k p q = (n : ℕ) → q n ≡ cond (k == n) false (p n)

pub same-above : (k : ℕ) (p q : ℕ → Bool) (rs : List Run) → Parted k p q → Above k rs
    → filter (λ (r : Run). q r.number) rs ≡ filter (λ (r : Run). p r.number) rs
same-above k p q [] parted h = refl
same-above k p q (r ∷ rs) parted h =
    ap (λ b. cond b (r ∷ filter (λ (x : Run). q x.number) rs) (filter (λ (x : Run). q x.number) rs))
    (parted r.number ∙ cond-false (k == r.number) false (p r.number) (other k r.number h.0))
    ∙ ap (λ xs. cond (p r.number) (r ∷ xs) xs) (same-above k p q rs parted h.1)

-- ## The first of those that are noted gets its item first

abbrev picked : (ℕ → Bool) → List Run → List Run
picked p rs = filter (λ (r : Run). p r.number) rs

abbrev found_at : ℕ → List Run → Option Run
found_at k rs = find (λ (r : Run). k == r.number) rs

abbrev Steps : ℕ → (p q : ℕ → Bool) → List Run → State → Type 0
Steps k p q rs s = discover_all (picked p rs) s ≡ discover_all (picked q rs) (discover_at (found_at k rs) s)

step-here : (k : ℕ) (p q : ℕ → Bool) (r : Run) (rs : List Run) (s : State) → p k ≡ true → Parted k p q
    → Above r.number rs → (k == r.number) ≡ true → Steps k p q (r ∷ rs) s
step-here k p q r rs s pk parted above t =
    let at : k ≡ r.number = eqb-true k r.number t in
    let low : k ≤ r.number = omega (arith, at) in
    ap (λ b. discover_all (cond b (r ∷ picked p rs) (picked p rs)) s) (ap p (sym at) ∙ pk)
    ∙ ap (λ xs. discover_all xs (discover_one r s))
    (sym (same-above k p q rs parted (above-more k r.number rs low above)))
    ∙ ap (λ b. discover_all (picked q rs) (discover_at (cond b (Some r) (found_at k rs)) s)) (sym t)
    ∙ ap (λ b. discover_all (cond b (r ∷ picked q rs) (picked q rs)) (discover_at (found_at k (r ∷ rs)) s))
    (sym (parted r.number ∙ ap (λ b. cond b false (p r.number)) t))

step-before : (k : ℕ) (p q : ℕ → Bool) (r : Run) (rs : List Run) (s : State) → p r.number ≡ false → Parted k p q
    → (k == r.number) ≡ false → Steps k p q rs s → Steps k p q (r ∷ rs) s
step-before k p q r rs s off parted f rest =
    ap (λ b. discover_all (cond b (r ∷ picked p rs) (picked p rs)) s) off ∙ rest
    ∙ ap (λ o. discover_all (picked q rs) (discover_at o s))
    (sym (cond-false (k == r.number) (Some r) (found_at k rs) f))
    ∙ ap (λ b. discover_all (cond b (r ∷ picked q rs) (picked q rs)) (discover_at (found_at k (r ∷ rs)) s))
    (sym (parted r.number ∙ cond-false (k == r.number) false (p r.number) f ∙ off))

step-behind : (k : ℕ) (p q : ℕ → Bool) (rs : List Run) (s : State) → Parted k p q → Above k rs → Steps k p q rs s
step-behind k p q rs s parted above =
    ap (λ xs. discover_all xs s) (sym (same-above k p q rs parted above))
    ∙ ap (λ o. discover_all (picked q rs) (discover_at o s)) (sym (none-above k rs above))

not-yet : (k n : ℕ) (p : ℕ → Bool) → ((m : ℕ) → p m ≡ true → k ≤ m) → n < k → p n ≡ false
not-yet k n p least low = by_test (p n) refl
  where
    by_test : (b : Bool) → p n ≡ b → b ≡ false
    by_test false e = refl
    by_test true e = let high : k ≤ n = least n e in absurd (omega (arith, high, low))

step-by : (k : ℕ) (p q : ℕ → Bool) (r : Run) (rs : List Run) (s : State) → p k ≡ true
    → ((m : ℕ) → p m ≡ true → k ≤ m) → Parted k p q → Above r.number rs → Steps k p q rs s
    → (b : Bool) → (k == r.number) ≡ b → (c : Bool) → nat_lt r.number k ≡ c → Steps k p q (r ∷ rs) s
step-by k p q r rs s pk least parted above rest true t c e = step-here k p q r rs s pk parted above t
step-by k p q r rs s pk least parted above rest false f true e =
    step-before k p q r rs s (not-yet k r.number p least (lower r.number k e)) parted f rest
  where
    lower : (n k : ℕ) → nat_lt n k ≡ true → n < k
    lower n k h = grind (arith, nat_tests, h)
step-by k p q r rs s pk least parted above rest false f false e =
    let low : k < r.number = higher k r.number f e in
    let below : k ≤ r.number = omega (arith, low) in
    step-behind k p q (r ∷ rs) s parted (low, above-more k r.number rs below above)
  where
    higher : (k n : ℕ) → (k == n) ≡ false → nat_lt n k ≡ false → k < n
    higher k n f h = grind (arith, nat_tests, f, h)

pub first-step : (k : ℕ) (p q : ℕ → Bool) (rs : List Run) (s : State) → p k ≡ true
    → ((m : ℕ) → p m ≡ true → k ≤ m) → Parted k p q → IsStrictlySortedBy nat_cmp (map run_number rs)
    → Steps k p q rs s
first-step k p q [] s pk least parted sorted = refl
first-step k p q (r ∷ rs) s pk least parted sorted =
    step-by k p q r rs s pk least parted (above-head r rs (sorted_head nat_cmp r.number (map run_number rs) sorted))
    (first-step k p q rs s pk least parted (sorted_tail nat_cmp r.number (map run_number rs) sorted))
    (k == r.number) refl (nat_lt r.number k) refl

-- ## A run by its number

passes-by : {X : Type 0} (p : X → Bool) (y x : X) (rest : Option X) → (rest ≡ Some x → p x ≡ true)
    → (b : Bool) → p y ≡ b → cond b (Some y) rest ≡ Some x → p x ≡ true
passes-by p y x rest later true e h = let same : y ≡ x = cc in ap p (sym same) ∙ e
passes-by p y x rest later false e h = later h

found-passes : {X : Type 0} (p : X → Bool) (xs : List X) (x : X) → find p xs ≡ Some x → p x ≡ true
found-passes p [] x h = cc
found-passes p (y ∷ ys) x h =
    passes-by p y x (find p ys) (λ there. found-passes p ys x there) (p y) refl h

pub at-wanted : (run : ℕ) (found : Option Run) (s : State) → live_run run s ≡ found
    → wants_at run found s ≡ true → discover_at found s ≡ queue_at found step_target s
at-wanted run None s there h = cc
at-wanted run (Some r) s there h =
    let at : run ≡ r.number = eqb-true run r.number
    (found-passes (λ (q : Run). run == q.number) s.live r there) in
    ap (λ b. cond b (queue_new r step_target s) s)
    (ap (λ n. r.wanted && not (has_discovery s n)) (sym at) ∙ h)

pub at-unwanted : (run : ℕ) (found : Option Run) (s : State) → live_run run s ≡ found
    → wants_at run found s ≡ false → discover_at found s ≡ s
at-unwanted run None s there h = refl
at-unwanted run (Some r) s there h =
    let at : run ≡ r.number = eqb-true run r.number
    (found-passes (λ (q : Run). run == q.number) s.live r there) in
    ap (λ b. cond b (queue_new r step_target s) s)
    (ap (λ n. r.wanted && not (has_discovery s n)) (sym at) ∙ h)
