-- How many entries wait under a name of a run, and for what the run waits there: the ways in which both change alike.
use Rattle.std.proofs.Common.{◌≡◌, ℕ, inl, inr, ◌+◌, ◌<◌, ◌≤◌, ◌==◌, Bool, true, false, not, ◌&&◌, cond, List, [], ◌∷◌, ◌++◌, filter, find, length, Option, Some, None, option_map, refl, sym, ap, ◌∙◌, subst, bytes_eq, arith, eq-eqb, eqb-true}
use Rattle.std.specs.List.{AllByRecursion}
use Rattle.std.specs.Option.{option_and_then}
use Rattle.kinds.specs.RunSteps.{no_steps, pending_of}
use Rattle.kinds.specs.declared.store.Pending.{Pending}
use Rattle.kinds.specs.declared.store.Pending.TheVariants as pending
use Rattle.lists.proofs.Texts.{bytes_same, bytes_self}
use Rattle.run_model.specs.Laws.{IsIn}
use Rattle.run_model.specs.Recording.{changed}
use Rattle.run_model.specs.Sound.{ArePairwise, is_step}
use Rattle.run_model.specs.State.{Run}
use Rattle.run_model.proofs.Apart.{differs, not-same}
use Rattle.run_model.proofs.FitEvents.{none-left}
use Rattle.run_model.proofs.Members.{in-all}
use Rattle.run_model.proofs.SettlingLists.{find-filter, found-passes}
use Rattle.run_model.proofs.Tidied.{filter-all}
use Rattle.run_model.proofs.Unrecorded.{change, found-changed}
use Rattle.run_model.proofs.WaitingNames.{under}

-- ## Lists

-- what passes one test passes the other
pub filter-kept : {X : Type 0} (p q : X → Bool) (xs : List X) → ((x : X) → p x ≡ true → q x ≡ true)
    → filter p (filter q xs) ≡ filter p xs
filter-kept p q [] w = refl
filter-kept p q (x ∷ xs) w = by_tests (p x) (q x) refl (w x) (filter-kept p q xs w)
  where
    by_tests : (b c : Bool) → p x ≡ b → (b ≡ true → c ≡ true) → filter p (filter q xs) ≡ filter p xs
        → filter p (cond c (x ∷ filter q xs) (filter q xs)) ≡ cond b (x ∷ filter p xs) (filter p xs)
    by_tests true true e k more = rw e (ap (λ ys. x ∷ ys) more)
    by_tests true false e k more = let no : false ≡ true = k refl in absurd (cc)
    by_tests false true e k more = rw e more
    by_tests false false e k more = more

-- what passes one test doesn't pass the other
pub filter-gone : {X : Type 0} (p q : X → Bool) (xs : List X) → ((x : X) → p x ≡ true → q x ≡ false)
    → filter p (filter q xs) ≡ []
filter-gone p q [] w = refl
filter-gone p q (x ∷ xs) w = by_tests (p x) (q x) refl (w x) (filter-gone p q xs w)
  where
    by_tests : (b c : Bool) → p x ≡ b → (b ≡ true → c ≡ false) → filter p (filter q xs) ≡ []
        → filter p (cond c (x ∷ filter q xs) (filter q xs)) ≡ []
    by_tests true true e k more = let no : true ≡ false = k refl in absurd (cc)
    by_tests true false e k more = more
    by_tests false true e k more = rw e more
    by_tests false false e k more = more

pub flip-eq : (a b : ℕ) → (a == b) ≡ (b == a)
flip-eq a b = by_test (a == b) refl
  where
    by_test : (c : Bool) → (a == b) ≡ c → c ≡ (b == a)
    by_test true e = sym (eq-eqb b a (sym (eqb-true a b e)))
    by_test false e = sym (not-same b a (λ same. differs a b e (sym same)))

-- ## Names of steps

pub both-true : (a b : Bool) → (a && b) ≡ true → (a ≡ true) × (b ≡ true)
both-true true b h = (refl, h)
both-true false b h = absurd (cc)

pub same-step : (run : ℕ) (name : List ℕ) (other : ℕ) (hash : List ℕ) → is_step run name other hash ≡ true
    → (run ≡ other) × (name ≡ hash)
same-step run name other hash h =
    let both : ((run == other) ≡ true) × (bytes_eq name hash ≡ true) =
    both-true (run == other) (bytes_eq name hash) h in
    (eqb-true run other both.0, bytes_same name hash both.1)

pub own-step : (run : ℕ) (name : List ℕ) → is_step run name run name ≡ true
own-step run name = rw (eq-eqb run run refl) (bytes_self name)

-- one or none
abbrev pub one_if : Bool → ℕ
one_if b = cond b 1 0

-- ## Entries

module _ {X : Type 0} (run_of : X → ℕ) (hash_of : X → List ℕ) where
  abbrev pub waits_at : ℕ → List ℕ → X → Bool
  waits_at run name x = is_step run name (run_of x) (hash_of x)

  -- how many wait under a name
  abbrev pub counted : ℕ → List ℕ → List X → ℕ
  counted run name xs = length (filter (waits_at run name) xs)

  pub counted-last : (run : ℕ) (name : List ℕ) (xs : List X) (x : X)
      → counted run name (xs ++ x ∷ []) ≡ counted run name xs + one_if (waits_at run name x)
  counted-last run name [] x = one (waits_at run name x)
    where
      one : (b : Bool) → length (cond b (x ∷ []) []) ≡ 0 + cond b 1 0
      one true = omega arith
      one false = omega arith
  counted-last run name (y ∷ ys) x =
      by_test (waits_at run name y) (counted-last run name ys x)
    where
      by_test : (b : Bool)
          → counted run name (ys ++ x ∷ []) ≡ counted run name ys + one_if (waits_at run name x)
          → length (cond b (y ∷ filter (waits_at run name) (ys ++ x ∷ [])) (filter (waits_at run name) (ys ++ x ∷ [])))
          ≡ length (cond b (y ∷ filter (waits_at run name) ys) (filter (waits_at run name) ys))
          + one_if (waits_at run name x)
      by_test true more = omega (arith, more)
      by_test false more = more

  pub counted-in : (x : X) (xs : List X) → IsIn x xs → 1 ≤ counted (run_of x) (hash_of x) xs
  counted-in x [] there = absurd there
  counted-in x (y ∷ ys) (inl same) = rw own (omega arith)
    where
      own : waits_at (run_of x) (hash_of x) y ≡ true
      own = subst (λ z. waits_at (run_of x) (hash_of x) z ≡ true) (sym same) (own-step (run_of x) (hash_of x))
  counted-in x (y ∷ ys) (inr there) =
      by_test (waits_at (run_of x) (hash_of x) y) (counted-in x ys there)
    where
      by_test : (b : Bool) → 1 ≤ counted (run_of x) (hash_of x) ys
          → 1 ≤ length (cond b (y ∷ filter (waits_at (run_of x) (hash_of x)) ys)
          (filter (waits_at (run_of x) (hash_of x)) ys))
      by_test true more = omega (arith, more)
      by_test false more = more

  -- those of a run go
  pub counted-left : (number run : ℕ) (name : List ℕ) (xs : List X)
      → counted run name (filter (λ x. not (number == run_of x)) xs) ≡ cond (number == run) 0 (counted run name xs)
  counted-left number run name xs = by_test (number == run) refl
    where
      by_test : (b : Bool) → (number == run) ≡ b
          → counted run name (filter (λ x. not (number == run_of x)) xs) ≡ cond b 0 (counted run name xs)
      by_test true e = ap length (filter-gone (waits_at run name) (λ x. not (number == run_of x)) xs
          (λ x own. ap not (subst (λ n. (number == n) ≡ true) (same-step run name (run_of x) (hash_of x) own).0 e)))
      by_test false e = ap length (filter-kept (waits_at run name) (λ x. not (number == run_of x)) xs
          (λ x own. ap not (subst (λ n. (number == n) ≡ false) (same-step run name (run_of x) (hash_of x) own).0 e)))

  -- those of a name go
  pub counted-cleared : (at : ℕ) (hash : List ℕ) (run : ℕ) (name : List ℕ) (xs : List X)
      → counted run name (filter (λ x. not (waits_at at hash x)) xs)
      ≡ cond (is_step run name at hash) 0 (counted run name xs)
  counted-cleared at hash run name xs = by_test (is_step run name at hash) refl
    where
      other : (x : X) (b : Bool) → waits_at at hash x ≡ b → is_step run name at hash ≡ false
          → waits_at run name x ≡ true → b ≡ false
      other x true here e own =
          let one : (run ≡ run_of x) × (name ≡ hash_of x) = same-step run name (run_of x) (hash_of x) own in
          let two : (at ≡ run_of x) × (hash ≡ hash_of x) = same-step at hash (run_of x) (hash_of x) here in
          let no : is_step run name at hash ≡ true =
          subst (λ n. is_step run name n hash ≡ true) (one.0 ∙ sym two.0)
          (subst (λ n. is_step run name run n ≡ true) (one.1 ∙ sym two.1) (own-step run name)) in
          sym no ∙ e
      other x false here e own = refl

      by_test : (b : Bool) → is_step run name at hash ≡ b
          → counted run name (filter (λ x. not (waits_at at hash x)) xs) ≡ cond b 0 (counted run name xs)
      by_test true e = ap length (filter-gone (waits_at run name) (λ x. not (waits_at at hash x)) xs
          (λ x own.
          let same : (run ≡ at) × (name ≡ hash) = same-step run name at hash e in
          ap not (subst (λ n. is_step n hash (run_of x) (hash_of x) ≡ true) same.0
          (subst (λ n. is_step run n (run_of x) (hash_of x) ≡ true) same.1 own))))
      by_test false e = ap length (filter-kept (waits_at run name) (λ x. not (waits_at at hash x)) xs
          (λ x own. ap not (other x (waits_at at hash x) refl e own)))

  -- one goes by its number, which no other has
  pub counted-without : (number_of : X → ℕ) (x : X) (run : ℕ) (name : List ℕ) (xs : List X) → IsIn x xs
      → ArePairwise (λ a later. number_of a < number_of later) xs
      → counted run name (filter (λ y. not (number_of x == number_of y)) xs) + one_if (waits_at run name x)
      ≡ counted run name xs
  counted-without number_of x run name [] there apart = absurd there
  counted-without number_of x run name (y ∷ ys) (inl same) apart =
      subst (λ z. counted run name (filter (λ y. not (number_of z == number_of y)) (y ∷ ys))
      + one_if (waits_at run name z)
      ≡ counted run name (y ∷ ys)) same first
    where
      others : AllByRecursion (λ z. not (number_of y == number_of z) ≡ true) ys
      others = all-over ys apart.0
        where
          all-over : (zs : List X) → AllByRecursion (λ z. number_of y < number_of z) zs
              → AllByRecursion (λ z. not (number_of y == number_of z) ≡ true) zs
          all-over [] h = tt
          all-over (z ∷ zs) h = (
            ap not (not-same (number_of y) (number_of z) (λ e. let low = h.0 in omega (arith, low, e))),
            all-over zs h.1,
          )

      gone : filter (λ z. not (number_of y == number_of z)) (y ∷ ys) ≡ ys
      gone = rw (eq-eqb (number_of y) (number_of y) refl)
          (filter-all (λ z. not (number_of y == number_of z)) ys others)

      one : (b : Bool) → length (filter (waits_at run name) ys) + cond b 1 0
          ≡ length (cond b (y ∷ filter (waits_at run name) ys) (filter (waits_at run name) ys))
      one true = omega arith
      one false = omega arith

      first : counted run name (filter (λ z. not (number_of y == number_of z)) (y ∷ ys)) + one_if (waits_at run name y)
          ≡ counted run name (y ∷ ys)
      first = ap (λ zs. counted run name zs + one_if (waits_at run name y)) gone ∙ one (waits_at run name y)
  counted-without number_of x run name (y ∷ ys) (inr there) apart =
      ap (λ zs. counted run name zs + one_if (waits_at run name x)) stays
      ∙ more (waits_at run name y) (counted-without number_of x run name ys there apart.1)
    where
      low : number_of y < number_of x
      low = in-all (λ z. number_of y < number_of z) x ys there apart.0

      stays : filter (λ z. not (number_of x == number_of z)) (y ∷ ys)
          ≡ y ∷ filter (λ z. not (number_of x == number_of z)) ys
      stays = rw (not-same (number_of x) (number_of y) (λ e. let k = low in omega (arith, k, e))) refl

      more : (b : Bool) → counted run name (filter (λ z. not (number_of x == number_of z)) ys)
          + one_if (waits_at run name x) ≡ counted run name ys
          → length (cond b (y ∷ filter (waits_at run name) (filter (λ z. not (number_of x == number_of z)) ys))
          (filter (waits_at run name) (filter (λ z. not (number_of x == number_of z)) ys)))
          + one_if (waits_at run name x)
          ≡ length (cond b (y ∷ filter (waits_at run name) ys) (filter (waits_at run name) ys))
      more true k = omega (arith, k)
      more false k = k

-- ## For what a run waits

-- what a name of a run waits for, by its steps
abbrev pub waits_in : ℕ → List ℕ → List Run → Option Pending
waits_in run name live =
    option_and_then (λ (r : Run). pending_of name r.steps) (find (λ (r : Run). run == r.number) live)

abbrev pub same_kind : Pending → Pending → Bool
same_kind pending.Sleep pending.Sleep = true
same_kind pending.Wait pending.Wait = true
same_kind pending.Invocation pending.Invocation = true
same_kind _ _ = false

-- how many entries of a kind are to be there
abbrev pub said : Pending → Option Pending → ℕ
said kind None = 0
said kind (Some other) = one_if (same_kind kind other)

pub own-kind : (kind : Pending) → same_kind kind kind ≡ true
own-kind pending.Sleep = refl
own-kind pending.Wait = refl
own-kind pending.Invocation = refl

pub is-said : (kind : Pending) (o : Option Pending) → 1 ≤ said kind o → o ≡ Some kind
is-said kind None h = absurd (omega (arith, h))
is-said pending.Sleep (Some pending.Sleep) h = refl
is-said pending.Sleep (Some pending.Wait) h = absurd (omega (arith, h))
is-said pending.Sleep (Some pending.Invocation) h = absurd (omega (arith, h))
is-said pending.Wait (Some pending.Sleep) h = absurd (omega (arith, h))
is-said pending.Wait (Some pending.Wait) h = refl
is-said pending.Wait (Some pending.Invocation) h = absurd (omega (arith, h))
is-said pending.Invocation (Some pending.Sleep) h = absurd (omega (arith, h))
is-said pending.Invocation (Some pending.Wait) h = absurd (omega (arith, h))
is-said pending.Invocation (Some pending.Invocation) h = refl

-- at one name it is this from now on, and at others what it was
abbrev pub Sets : ℕ → List ℕ → Option Pending → List Run → List Run → Type 0
Sets at hash w before after = (run : ℕ) (name : List ℕ)
    → waits_in run name after ≡ cond (is_step run name at hash) w (waits_in run name before)

-- under each name so many entries wait as is said
abbrev pub Counts : {X : Type 0} → (X → ℕ) → (X → List ℕ) → Pending → List X → List Run → Type 0
Counts run_of hash_of kind xs live =
    (run : ℕ) (name : List ℕ) → counted run_of hash_of run name xs ≡ said kind (waits_in run name live)

module _ {X : Type 0} (run_of : X → ℕ) (hash_of : X → List ℕ) (kind : Pending) (before after : List Run) where
  -- an entry comes with a name
  pub counts-more : (x : X) (xs : List X) → Sets (run_of x) (hash_of x) (Some kind) before after
      → waits_in (run_of x) (hash_of x) before ≡ None → Counts run_of hash_of kind xs before
      → Counts run_of hash_of kind (xs ++ x ∷ []) after
  counts-more x xs sets none h run name =
      counted-last run_of hash_of run name xs x
      ∙ by_test (is_step run name (run_of x) (hash_of x)) refl
      ∙ ap (said kind) (sym (sets run name))
    where
      by_test : (b : Bool) → is_step run name (run_of x) (hash_of x) ≡ b
          → counted run_of hash_of run name xs + one_if b ≡ said kind (cond b (Some kind) (waits_in run name before))
      by_test true e =
          let same : (run ≡ run_of x) × (name ≡ hash_of x) = same-step run name (run_of x) (hash_of x) e in
          let found : waits_in run name before ≡ None =
          subst (λ n. waits_in n name before ≡ None) (sym same.0)
          (subst (λ n. waits_in (run_of x) n before ≡ None) (sym same.1) none) in
          let zero_before : counted run_of hash_of run name xs ≡ 0 = h run name ∙ ap (said kind) found in
          let one_after : one_if (same_kind kind kind) ≡ 1 = ap one_if (own-kind kind) in
          omega (arith, zero_before, one_after)
      by_test false e = let k = h run name in omega (arith, k)

  -- no entry comes or goes, and there is to be none of the kind
  pub counts-same : (at : ℕ) (hash : List ℕ) (w : Option Pending) (xs : List X) → Sets at hash w before after
      → said kind w ≡ said kind (waits_in at hash before) → Counts run_of hash_of kind xs before
      → Counts run_of hash_of kind xs after
  counts-same at hash w xs sets same h run name =
      h run name ∙ by_test (is_step run name at hash) refl ∙ ap (said kind) (sym (sets run name))
    where
      by_test : (b : Bool) → is_step run name at hash ≡ b
          → said kind (waits_in run name before) ≡ said kind (cond b w (waits_in run name before))
      by_test true e =
          let own : (run ≡ at) × (name ≡ hash) = same-step run name at hash e in
          subst (λ n. said kind (waits_in n name before) ≡ said kind w) (sym own.0)
          (subst (λ n. said kind (waits_in at n before) ≡ said kind w) (sym own.1) (sym same))
      by_test false e = refl

  -- an entry goes with its name
  pub counts-gone : (x : X) (fewer xs : List X) → Sets (run_of x) (hash_of x) None before after
      → waits_in (run_of x) (hash_of x) before ≡ Some kind
      → ((run : ℕ) (name : List ℕ) → counted run_of hash_of run name fewer
      + one_if (is_step run name (run_of x) (hash_of x)) ≡ counted run_of hash_of run name xs)
      → Counts run_of hash_of kind xs before → Counts run_of hash_of kind fewer after
  counts-gone x fewer xs sets there one h run name =
      by_test (is_step run name (run_of x) (hash_of x)) refl (one run name)
      ∙ ap (said kind) (sym (sets run name))
    where
      by_test : (b : Bool) → is_step run name (run_of x) (hash_of x) ≡ b
          → counted run_of hash_of run name fewer + one_if b ≡ counted run_of hash_of run name xs
          → counted run_of hash_of run name fewer ≡ said kind (cond b None (waits_in run name before))
      by_test true e k =
          let same : (run ≡ run_of x) × (name ≡ hash_of x) = same-step run name (run_of x) (hash_of x) e in
          let found : waits_in run name before ≡ Some kind =
          subst (λ n. waits_in n name before ≡ Some kind) (sym same.0)
          (subst (λ n. waits_in (run_of x) n before ≡ Some kind) (sym same.1) there) in
          let one_before : counted run_of hash_of run name xs ≡ 1 =
          h run name ∙ ap (said kind) found ∙ ap one_if (own-kind kind) in
          omega (arith, k, one_before)
      by_test false e k = let m = h run name in omega (arith, k, m)

  -- all entries of a name go with it
  pub counts-cleared : (at : ℕ) (hash : List ℕ) (xs : List X) → Sets at hash None before after
      → Counts run_of hash_of kind xs before
      → Counts run_of hash_of kind (filter (λ x. not (is_step at hash (run_of x) (hash_of x))) xs) after
  counts-cleared at hash xs sets h run name =
      counted-cleared run_of hash_of at hash run name xs
      ∙ by_test (is_step run name at hash)
      ∙ ap (said kind) (sym (sets run name))
    where
      by_test : (b : Bool) → cond b 0 (counted run_of hash_of run name xs)
          ≡ said kind (cond b None (waits_in run name before))
      by_test true = refl
      by_test false = h run name

  -- all entries of a run go with it
  pub counts-left : (number : ℕ) (xs : List X)
      → ((run : ℕ) (name : List ℕ)
      → waits_in run name after ≡ cond (number == run) None (waits_in run name before))
      → Counts run_of hash_of kind xs before
      → Counts run_of hash_of kind (filter (λ x. not (number == run_of x)) xs) after
  counts-left number xs left h run name =
      counted-left run_of hash_of number run name xs
      ∙ by_test (number == run)
      ∙ ap (said kind) (sym (left run name))
    where
      by_test : (b : Bool) → cond b 0 (counted run_of hash_of run name xs)
          ≡ said kind (cond b None (waits_in run name before))
      by_test true = refl
      by_test false = h run name

-- ## Runs that change

then-mapped : {X Y : Type 0} (g : X → Option Y) (f : X → X) (o : Option X)
    → option_and_then g (option_map f o) ≡ option_and_then (λ x. g (f x)) o
then-mapped g f None = refl
then-mapped g f (Some x) = refl

waits-changed : (run : ℕ) (name : List ℕ) (number : ℕ) (f : Run → Run) (live : List Run)
    → ((r : Run) → (f r).number ≡ r.number)
    → waits_in run name (changed number f live)
    ≡ option_and_then (λ (r : Run). pending_of name (change number f r).steps)
    (find (λ (r : Run). run == r.number) live)
waits-changed run name number f live same =
    ap (option_and_then (λ (r : Run). pending_of name r.steps)) (found-changed run number f live same)
    ∙ then-mapped (λ (r : Run). pending_of name r.steps) (change number f)
    (find (λ (r : Run). run == r.number) live)

pub sets-changed : (at : ℕ) (hash : List ℕ) (w : Option Pending) (f : Run → Run) (live : List Run)
    → ((r : Run) → (f r).number ≡ r.number)
    → ((r : Run) → find (λ (q : Run). at == q.number) live ≡ Some r → (name : List ℕ)
    → pending_of name (f r).steps ≡ cond (bytes_eq name hash) w (pending_of name r.steps))
    → (find (λ (q : Run). at == q.number) live ≡ None → w ≡ None) → Sets at hash w live (changed at f live)
sets-changed at hash w f live same one none run name =
    waits-changed run name at f live same
    ∙ by_found (find (λ (q : Run). run == q.number) live) refl
  where
    found : Option Run → Type 0
    found o = option_and_then (λ (r : Run). pending_of name (change at f r).steps) o
        ≡ cond (is_step run name at hash) w (option_and_then (λ (r : Run). pending_of name r.steps) o)

    nothing : (b : Bool) → is_step run name at hash ≡ b → find (λ (q : Run). run == q.number) live ≡ None
        → None ≡ cond b w None
    nothing true e k =
        sym (none (subst (λ n. find (λ (q : Run). n == q.number) live ≡ None)
        (same-step run name at hash e).0 k))
    nothing false e k = refl

    by_test : (r : Run) (b : Bool) → (at == r.number) ≡ b → run ≡ r.number
        → find (λ (q : Run). run == q.number) live ≡ Some r
        → pending_of name (cond b (f r) r).steps ≡ cond (b && bytes_eq name hash) w (pending_of name r.steps)
    by_test r true e own k =
        one r (subst (λ n. find (λ (q : Run). n == q.number) live ≡ Some r)
        (own ∙ sym (eqb-true at r.number e)) k) name
    by_test r false e own k = refl

    by_found : (o : Option Run) → find (λ (q : Run). run == q.number) live ≡ o → found o
    by_found None k = nothing (is_step run name at hash) refl k
    by_found (Some r) k =
        let own : run ≡ r.number =
        eqb-true run r.number (found-passes (λ (q : Run). run == q.number) live r k) in
        by_test r (at == r.number) refl own k
        ∙ ap (λ b. cond (b && bytes_eq name hash) w (pending_of name r.steps))
        (flip-eq at r.number ∙ ap (λ n. n == at) (sym own))

-- steps wait for the same
pub waits-same : (run : ℕ) (name : List ℕ) (number : ℕ) (f : Run → Run) (live : List Run)
    → ((r : Run) → (f r).number ≡ r.number) → ((r : Run) → (f r).steps.pending ≡ r.steps.pending)
    → waits_in run name (changed number f live) ≡ waits_in run name live
waits-same run name number f live same quiet =
    waits-changed run name number f live same ∙ by_found (find (λ (q : Run). run == q.number) live)
  where
    by_test : (r : Run) (b : Bool) → pending_of name (cond b (f r) r).steps ≡ pending_of name r.steps
    by_test r true = ap (λ ps. under name ps) (quiet r)
    by_test r false = refl

    by_found : (o : Option Run)
        → option_and_then (λ (r : Run). pending_of name (change number f r).steps) o
        ≡ option_and_then (λ (r : Run). pending_of name r.steps) o
    by_found None = refl
    by_found (Some r) = by_test r (number == r.number)

-- a run that comes waits for nothing
pub waits-more : (run : ℕ) (name : List ℕ) (live : List Run) (r : Run) → r.steps ≡ no_steps
    → waits_in run name (live ++ r ∷ []) ≡ waits_in run name live
waits-more run name [] r new = by_test (run == r.number)
  where
    by_test : (b : Bool) → option_and_then (λ (q : Run). pending_of name q.steps) (cond b (Some r) None) ≡ None
    by_test true = ap (pending_of name) new
    by_test false = refl
waits-more run name (q ∷ live) r new = by_test (run == q.number) (waits-more run name live r new)
  where
    found : List Run → Option Run
    found rs = find (λ (x : Run). run == x.number) rs

    by_test : (b : Bool) → waits_in run name (live ++ r ∷ []) ≡ waits_in run name live
        → option_and_then (λ (x : Run). pending_of name x.steps) (cond b (Some q) (found (live ++ r ∷ [])))
        ≡ option_and_then (λ (x : Run). pending_of name x.steps) (cond b (Some q) (found live))
    by_test true more = refl
    by_test false more = more

pub waits-left : (number run : ℕ) (name : List ℕ) (live : List Run)
    → waits_in run name (filter (λ (r : Run). not (number == r.number)) live)
    ≡ cond (number == run) None (waits_in run name live)
waits-left number run name live = by_test (number == run) refl
  where
    of_found : Option Run → Option Pending
    of_found o = option_and_then (λ (r : Run). pending_of name r.steps) o

    own : (b : Bool) → (number == run) ≡ b → (r : Run) → (run == r.number) ≡ true
        → not (number == r.number) ≡ not b
    own b e r same = ap not (ap (λ n. number == n) (sym (eqb-true run r.number same)) ∙ e)

    by_test : (b : Bool) → (number == run) ≡ b
        → waits_in run name (filter (λ (r : Run). not (number == r.number)) live)
        ≡ cond b None (waits_in run name live)
    by_test true e = ap of_found (none-left (λ (r : Run). run == r.number)
        (λ (r : Run). not (number == r.number)) live (own true e))
    by_test false e = ap of_found (find-filter (λ (r : Run). run == r.number)
        (λ (r : Run). not (number == r.number)) live (own false e))
