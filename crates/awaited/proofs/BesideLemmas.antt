-- The waits with the names of their steps.
use Rattle.std.proofs.Common.{◌≡◌, ℕ, ◌<◌, ◌==◌, Bool, true, false, not, cond, List, [], ◌∷◌, ◌++◌, Some, None, Option, refl, sym, ap, ◌∙◌, map, subst}
use Rattle.std.specs.List.{find, filter, AllByRecursion}
use Rattle.std.specs.Option.{option_map}
use Rattle.lists.specs.Entries.{has, without, AreApart}
use Rattle.kinds.specs.Stores.{wait_number, wait_run, insert_wait}
use Rattle.kinds.specs.declared.store.Wait.{Wait}
use Rattle.timers.specs.Dues.{DueEntry, least_due, as_due, seen_as}
use Rattle.timers.proofs.DueLemmas.{below_none, least_mapped}
use Rattle.awaited.specs.declared.entries.WaitStep.{WaitStep}
use Rattle.awaited.specs.Entries.{Waiting, wait_of, wait_step, waiting_number, waiting_run, waiting_due, step_number, step_run, step_due}
use Rattle.awaited.specs.Beside.{waiting_with, beside, AreBeside}
use Rattle.awaited.proofs.BehindLemmas.{insert_by_last, without_last}

-- ---- lists seen through a function

module _ {X Y : Type 0} (f : X → Y) where
  pub filter_map_same : (p : Y → Bool) (xs : List X) → filter p (map f xs) ≡ map f (filter (λ x. p (f x)) xs)
  filter_map_same p [] = refl
  filter_map_same p (x ∷ xs) = ap (λ l. cond (p (f x)) (f x ∷ l) l) (filter_map_same p xs) ∙ by_test (p (f x))
    where
      by_test : (b : Bool) → cond b (f x ∷ map f (filter (λ y. p (f y)) xs)) (map f (filter (λ y. p (f y)) xs)) ≡ map f (cond b (x ∷ filter (λ y. p (f y)) xs) (filter (λ y. p (f y)) xs))
      by_test true = refl
      by_test false = refl

  pub find_map_same : (p : Y → Bool) (xs : List X) → find p (map f xs) ≡ option_map f (find (λ x. p (f x)) xs)
  find_map_same p [] = refl
  find_map_same p (x ∷ xs) = ap (λ o. cond (p (f x)) (Some (f x)) o) (find_map_same p xs) ∙ by_test (p (f x))
    where
      by_test : (b : Bool) → cond b (Some (f x)) (option_map f (find (λ y. p (f y)) xs)) ≡ option_map f (cond b (Some x) (find (λ y. p (f y)) xs))
      by_test true = refl
      by_test false = refl

  none_mapped : (o : Option X) → option_map f o ≡ None → o ≡ None
  none_mapped None h = refl
  none_mapped (Some x) h = cc

  pub apart_mapped : (number : Y → ℕ) (xs : List X) → AreApart number (map f xs) → AreApart (λ x. number (f x)) xs
  apart_mapped number [] a = tt
  apart_mapped number (x ∷ xs) a = (
    none_mapped (find (λ y. number (f x) == number (f y)) xs)
        (sym (find_map_same (has number (number (f x))) xs) ∙ a.0),
    apart_mapped number xs a.1,
  )

  pub map_last : (x : X) (xs : List X) → map f xs ++ f x ∷ [] ≡ map f (xs ++ x ∷ [])
  map_last x [] = refl
  map_last x (y ∷ ys) = ap (λ r. f y ∷ r) (map_last x ys)

-- ---- both lists of the same waits

beside_same : (ws : List Waiting) → beside (map wait_of ws) (map wait_step ws) ≡ ws
beside_same [] = refl
beside_same (w ∷ ws) = ap (λ r. w ∷ r) (beside_same ws)

pub now_beside : (now : List Waiting) (ws : List Wait) (ss : List WaitStep) → ws ≡ map wait_of now → ss ≡ map wait_step now → (beside ws ss ≡ now) × AreBeside ws ss
now_beside now ws ss h k =
    let same = ap (λ r. beside r ss) h ∙ ap (beside (map wait_of now)) k ∙ beside_same now in
    (same, record { waits = h ∙ ap (map wait_of) (sym same); steps = k ∙ ap (map wait_step) (sym same) })

-- ---- a wait comes or goes

module _ (ws : List Wait) (ss : List WaitStep) (b : AreBeside ws ss) where
  all_mapped : {X Y : Type 0} (f : X → Y) (P : Y → Type 0) (xs : List X) → AllByRecursion (λ x. P (f x)) xs → AllByRecursion P (map f xs)
  all_mapped f P [] a = tt
  all_mapped f P (x ∷ xs) a = (a.0, all_mapped f P xs a.1)

  module _ (n : ℕ) (below : AllByRecursion (λ w. waiting_number w < n) (beside ws ss)) where
    pub steps_below : AllByRecursion (λ s. step_number s < n) ss
    steps_below = subst (AllByRecursion (λ s. step_number s < n)) (sym b.steps) (all_mapped wait_step (λ s. step_number s < n) (beside ws ss) below)

    waits_below : AllByRecursion (λ w. wait_number w < n) ws
    waits_below = subst (AllByRecursion (λ w. wait_number w < n)) (sym b.waits) (all_mapped wait_of (λ w. wait_number w < n) (beside ws ss) below)

    pub wait_new : find (has wait_number n) ws ≡ None
    wait_new = below_none wait_number n ws waits_below

  pub added : (wait : Wait) (hash : List ℕ) → AllByRecursion (λ w. waiting_number w < wait_number wait) (beside ws ss) → (now : List Wait) (new : List WaitStep) → now ≡ insert_wait wait ws → new ≡ ss ++ wait_step (waiting_with wait hash) ∷ []
      → (beside now new ≡ beside ws ss ++ waiting_with wait hash ∷ []) × AreBeside now new
  added wait hash below now new h k = now_beside (beside ws ss ++ waiting_with wait hash ∷ []) now new
      (h ∙ insert_by_last wait_number wait ws (waits_below (wait_number wait) below) ∙ ap (λ l. l ++ wait ∷ []) b.waits ∙ map_last wait_of (waiting_with wait hash) (beside ws ss))
      (k ∙ ap (λ l. l ++ wait_step (waiting_with wait hash) ∷ []) b.steps ∙ map_last wait_step (waiting_with wait hash) (beside ws ss))

  -- the step came and went
  pub unadded : (wait : Wait) (hash : List ℕ) → AllByRecursion (λ w. waiting_number w < wait_number wait) (beside ws ss) → (now : List Wait) (new back : List WaitStep) → now ≡ ws → new ≡ ss ++ wait_step (waiting_with wait hash) ∷ []
      → back ≡ without step_number (wait_number wait) new → (beside now back ≡ beside ws ss) × AreBeside now back
  unadded wait hash below now new back h k w = now_beside (beside ws ss) now back (h ∙ b.waits)
      (w ∙ ap (without step_number (wait_number wait)) k
      ∙ without_last step_number (wait_step (waiting_with wait hash)) ss (below_none step_number (wait_number wait) ss (steps_below (wait_number wait) below))
      ∙ b.steps)

  pub gone : (n : ℕ) (now : List Wait) (new : List WaitStep) → now ≡ without wait_number n ws → new ≡ without step_number n ss → (beside now new ≡ without waiting_number n (beside ws ss)) × AreBeside now new
  gone n now new h k = now_beside (without waiting_number n (beside ws ss)) now new
      (h ∙ ap (without wait_number n) b.waits ∙ filter_map_same wait_of (λ w. not (has wait_number n w)) (beside ws ss))
      (k ∙ ap (without step_number n) b.steps ∙ filter_map_same wait_step (λ s. not (has step_number n s)) (beside ws ss))

  pub run_gone : (run : ℕ) (now : List Wait) (new : List WaitStep) → now ≡ without wait_run run ws → new ≡ without step_run run ss → (beside now new ≡ without waiting_run run (beside ws ss)) × AreBeside now new
  run_gone run now new h k = now_beside (without waiting_run run (beside ws ss)) now new
      (h ∙ ap (without wait_run run) b.waits ∙ filter_map_same wait_of (λ w. not (has wait_run run w)) (beside ws ss))
      (k ∙ ap (without step_run run) b.steps ∙ filter_map_same wait_step (λ s. not (has step_run run s)) (beside ws ss))

  pub step_found : (n : ℕ) → find (has step_number n) ss ≡ option_map wait_step (find (has waiting_number n) (beside ws ss))
  step_found n = ap (find (has step_number n)) b.steps ∙ find_map_same wait_step (has step_number n) (beside ws ss)

  pub steps_apart : AreApart step_number ss → AreApart waiting_number (beside ws ss)
  steps_apart a = apart_mapped wait_step step_number (beside ws ss) (subst (AreApart step_number) b.steps a)

  pub step_first : option_map (as_due step_number step_run) (least_due step_due step_number ss) ≡ option_map (as_due waiting_number waiting_run) (least_due waiting_due waiting_number (beside ws ss))
  step_first =
      ap (λ l. option_map (as_due step_number step_run) (least_due step_due step_number l)) b.steps
      ∙ ap (option_map (as_due step_number step_run)) (least_mapped step_due step_number step_run wait_step (beside ws ss))
      ∙ same (least_due waiting_due waiting_number (beside ws ss))
    where
      same : (o : Option (DueEntry Waiting)) → option_map (as_due step_number step_run) (option_map (seen_as wait_step) o) ≡ option_map (as_due waiting_number waiting_run) o
      same None = refl
      same (Some a) = refl
