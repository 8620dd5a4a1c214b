-- In each state that is reached, what is pending waits once, and what waits is pending.
use Rattle.std.proofs.Common.{◌≡◌, ℕ, inl, inr, ◌==◌, true, List, [], ◌∷◌, ◌++◌, map, filter, length, Option, Some, None, IfSome, IsSomeAnd, is_some, refl, sym, ap, ◌∙◌, subst, arith, eq-eqb, eqb-true}
use Rattle.std.specs.Cmp.Lexicographic.{slice_cmp}
use Rattle.std.specs.Option.{option_and_then}
use Rattle.std.specs.Ordering.{nat_cmp}
use Rattle.std.specs.declared.cmp.Ordering.TheVariants.{Less}
use Rattle.kinds.specs.RunSteps.{is_pending, pending_of}
use Rattle.kinds.specs.declared.limits.Limits.{Limits}
use Rattle.kinds.specs.declared.input.Input.{Input}
use Rattle.kinds.specs.declared.store.Pending.{Pending}
use Rattle.kinds.specs.declared.store.Pending.TheVariants as pending
use Rattle.lists.proofs.Texts.{bytes_flip, bytes_self}
use Rattle.run_model.specs.Laws.{IsIn}
use Rattle.run_model.specs.Machine.{fold}
use Rattle.run_model.specs.Recording.{is_pending_in}
use Rattle.run_model.specs.Sound.{AwaitsEach, AwaitsOnce, IsPendingIn, Wakes, awaited, is_step}
use Rattle.run_model.specs.State.{State, Run, Sleep, Waiting, Invocation, live_run}
use Rattle.run_model.proofs.Awaiting.{Awaits, Stands, awaits-fold, invocation_hash, invocation_run, is-pending_in, sleep_hash, sleep_run, wait_hash, wait_run, waits-entry}
use Rattle.run_model.proofs.GoingOn.{same-one}
use Rattle.run_model.proofs.Members.{all-in, any-in, in-all, in-found}
use Rattle.run_model.proofs.Rising.{Rise, run_number}
use Rattle.run_model.proofs.SettlingLists.{any-found}
use Rattle.run_model.proofs.WaitingCounts.{said, waits_in}
use Rattle.run_model.proofs.WaitingNames.{AreSorted, Names, apart-before, at-bytes, under}

-- ## What is found

-- a run that is there is found by its number
pub live-own : (r : Run) (s : State) → IsIn r s.live → Rise s → live_run r.number s ≡ Some r
live-own r s there rise =
    by_found (live_run r.number s) refl
    (any-found (λ (q : Run). r.number == q.number) s.live
    (any-in (λ (q : Run). r.number == q.number) r s.live there (eq-eqb r.number r.number refl)))
  where
    by_found : (o : Option Run) → live_run r.number s ≡ o → IsSomeAnd o (λ q. (r.number == q.number) ≡ true)
        → live_run r.number s ≡ Some r
    by_found None e h = absurd h
    by_found (Some q) e h =
        e ∙ ap (λ x. Some x) (sym (same-one run_number r q s.live there
        (in-found (λ (x : Run). r.number == x.number) s.live q e) rise.1.0.0 (eqb-true r.number q.number h)))

under-in : (p : List ℕ × Pending) (ps : Names) → IsIn p ps → AreSorted ps → under p.0 ps ≡ Some p.1
under-in p [] there h = absurd there
under-in p (q ∷ ps) (inl same) h = subst (λ x. under x.0 (q ∷ ps) ≡ Some x.1) same first
  where
    first : under q.0 (q ∷ ps) ≡ Some q.1
    first = rw (at-bytes q.0 q.0 ∙ bytes_self q.0) refl
under-in p (q ∷ ps) (inr there) h =
    rw (at-bytes p.0 q.0 ∙ bytes_flip p.0 q.0
    ∙ apart-before q.0 p.0 (in-all (λ (x : List ℕ × Pending). slice_cmp nat_cmp q.0 x.0 ≡ Less) p ps there h.0))
    (under-in p ps there h.1)

-- ## What waits for a name

none-mapped : {X : Type 0} (kind : Pending) (xs : List X) → length xs ≡ 0 → map (λ e. kind) xs ≡ []
none-mapped kind [] h = refl
none-mapped kind (x ∷ xs) h = absurd (omega (arith, h))

one-mapped : {X : Type 0} (kind : Pending) (xs : List X) → length xs ≡ 1 → map (λ e. kind) xs ≡ kind ∷ []
one-mapped kind [] h = absurd (omega (arith, h))
one-mapped kind (x ∷ xs) h = ap (λ ks. kind ∷ ks) (none-mapped kind xs (omega (arith, h)))

abbrev sleeps_at : State → ℕ → List ℕ → List Sleep
sleeps_at s run name = filter (λ (e : Sleep). is_step run name e.run e.hash) s.sleeps

abbrev waits_of : State → ℕ → List ℕ → List Waiting
waits_of s run name = filter (λ (e : Waiting). is_step run name e.wait.run e.hash) s.waits

abbrev invocations_at : State → ℕ → List ℕ → List Invocation
invocations_at s run name = filter (λ (e : Invocation). is_step run name e.run e.hash) s.invocations

-- the one entry of a name that waits
one-awaited : (s : State) (run : ℕ) (name : List ℕ) (kind : Pending) → Stands s
    → waits_in run name s.live ≡ Some kind → awaited s run name ≡ kind ∷ []
one-awaited s run name kind h waits =
    by_kind kind (h.sleeps_wait run name ∙ ap (said pending.Sleep) waits)
    (h.waits_wait run name ∙ ap (said pending.Wait) waits)
    (h.invocations_wait run name ∙ ap (said pending.Invocation) waits)
  where
    joined : (a b c all : List Pending) → a ≡ map (λ e. pending.Sleep) (sleeps_at s run name)
        → b ≡ map (λ e. pending.Wait) (waits_of s run name)
        → c ≡ map (λ e. pending.Invocation) (invocations_at s run name) → a ++ b ++ c ≡ all
        → awaited s run name ≡ all
    joined a b c all ea eb ec e =
        sym (ap (λ xs. xs ++ b ++ c) ea
        ∙ ap (λ xs. map (λ e. pending.Sleep) (sleeps_at s run name) ++ xs ++ c) eb
        ∙ ap (λ xs. map (λ e. pending.Sleep) (sleeps_at s run name)
        ++ map (λ e. pending.Wait) (waits_of s run name) ++ xs) ec) ∙ e

    by_kind : (k : Pending) → length (sleeps_at s run name) ≡ said pending.Sleep (Some k)
        → length (waits_of s run name) ≡ said pending.Wait (Some k)
        → length (invocations_at s run name) ≡ said pending.Invocation (Some k) → awaited s run name ≡ k ∷ []
    by_kind pending.Sleep a b c = joined (pending.Sleep ∷ []) [] [] (pending.Sleep ∷ [])
        (sym (one-mapped pending.Sleep (sleeps_at s run name) a))
        (sym (none-mapped pending.Wait (waits_of s run name) b))
        (sym (none-mapped pending.Invocation (invocations_at s run name) c)) refl
    by_kind pending.Wait a b c = joined [] (pending.Wait ∷ []) [] (pending.Wait ∷ [])
        (sym (none-mapped pending.Sleep (sleeps_at s run name) a))
        (sym (one-mapped pending.Wait (waits_of s run name) b))
        (sym (none-mapped pending.Invocation (invocations_at s run name) c)) refl
    by_kind pending.Invocation a b c = joined [] [] (pending.Invocation ∷ []) (pending.Invocation ∷ [])
        (sym (none-mapped pending.Sleep (sleeps_at s run name) a))
        (sym (none-mapped pending.Wait (waits_of s run name) b))
        (sym (one-mapped pending.Invocation (invocations_at s run name) c)) refl

awaits-each : (s : State) (r : Run) → Awaits s → IsIn r s.live → AwaitsEach s r
awaits-each s r h there =
    all-in (λ p. awaited s r.number p.0 ≡ p.1 ∷ []) r.steps.pending
    (λ p waits. one-awaited s r.number p.0 p.1 h.1
    (ap (option_and_then (λ (q : Run). pending_of p.0 q.steps)) (live-own r s there h.0)
    ∙ under-in p r.steps.pending waits
    (in-all (λ (q : Run). AreSorted q.steps.pending) r s.live there h.1.sorted)))

-- ## What waits

pending-found : (kind : Pending) (run : ℕ) (name : List ℕ) (s : State) → waits_in run name s.live ≡ Some kind
    → IsPendingIn s run name
pending-found kind run name s h = by_found (live_run run s) h
  where
    by_found : (o : Option Run) → option_and_then (λ (r : Run). pending_of name r.steps) o ≡ Some kind
        → IfSome o (λ r. is_pending name r.steps ≡ true)
    by_found None e = tt
    by_found (Some r) e = ap is_some e

waits-sleep : (s : State) (e : Sleep) → Stands s → IsIn e s.sleeps
    → waits_in e.run e.hash s.live ≡ Some pending.Sleep
waits-sleep s e h there = waits-entry sleep_run sleep_hash pending.Sleep e s.sleeps s.live there h.sleeps_wait

waits-wait : (s : State) (e : Waiting) → Stands s → IsIn e s.waits
    → waits_in e.wait.run e.hash s.live ≡ Some pending.Wait
waits-wait s e h there = waits-entry wait_run wait_hash pending.Wait e s.waits s.live there h.waits_wait

waits-invocation : (s : State) (e : Invocation) → Stands s → IsIn e s.invocations
    → waits_in e.run e.hash s.live ≡ Some pending.Invocation
waits-invocation s e h there =
    waits-entry invocation_run invocation_hash pending.Invocation e s.invocations s.live there h.invocations_wait

pub awaits-once : (s : State) → Awaits s → AwaitsOnce s
awaits-once s h = record {
  one = all-in (AwaitsEach s) s.live (λ r there. awaits-each s r h there);
  sleeps = all-in (λ (e : Sleep). IsPendingIn s e.run e.hash) s.sleeps
      (λ e there. pending-found pending.Sleep e.run e.hash s (waits-sleep s e h.1 there));
  waits = all-in (λ (e : Waiting). IsPendingIn s e.wait.run e.hash) s.waits
      (λ e there. pending-found pending.Wait e.wait.run e.hash s (waits-wait s e h.1 there));
  invocations = all-in (λ (e : Invocation). IsPendingIn s e.run e.hash) s.invocations
      (λ e there. pending-found pending.Invocation e.run e.hash s (waits-invocation s e h.1 there));
}

pub wakes-all : (s : State) → Awaits s → Wakes s
wakes-all s h = record {
  sleeps = all-in (λ (e : Sleep). is_pending_in e.hash (live_run e.run s) ≡ true) s.sleeps
      (λ e there. is-pending_in pending.Sleep e.run e.hash s.live (waits-sleep s e h.1 there));
  waits = all-in (λ (e : Waiting). is_pending_in e.hash (live_run e.wait.run s) ≡ true) s.waits
      (λ e there. is-pending_in pending.Wait e.wait.run e.hash s.live (waits-wait s e h.1 there));
  invocations = all-in (λ (e : Invocation). is_pending_in e.hash (live_run e.run s) ≡ true) s.invocations
      (λ e there. is-pending_in pending.Invocation e.run e.hash s.live (waits-invocation s e h.1 there));
}

pub once-awaited : (limits : Limits) (inputs : List Input) → AwaitsOnce (fold limits inputs)
once-awaited limits inputs = awaits-once (fold limits inputs) (awaits-fold limits inputs)

pub all-wake : (limits : Limits) (inputs : List Input) → Wakes (fold limits inputs)
all-wake limits inputs = wakes-all (fold limits inputs) (awaits-fold limits inputs)
