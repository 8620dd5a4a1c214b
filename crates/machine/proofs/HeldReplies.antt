-- The parts after a call is open no more, and after an item is queued again.
use Rattle.std.proofs.Common.{◌≡◌, ◌≢◌, ℕ, ◌==◌, Bool, true, false, not, cond, ◌&&◌, ◌||◌, List, [], ◌∷◌, find, Option, Some, None, refl, sym, ap, ◌∙◌, arith, subst, eqb-true}
use Rattle.std.specs.Prelude.{is_some}
use Rattle.std.specs.List.{AllByRecursion, list_any}
use Rattle.admission.specs.Admission.{Admission}
use Rattle.admission.specs.Issues.{has_call, without_call}
use Rattle.kinds.specs.Queue.{insert_item}
use Rattle.kinds.specs.declared.reply.After.{After}
use Rattle.kinds.specs.declared.reply.After.TheVariants as after
use Rattle.kinds.specs.declared.reply.Op.{Op}
use Rattle.kinds.specs.declared.reply.Outcome.{Outcome}
use Rattle.kinds.specs.declared.reply.ReplyIn.{ReplyIn}
use Rattle.kinds.specs.declared.store.Item.{Item}
use Rattle.lists.proofs.Elements.{all-filter, all-weaker}
use Rattle.lists.proofs.Keyed.{filter_none}
use Rattle.sdk_reply.specs.Outcome.{outcome_of}
use Rattle.run_model.specs.Fit.{HasOwnNumbers, IsAside, IsFit, IsIssueFit}
use Rattle.run_model.specs.Making.{discover, is_item_of, queue, step_target}
use Rattle.run_model.specs.Replies.{after_found, again, begun, close, fail_found, lacks_target, on_reply, retry, take_operations}
use Rattle.run_model.specs.Sound.{ArePairwise}
use Rattle.run_model.specs.State.{State, Run, Issue, EndedRun, has_open_call, live_run, open_issue}
use Rattle.run_model.proofs.Apart.{all-none, aside-operations, not-same}
use Rattle.run_model.proofs.FitCounts.{fit-calls}
use Rattle.run_model.proofs.FitRuns.{fit-queue}
use Rattle.run_model.proofs.FitWindows.{pairs-filter}
use Rattle.machine.specs.Held.{AreEndsRight, AreWantsNoted, Becomes, IsClosing, IsHeld, is_left}
use Rattle.machine.specs.Numbers.{IsJoined, has_number}
use Rattle.machine.specs.Operations.{taken_of}
use Rattle.machine.specs.Replies.{lacks, ops_at, outcome_at}
use Rattle.machine.specs.View.{state_of}
use Rattle.machine.specs.Words.{item_in}
use Rattle.machine.specs.declared.operations.Taken.TheVariants.{GoesOn, Again, Stops}
use Rattle.machine.specs.declared.parts.Parts.{Parts}
use Rattle.machine.proofs.HeldEvents.{untouched}
use Rattle.machine.proofs.HeldMaking.{wants-queued}
use Rattle.machine.proofs.HeldWords.{becomes-same, becomes-then}
use Rattle.machine.proofs.Replied.{closed-aside, failed, failed-none, ops-again, ops-on, ops-stop, replied, replied-ended, replied-none}

pub none-of : {X : Type 0} (found : Option X) → ((x : X) → found ≡ Some x → ⊥) → found ≡ None
none-of None h = refl
none-of (Some x) h = absurd (h x refl)

-- ## A call is open no more

abbrev AreOwn : List Issue → Type 0
AreOwn issues = ArePairwise (λ (i later : Issue). i.call ≢ later.call) issues

-- none behind a call has its number
none-behind : (call : ℕ) (i : Issue) (issues : List Issue) → call ≡ i.call
    → AllByRecursion (λ (later : Issue). i.call ≢ later.call) issues → without_call call issues ≡ issues
none-behind call i issues same own =
    filter_none (has_call call) issues
    (all-none (has_call call) issues
    (all-weaker (λ (later : Issue). i.call ≢ later.call) (λ later. has_call call later ≡ false) issues
    (λ later differs. not-same call later.call (λ e. differs (sym same ∙ e))) own))

-- one that a test doesn't pass goes: some pass as before
any-closed-by : (p : Issue → Bool) (call : ℕ) (i j : Issue) (issues : List Issue) → p i ≡ false → AreOwn (j ∷ issues)
    → (find (has_call call) issues ≡ Some i → list_any p (without_call call issues) ≡ list_any p issues)
    → (b : Bool) → (call == j.call) ≡ b → cond b (Some j) (find (has_call call) issues) ≡ Some i
    → list_any p (cond (not b) (j ∷ without_call call issues) (without_call call issues)) ≡ (p j || list_any p issues)
any-closed-by p call i j issues fails own rest true e found =
    let same : j ≡ i = cc in
    ap (list_any p) (none-behind call j issues (eqb-true call j.call e) own.0)
    ∙ ap (λ b. b || list_any p issues) (sym (ap p same ∙ fails))
any-closed-by p call i j issues fails own rest false e found = ap (λ b. p j || b) (rest found)

any-closed : (p : Issue → Bool) (call : ℕ) (i : Issue) (issues : List Issue)
    → find (has_call call) issues ≡ Some i → p i ≡ false → AreOwn issues
    → list_any p (without_call call issues) ≡ list_any p issues
any-closed p call i [] found fails own = cc
any-closed p call i (j ∷ issues) found fails own =
    any-closed-by p call i j issues fails own (λ there. any-closed p call i issues there fails own.1)
    (call == j.call) refl found

flips : (n m : ℕ) → (n == m) ≡ false → (m == n) ≡ false
flips n m h = grind (arith, h)

fails-first : (a b : Bool) → a ≡ false → (a && b) ≡ false
fails-first true b h = cc
fails-first false b h = refl

-- its run is noted
wants-closed : (call : ℕ) (i : Issue) (live : List Run) (items : List Item) (issues : List Issue) (old new : List ℕ)
    → find (has_call call) issues ≡ Some i → AreOwn issues → IsJoined i.item.run old new
    → AreWantsNoted live items issues old → AreWantsNoted live items (without_call call issues) new
wants-closed call i live items issues old new found own joined h = record {
  ordered = h.ordered;
  noted = all-weaker
      (λ r. is_left items issues r ≡ true → has_number old r.number ≡ true)
      (λ r. is_left items (without_call call issues) r ≡ true → has_number new r.number ≡ true)
      live (λ r noted left. by_test r noted left (i.item.run == r.number) refl) h.noted;
}
  where
    by_test : (r : Run) → (is_left items issues r ≡ true → has_number old r.number ≡ true)
        → is_left items (without_call call issues) r ≡ true → (b : Bool) → (i.item.run == r.number) ≡ b
        → has_number new r.number ≡ true
    by_test r noted left true t = ap (has_number new) (sym (eqb-true i.item.run r.number t)) ∙ joined.there
    by_test r noted left false differ =
        let same = any-closed (λ (c : Issue). is_item_of r.number step_target c.item) call i issues found
        (fails-first (r.number == i.item.run) _ (flips i.item.run r.number differ)) own in
        joined.kept r.number (noted
        (ap (λ b. r.wanted && not (list_any (is_item_of r.number step_target) items || b)) (sym same) ∙ left))

closing-closed : (call : ℕ) (i : Issue) (issues : List Issue) (old new : List ℕ) (run : ℕ)
    → find (has_call call) issues ≡ Some i → AreOwn issues → IsJoined i.item.run old new
    → IsClosing issues old run → IsClosing (without_call call issues) new run
closing-closed call i issues old new run found own joined h left =
    by_test (run == i.item.run) refl
  where
    by_test : (b : Bool) → (run == i.item.run) ≡ b → has_open_call (without_call call issues) run ≡ true
    by_test true t =
        let clash : true ≡ false = sym (ap (has_number new) (eqb-true run i.item.run t) ∙ joined.there) ∙ left in cc
    by_test false differ =
        any-closed (λ (c : Issue). run == c.item.run) call i issues found differ own
        ∙ h (untouched old new run joined.kept left)

-- its run is touched
ends-closed : (call : ℕ) (i : Issue) (runs : ℕ) (live closing : List Run) (ended : List EndedRun)
    (issues : List Issue) (old new : List ℕ) → find (has_call call) issues ≡ Some i → IsJoined i.item.run old new
    → AreEndsRight runs live closing ended issues old
    → AreEndsRight runs live closing ended (without_call call issues) new
ends-closed call i runs live closing ended issues old new found joined h = record {
  closing_open = all-weaker (λ (r : Run). IsClosing issues old r.number)
      (λ (r : Run). IsClosing (without_call call issues) new r.number) closing
      (λ r k. closing-closed call i issues old new r.number found h.own_calls joined k) h.closing_open;
  ended_open = all-weaker (λ (e : EndedRun). IsClosing issues old e.run)
      (λ (e : EndedRun). IsClosing (without_call call issues) new e.run) _
      (λ e k. closing-closed call i issues old new e.run found h.own_calls joined k) h.ended_open;
  given = h.given;
  once = h.once;
  own_calls = pairs-filter (λ (i later : Issue). i.call ≢ later.call) (λ c. not (has_call call c)) issues h.own_calls;
}

fit-close : (call : ℕ) (s : State) → IsFit s → IsFit (close call s)
fit-close call s h =
    fit-calls s.calls s.items (without_call call s.issues) s
    (record {
      queued = h.calls_fit.queued;
      open_calls = all-filter (IsIssueFit s.calls s.entries) (λ c. not (has_call call c)) s.issues
          h.calls_fit.open_calls;
    }) h

pub held-close : (m : Parts) (call : ℕ) (i : Issue) (a : Admission) (wanting touched : List ℕ)
    → Some i ≡ open_issue call (state_of m)
    → a ≡ record m.admission { issues = without_call call m.admission.issues }
    → IsJoined i.item.run m.wanting wanting → IsJoined i.item.run m.loose.runs touched → IsHeld m
    → Becomes (close call (state_of m)) m
    (record m { admission = a; wanting = wanting; loose = record m.loose { runs = touched } })
held-close m call i a wanting touched found left noted loose h =
    subst (λ (b : Admission). Becomes (close call (state_of m)) m
    (record m { admission = b; wanting = wanting; loose = record m.loose { runs = touched } })) (sym left)
    (record {
      state = refl;
      held = record {
        fit = fit-close call (state_of m) h.fit;
        wants = wants-closed call i m.runs.live m.admission.items m.admission.issues m.wanting wanting (sym found)
            h.ends.own_calls noted h.wants;
        events = h.events;
        versions = h.versions;
        ends = ends-closed call i m.counts.runs m.runs.live m.runs.closing m.ended m.admission.issues m.loose.runs
            touched (sym found) loose h.ends;
        clock = h.clock;
      };
      clock = refl;
    })

-- none has the number
pub held-close-none : (m : Parts) (call : ℕ) (a : Admission) → None ≡ open_issue call (state_of m)
    → a ≡ record m.admission { issues = without_call call m.admission.issues } → IsHeld m
    → Becomes (close call (state_of m)) m (record m { admission = a })
held-close-none m call a none left h =
    subst (λ (b : Admission). Becomes (close call (state_of m)) m (record m { admission = b })) (sym left)
    (subst (λ issues. Becomes (record (state_of m) { issues = issues }) m
    (record m { admission = record m.admission { issues = issues } }))
    (sym (filter_none (has_call call) m.admission.issues (sym none))) (becomes-same m h))

-- ## An item is queued again

pub held-again : (m : Parts) (i : Item) (after : After) (a : Admission)
    → a ≡ record m.admission { items = insert_item (again i after (state_of m)) m.admission.items }
    → IsAside i (state_of m) → IsHeld m
    → Becomes (queue (again i after (state_of m)) (state_of m)) m (record m { admission = a })
held-again m i after a queued aside h =
    subst (λ (b : Admission). Becomes (queue (again i after (state_of m)) (state_of m)) m
    (record m { admission = b })) (sym queued)
    (record {
      state = refl;
      held = record {
        fit = fit-queue (again i after (state_of m)) (state_of m) (record { number = aside.given; start = tt }) h.fit;
        wants = wants-queued (again i after (state_of m)) m.runs.live m.admission.items m.admission.issues m.wanting
            h.wants;
        events = h.events;
        versions = h.versions;
        ends = h.ends;
        clock = h.clock;
      };
      clock = refl;
    })

-- ## A call that ends, and what follows

some-is : {X : Type 0} (found : Option X) → true ≡ is_some found → found ≡ None → ⊥
some-is None h none = cc
some-is (Some x) h none = cc

none-is : {X : Type 0} (found : Option X) → false ≡ is_some found → found ≡ None
none-is None h = refl
none-is (Some x) h = cc

module _ (call : ℕ) (m a : Parts) (closed : Becomes (close call (state_of m)) m a) where
  pub call-unknown : (reply : ReplyIn) → None ≡ item_in (open_issue call (state_of m))
      → Becomes (on_reply call reply (state_of m)) m a
  call-unknown reply none =
      subst (λ s. Becomes s m a) (sym (replied-none call (state_of m) reply none)) closed

  pub failed-unknown : (error : List ℕ) → None ≡ item_in (open_issue call (state_of m))
      → Becomes (fail_found (open_issue call (state_of m)) error (state_of m)) m a
  failed-unknown error none =
      subst (λ s. Becomes s m a) (sym (failed-none call (state_of m) error none)) closed

  module _ (item : Item) (is : Some item ≡ item_in (open_issue call (state_of m))) where
    pub stands-aside : HasOwnNumbers (state_of m) → IsAside item (state_of a)
    stands-aside own =
        subst (λ s. IsAside item s) (sym closed.state) (closed-aside call (state_of m) item own is)

    pub call-late : (reply : ReplyIn) → false ≡ is_some (live_run item.run (state_of a))
        → Becomes (on_reply call reply (state_of m)) m a
    call-late reply ended =
        subst (λ s. Becomes s m a) (sym (replied-ended call (state_of m) reply item is
        (ap (λ s. live_run item.run s) (sym closed.state) ∙ none-is (live_run item.run (state_of a)) ended))) closed

    pub call-answered : (b new : Parts) (reply : ReplyIn) (outcome : Outcome) → outcome ≡ outcome_of reply
        → true ≡ is_some (live_run item.run (state_of a))
        → Becomes (outcome_at (live_run item.run (state_of a)) item outcome (state_of a)) a b
        → Becomes (discover (state_of b)) b new → Becomes (on_reply call reply (state_of m)) m new
    call-answered b new reply outcome same live taken found =
        subst (λ s. Becomes s m new) (sym (replied call (state_of m) reply item is
        (λ none. some-is (live_run item.run (state_of a)) live (ap (λ s. live_run item.run s) closed.state ∙ none))))
        (becomes-then discover (outcome_at (live_run item.run (state_of m)) item (outcome_of reply)
        (close call (state_of m))) m b new
        (becomes-then (λ s. outcome_at (live_run item.run s) item (outcome_of reply) s) (close call (state_of m)) m a b
        closed (subst (λ o. Becomes (outcome_at (live_run item.run (state_of a)) item o (state_of a)) a b) same taken))
        found)

    pub call-failed-then : (b new : Parts) (error : List ℕ)
        → Becomes (retry item after.None error (state_of a)) a b → Becomes (discover (state_of b)) b new
        → Becomes (fail_found (open_issue call (state_of m)) error (state_of m)) m new
    call-failed-then b new error retried found =
        subst (λ s. Becomes s m new) (sym (failed call (state_of m) error item is))
        (becomes-then discover (retry item after.None error (close call (state_of m))) m b new
        (becomes-then (retry item after.None error) (close call (state_of m)) m a b closed retried) found)

-- ## Operations, and what follows

module _ (m l new : Parts) (i : Item) (ops : List Op) (no_retry : Bool) (a : After)
    (told : false ≡ lacks_target i ops)
    (became : Becomes (take_operations i no_retry ops (begun (state_of m))).state m l) where
  pub operations-aside : IsAside i (state_of m) → IsAside i (state_of l)
  operations-aside aside =
      subst (λ s. IsAside i s) (sym became.state) (aside-operations i no_retry ops (begun (state_of m)) aside)

  pub operations-stop : IsHeld m → Stops ≡ taken_of (take_operations i no_retry ops (begun (state_of m)))
      → Becomes (ops_at (live_run i.run (state_of m)) i ops no_retry a (state_of m)) m l
  operations-stop h is =
      subst (λ s. Becomes s m l) (sym (ops-stop i ops no_retry a (state_of m) (sym told) h.fit is)) became

  pub operations-again : Again ≡ taken_of (take_operations i no_retry ops (begun (state_of m)))
      → Becomes (retry i a [] (state_of l)) l new
      → Becomes (ops_at (live_run i.run (state_of m)) i ops no_retry a (state_of m)) m new
  operations-again is then =
      subst (λ s. Becomes s m new) (sym (ops-again i ops no_retry a (state_of m) (sym told) is))
      (becomes-then (retry i a []) (take_operations i no_retry ops (begun (state_of m))).state m l new became then)

  pub operations-on : GoesOn ≡ taken_of (take_operations i no_retry ops (begun (state_of m)))
      → Becomes (after_found (live_run i.run (state_of l)) i a (state_of l)) l new
      → Becomes (ops_at (live_run i.run (state_of m)) i ops no_retry a (state_of m)) m new
  operations-on is then =
      subst (λ s. Becomes s m new) (sym (ops-on i ops no_retry a (state_of m) (sym told) is))
      (becomes-then (λ s. after_found (live_run i.run s) i a s)
      (take_operations i no_retry ops (begun (state_of m))).state m l new became then)

-- what was asked of a target and operations, of the item's own
pub lacks-at : (i : Item) (ops os : List Op) (target : List ℕ) (b : Bool) → b ≡ lacks target os → target ≡ i.target
    → os ≡ ops → b ≡ lacks_target i ops
lacks-at i ops os target b e t o = e ∙ ap (λ x. lacks x os) t ∙ ap (λ x. lacks i.target x) o
