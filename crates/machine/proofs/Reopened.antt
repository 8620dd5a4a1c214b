-- No call is open any more: each item is queued again, one call after the other.
use Rattle.std.proofs.Common.{◌≡◌, ℕ, ◌<◌, ◌==◌, Bool, true, false, List, [], ◌∷◌, drop, length, slice_get, Option, Some, None, option_map, refl, sym, ap, ◌∙◌, arith, subst, eqb-true}
use Rattle.std.specs.List.{AllByRecursion}
use Rattle.admission.specs.Admission.{Admission}
use Rattle.admission.specs.Issues.{call_of}
use Rattle.admission.proofs.CallLemmas.{first_found}
use Rattle.kinds.specs.Cells.{IsStart}
use Rattle.kinds.specs.Moments.{last_moment}
use Rattle.kinds.specs.Queue.{insert_item}
use Rattle.kinds.specs.RunSteps.{is_recorded}
use Rattle.kinds.specs.declared.store.Item.{Item}
use Rattle.run_model.specs.Fit.{HasOwnNumbers, IsAside, IsIssueFit, IsItemFit, item_of}
use Rattle.run_model.specs.Machine.{reopen, requeue_all, requeue_found}
use Rattle.run_model.specs.Making.{discover, queue}
use Rattle.run_model.specs.Recording.{change_run}
use Rattle.run_model.specs.Replies.{want}
use Rattle.run_model.specs.State.{State, Run, Issue, live_run}
use Rattle.run_model.proofs.Apart.{Beside, apart-steps}
use Rattle.run_model.proofs.FitRuns.{fit-queue}
use Rattle.run_model.proofs.KeptSteps.{acted-requeue_found, acts-of}
use Rattle.run_model.proofs.SettlingLists.{found-passes}
use Rattle.machine.specs.Held.{Becomes, IsHeld}
use Rattle.machine.specs.Numbers.{IsJoined}
use Rattle.machine.specs.Steps.{due_now, first_item, without_first}
use Rattle.machine.specs.View.{state_of}
use Rattle.machine.specs.declared.parts.Parts.{Parts}
use Rattle.machine.proofs.Fired.{calls-apart}
use Rattle.machine.proofs.HeldMaking.{wants-queued}
use Rattle.machine.proofs.HeldReplies.{held-close}
use Rattle.machine.proofs.HeldWords.{becomes-same}

-- ## A call goes

pub held-first : (m : Parts) (i : Issue) (a : Admission) (wanting touched : List ℕ)
    → Some i ≡ slice_get m.admission.issues 0 → a ≡ record m.admission { issues = drop 1 m.admission.issues }
    → IsJoined i.item.run m.wanting wanting → IsJoined i.item.run m.loose.runs touched → IsHeld m
    → Becomes (without_first (state_of m)) m
    (record m { admission = a; wanting = wanting; loose = record m.loose { runs = touched } })
held-first m i a wanting touched first left noted loose h =
    let own = first_found i.call m.admission.issues (calls-apart m.admission.issues h.ends.own_calls)
    (ap (option_map call_of) (sym first)) in
    subst (λ (is : List Issue). Becomes (record (state_of m) { issues = is }) m
    (record m { admission = a; wanting = wanting; loose = record m.loose { runs = touched } })) own.1
    (held-close m i.call i a wanting touched (first ∙ sym own.0)
    (left ∙ ap (λ (is : List Issue). record m.admission { issues = is }) (sym own.1)) noted loose h)

nothing-first : {X : Type 0} (xs : List X) → None ≡ slice_get xs 0 → xs ≡ []
nothing-first [] h = refl
nothing-first (x ∷ xs) h = cc

pub held-no-first : (m : Parts) (a : Admission) → None ≡ slice_get m.admission.issues 0
    → a ≡ record m.admission { issues = drop 1 m.admission.issues } → IsHeld m
    → Becomes (without_first (state_of m)) m (record m { admission = a })
held-no-first m a none left h =
    let empty : m.admission.issues ≡ [] = nothing-first m.admission.issues none in
    let same : drop 1 m.admission.issues ≡ m.admission.issues = ap (drop 1) empty ∙ sym empty in
    subst (λ (b : Admission). Becomes (without_first (state_of m)) m (record m { admission = b }))
    (sym (left ∙ ap (λ (is : List Issue). record m.admission { issues = is }) same))
    (record {
      state = ap (λ (is : List Issue). record (state_of m) { issues = is }) (sym same);
      held = h;
      clock = refl;
    })

-- ## Its item

pub held-queue : (m : Parts) (i : Item) (a : Admission)
    → a ≡ record m.admission { items = insert_item i m.admission.items } → IsItemFit m.counts.entries i → IsHeld m
    → Becomes (queue i (state_of m)) m (record m { admission = a })
held-queue m i a queued fits h =
    subst (λ (b : Admission). Becomes (queue i (state_of m)) m (record m { admission = b })) (sym queued)
    (record {
      state = refl;
      held = record {
        fit = fit-queue i (state_of m) fits h.fit;
        wants = wants-queued i m.runs.live m.admission.items m.admission.issues m.wanting h.wants;
        events = h.events;
        versions = h.versions;
        ends = h.ends;
        clock = h.clock;
      };
      clock = refl;
    })

run-requeued : (i : Item) (r : Run) (s : State) (b : Bool) → is_recorded i.target r.steps ≡ b
    → requeue_found i (Some r) s
    ≡ elim b as (λ _. State) [ true ↦ change_run r.number want s | false ↦ queue (due_now i s) s ]
run-requeued i r s b e =
    ap (λ c. elim c as (λ _. State) [ true ↦ change_run r.number want s | false ↦ queue (due_now i s) s ]) e

module _ (m : Parts) (i : Item) where
  abbrev requeued : State
  requeued = requeue_found i (live_run i.run (state_of m)) (state_of m)

  pub requeue-none : None ≡ live_run i.run (state_of m) → IsHeld m → Becomes requeued m m
  requeue-none none h =
      subst (λ o. Becomes (requeue_found i o (state_of m)) m m) none (becomes-same m h)

  pub requeue-wants : (r : Run) (new : Parts) → Some r ≡ live_run i.run (state_of m)
      → is_recorded i.target r.steps ≡ true → Becomes (change_run i.run want (state_of m)) m new
      → Becomes requeued m new
  requeue-wants r new found done b =
      subst (λ o. Becomes (requeue_found i o (state_of m)) m new) found
      (subst (λ s. Becomes s m new) (sym (run-requeued i r (state_of m) true done))
      (subst (λ n. Becomes (change_run n want (state_of m)) m new)
      (eqb-true i.run r.number (found-passes (λ (q : Run). i.run == q.number) m.runs.live r (sym found))) b))

  pub requeue-waits : (r : Run) (new : Parts) → Some r ≡ live_run i.run (state_of m)
      → is_recorded i.target r.steps ≡ false → Becomes (queue (due_now i (state_of m)) (state_of m)) m new
      → Becomes requeued m new
  requeue-waits r new found fresh b =
      subst (λ o. Becomes (requeue_found i o (state_of m)) m new) found
      (subst (λ s. Becomes s m new) (sym (run-requeued i r (state_of m) false fresh)) b)

-- ## One after the other

abbrev closed : State → State
closed s = record s { issues = [] }

run-issues : (i : Item) (r : Run) (s : State) (is : List Issue) (b : Bool)
    → (elim b as (λ _. State) [
      | true ↦ change_run r.number want (record s { issues = is })
      | false ↦ queue (due_now i s) (record s { issues = is })
    ])
    ≡ record (elim b as (λ _. State) [ true ↦ change_run r.number want s | false ↦ queue (due_now i s) s ])
    { issues = is }
run-issues i r s is true = refl
run-issues i r s is false = refl

-- open calls have no part in it
requeue-issues : (i : Item) (found : Option Run) (s : State) (is : List Issue)
    → requeue_found i found (record s { issues = is }) ≡ record (requeue_found i found s) { issues = is }
requeue-issues i None s is = refl
requeue-issues i (Some r) s is = run-issues i r s is (is_recorded i.target r.steps)

-- what is left to be queued again makes now what all makes of the first
pub record IsReopening (first m : Parts) : Type 0 where
  pub same : requeue_all m.admission.issues (closed (state_of m))
      ≡ requeue_all first.admission.issues (closed (state_of first))
  pub held : IsHeld m
  pub apart : HasOwnNumbers (state_of m)
  pub clock : m.admission.moment ≡ first.admission.moment

-- the item of the first call
abbrev IsFirst : Item → List Issue → Type 0
IsFirst item is = Some item ≡ option_map item_of (slice_get is 0)

aside-by : (s : State) (item : Item) (is : List Issue) → s.issues ≡ is → IsFirst item is
    → HasOwnNumbers s → IsAside item s × Beside (item ∷ []) (without_first s)
aside-by s item [] e first h = cc
aside-by s item (i ∷ is) e first h =
    let own : i.item ≡ item = cc in
    let all : HasOwnNumbers (record s { issues = i ∷ is }) =
    subst (λ (js : List Issue). HasOwnNumbers (record s { issues = js })) e h in (
      subst (λ j. IsAside j s) own all.aside.0,
      subst (λ j. Beside (j ∷ []) (without_first s)) own
          (subst (λ (js : List Issue). Beside (i.item ∷ []) (record s { issues = drop 1 js })) (sym e) all),
    )

start-by : (calls entries : ℕ) (item : Item) (is : List Issue) → IsFirst item is
    → AllByRecursion (IsIssueFit calls entries) is → IsStart item.start
start-by calls entries item [] first h = cc
start-by calls entries item (i ∷ is) first h =
    let own : i.item ≡ item = cc in
    subst (λ (j : Item). IsStart j.start) own (subst (λ start. IsStart start) (sym h.0.item.start) tt)

fewer-by : (item : Item) (is : List Issue) → IsFirst item is → length (drop 1 is) < length is
fewer-by item [] first = cc
fewer-by item (i ∷ is) first = omega arith

module _ (first m : Parts) (h : IsReopening first m) where
  module _ (taken : Parts) (item : Item) (is_first : IsFirst item m.admission.issues)
      (left : Becomes (without_first (state_of m)) m taken) where
    pub taken-aside : IsAside item (state_of taken)
    taken-aside = subst (IsAside item) (sym left.state)
        (aside-by (state_of m) item m.admission.issues refl is_first h.apart).0

    pub taken-start : IsStart item.start
    taken-start = start-by m.counts.calls m.counts.entries item m.admission.issues is_first
        h.held.fit.calls_fit.open_calls

    beside-taken : Beside (item ∷ []) (without_first (state_of m))
    beside-taken = (aside-by (state_of m) item m.admission.issues refl is_first h.apart).1

    abbrev word : State → State
    word s = requeue_found item (live_run item.run s) s

    pub reopening-on : (new : Parts) → Becomes (word (state_of taken)) taken new → IsReopening first new
    reopening-on new b =
        let now : state_of new ≡ word (without_first (state_of m)) = b.state ∙ ap word left.state in
        record {
          same = turn m.admission.issues refl is_first (state_of new) now ∙ h.same;
          held = b.held;
          apart = subst HasOwnNumbers (sym now)
              (acted-requeue_found (λ _. Unit {0}) Beside
              (acts-of last_moment (λ _. Unit {0}) Beside (apart-steps last_moment)) item []
              (live_run item.run (state_of m)) (without_first (state_of m)) refl beside-taken);
          clock = b.clock ∙ left.clock ∙ h.clock;
        }
      where
        turn : (is : List Issue) → m.admission.issues ≡ is → IsFirst item is → (u : State)
            → u ≡ word (record (state_of m) { issues = drop 1 m.admission.issues })
            → requeue_all u.issues (closed u) ≡ requeue_all m.admission.issues (closed (state_of m))
        turn [] e none u now = cc
        turn (i ∷ is) e here u now =
            let own : item ≡ i.item = cc in
            let next : u ≡ record (word (state_of m)) { issues = is } =
            now ∙ ap (λ js. word (record (state_of m) { issues = drop 1 js })) e
            ∙ requeue-issues item (live_run item.run (state_of m)) (state_of m) is in
            ap (λ (v : State). requeue_all v.issues (closed v)) next
            ∙ ap (requeue_all is) (sym (requeue-issues item (live_run item.run (state_of m)) (state_of m) []))
            ∙ ap (λ j. requeue_all is (requeue_found j (live_run j.run (state_of m)) (closed (state_of m)))) own
            ∙ ap (λ js. requeue_all js (closed (state_of m))) (sym e)

    pub fewer-issues : (new : Parts) → Becomes (word (state_of taken)) taken new
        → length new.admission.issues < length m.admission.issues
    fewer-issues new b =
        subst (λ (s : State). length s.issues < length m.admission.issues)
        (sym (b.state ∙ ap word left.state
        ∙ requeue-issues item (live_run item.run (state_of m)) (state_of m) (drop 1 m.admission.issues)))
        (fewer-by item m.admission.issues is_first)

  -- nothing is left, and it is found out what comes next
  pub reopened : (taken new : Parts) → None ≡ first_item (state_of m) → Becomes (without_first (state_of m)) m taken
      → Becomes (discover (state_of taken)) taken new → Becomes (reopen (state_of first)) first new
  reopened taken new none left b =
      let empty : m.admission.issues ≡ [] = no_item m.admission.issues none in
      let now : state_of taken ≡ requeue_all first.admission.issues (closed (state_of first)) =
      left.state ∙ ap (λ (is : List Issue). record (state_of m) { issues = drop 1 is }) empty
      ∙ ap (λ is. requeue_all is (closed (state_of m))) (sym empty) ∙ h.same in
      record {
        state = b.state ∙ ap discover now;
        held = b.held;
        clock = b.clock ∙ left.clock ∙ h.clock;
      }
    where
      no_item : (is : List Issue) → None ≡ option_map item_of (slice_get is 0) → is ≡ []
      no_item [] e = refl
      no_item (i ∷ is) e = cc
