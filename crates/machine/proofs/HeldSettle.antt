-- The parts after a call is made, and after all calls that may be made are.
use Rattle.std.proofs.Common.{◌≡◌, ◌≢◌, ℕ, zero, suc, ◌+◌, ◌<◌, ◌≤◌, ◌==◌, Bool, true, false, not, cond, ◌&&◌, ◌||◌, List, [], ◌∷◌, ◌++◌, append-nil, find, length, take, ◌-◌, Option, Some, None, bytes_eq, refl, sym, ap, ◌∙◌, arith, subst, eqb-true}
use Rattle.std.specs.List.{AllByRecursion, list_any}
use Rattle.std.proofs.lemmas.Bool.Decides.{nat_tests}
use Rattle.std.proofs.lemmas.List.Folds.{list_any-append}
use Rattle.std.proofs.lemmas.Option.{same_Some}
use Rattle.admission.specs.Admission.{Admission}
use Rattle.admission.specs.Admission as admission
use Rattle.admission.specs.Issues as issues
use Rattle.kinds.specs.Moments.{last_moment}
use Rattle.kinds.specs.Queue.{has_number, without_number}
use Rattle.kinds.specs.declared.out.Out.{Out}
use Rattle.kinds.specs.declared.store.Item.{Item}
use Rattle.kinds.specs.declared.store.StepEntry.{StepEntry}
use Rattle.sdk_call.specs.Body.{call_body}
use Rattle.lists.proofs.Elements.{all-weaker}
use Rattle.lists.proofs.Keyed.{filter_none}
use Rattle.lists.proofs.Texts.{bytes_flip}
use Rattle.runs.specs.Changes.{called, changed}
use Rattle.runs.specs.Runs.{RunLists}
use Rattle.run_model.specs.Fit.{AreDifferent, HasOwnNumbers, IsIssueFit, IsRunFit}
use Rattle.run_model.specs.Making.{is_item_of, step_target}
use Rattle.run_model.specs.Settle.{Settled, issue, issue_found, issue_of, item_at, next_issued, settle, settle_by}
use Rattle.run_model.specs.State.{State, Run, Issue, EndedRun, live_run}
use Rattle.run_model.proofs.Apart.{all-none, apart-issue, not-same, pairs-last}
use Rattle.run_model.proofs.FitSteps.{fit-issue}
use Rattle.run_model.proofs.Members.{in-all, in-found}
use Rattle.run_model.proofs.SettlingRests.{falls, may_be_issued, none-in-empty}
use Rattle.run_model.proofs.SettlingLists.{found-passes}
use Rattle.machine.specs.Held.{AreEndsRight, AreWantsNoted, Becomes, IsClosing, IsHeld, is_left}
use Rattle.machine.specs.Numbers as numbers
use Rattle.machine.specs.View.{state_of}
use Rattle.machine.specs.Words.{issue_at, issued_at, said_at, said_of, with_outs}
use Rattle.machine.specs.declared.counts.Counts.{Counts}
use Rattle.machine.specs.declared.parts.Parts.{Parts}
use Rattle.machine.proofs.Changed.{KeepsNames, all-changed-by, ends-changed, events-changed, order-changed, versions-changed}
use Rattle.machine.proofs.HeldRecording.{as-lists}

pub keeps-called : (target : List ℕ) → KeepsNames (called target)
keeps-called target = record { number = λ r. refl; events = λ r. refl; version = λ r. refl }

-- ## An item goes from the queue

gone-none : (n : ℕ) (items : List Item) → find (has_number n) items ≡ None → without_number n items ≡ items
gone-none n items none = filter_none (has_number n) items none

others-differ : (n : ℕ) (items : List Item) → AllByRecursion (λ (i : Item). n ≢ i.number) items
    → find (has_number n) items ≡ None
others-differ n items h =
    all-none (has_number n) items
    (all-weaker (λ (i : Item). n ≢ i.number) (λ i. has_number n i ≡ false) items
    (λ (i : Item) differ. not-same n i.number differ) h)

-- a test that the item doesn't pass answers as before
any-gone : (p : Item → Bool) (n : ℕ) (i : Item) (items : List Item) → AreDifferent items
    → find (has_number n) items ≡ Some i → p i ≡ false
    → list_any p (without_number n items) ≡ list_any p items
any-gone p n i [] apart found fails = refl
any-gone p n i (j ∷ items) apart found fails =
    by_test (n == j.number) refl found (λ there. any-gone p n i items apart.1 there fails)
  where
    by_test : (b : Bool) → (n == j.number) ≡ b → cond b (Some j) (find (has_number n) items) ≡ Some i
        → (find (has_number n) items ≡ Some i → list_any p (without_number n items) ≡ list_any p items)
        → list_any p (cond (not b) (j ∷ without_number n items) (without_number n items)) ≡ (p j || list_any p items)
    by_test true e here more =
        ap (list_any p) (gone-none n items (subst (λ m. find (has_number m) items ≡ None) (sym (eqb-true n j.number e))
        (others-differ j.number items apart.0)))
        ∙ ap (λ b. b || list_any p items) (sym (ap p (same_Some j i here) ∙ fails))
    by_test false e here more = ap (λ b. p j || b) (more here)

-- ## What finds out what comes next

-- more calls that are open leave less to find out
fewer-left : (w a a2 b b2 : Bool) → a2 ≡ a → (b ≡ true → b2 ≡ true) → (w && not (a2 || b2)) ≡ true
    → (w && not (a || b)) ≡ true
fewer-left w true true b b2 same more h = h
fewer-left w true false b b2 same more h = let clash : false ≡ true = same in cc
fewer-left w false true b b2 same more h = let clash : true ≡ false = same in cc
fewer-left w false false true b2 same more h =
    subst (λ c. (w && not c) ≡ true) (more refl) h
fewer-left true false false false b2 same more h = refl
fewer-left false false false false b2 same more h = h

left-and : (a b c : Bool) → ((a && b) && c) ≡ true → b ≡ true
left-and true true c h = refl
left-and true false c h = cc
left-and false b c h = cc

drop-and : (a b c : Bool) → ((a && b) && c) ≡ true → (a && c) ≡ true
drop-and true true c h = h
drop-and true false c h = cc
drop-and false b c h = h

not-true : (b : Bool) → not b ≡ true → b ≡ false
not-true true h = cc
not-true false h = refl

any-more : (p : Issue → Bool) (issues : List Issue) (i : Issue) → list_any p issues ≡ true
    → list_any p (issues ++ i ∷ []) ≡ true
any-more p issues i h =
    list_any-append p issues (i ∷ []) ∙ ap (λ b. b || list_any p (i ∷ [])) h

no-item : (a b : Bool) → a ≡ false → (a && b) ≡ false
no-item true b h = cc
no-item false b h = refl

no-target : (a b : Bool) → b ≡ false → (a && b) ≡ false
no-target true b h = h
no-target false b h = refl

flips : (n m : ℕ) → (n == m) ≡ false → (m == n) ≡ false
flips n m h = grind (arith, nat_tests, h)

-- whoever wants as before, and whose the item isn't
left-still : (number : ℕ) (i : Item) (items : List Item) (open_calls : List Issue) (new : Issue) (r : Run)
    → AreDifferent items → find (has_number number) items ≡ Some i
    → is_item_of r.number step_target i ≡ false
    → is_left (without_number number items) (open_calls ++ new ∷ []) r ≡ true → is_left items open_calls r ≡ true
left-still number i items open_calls new r apart found another h =
    let in_call : Issue → Bool = λ (c : Issue). is_item_of r.number step_target c.item in
    fewer-left r.wanted (list_any (is_item_of r.number step_target) items)
    (list_any (is_item_of r.number step_target) (without_number number items)) (list_any in_call open_calls)
    (list_any in_call (open_calls ++ new ∷ []))
    (any-gone (is_item_of r.number step_target) number i items apart found another)
    (any-more in_call open_calls new) h

wants-called : (i : Item) (live : List Run) (items : List Item) (open_calls : List Issue) (new : Issue)
    (wanting : List ℕ) → AreDifferent items → find (has_number i.number) items ≡ Some i
    → AreWantsNoted live items open_calls wanting
    → AreWantsNoted (changed i.run (called i.target) live) (without_number i.number items) (open_calls ++ new ∷ [])
    wanting
wants-called i live items open_calls new wanting apart found h = record {
  ordered = order-changed i.run (called i.target) (keeps-called i.target) live h.ordered;
  noted = all-changed-by
      (λ r. is_left items open_calls r ≡ true → numbers.has_number wanting r.number ≡ true)
      (λ r. is_left (without_number i.number items) (open_calls ++ new ∷ []) r ≡ true
      → numbers.has_number wanting r.number ≡ true)
      i.run (called i.target) live (λ r noted. by_test r noted (i.run == r.number) refl) h.noted;
}
  where
    by_test : (r : Run) → (is_left items open_calls r ≡ true → numbers.has_number wanting r.number ≡ true)
        → (b : Bool) → (i.run == r.number) ≡ b
        → is_left (without_number i.number items) (open_calls ++ new ∷ []) (cond b (called i.target r) r) ≡ true
        → numbers.has_number wanting (cond b (called i.target r) r).number ≡ true
    by_test r noted true t left =
        let nothing : Bool = not (list_any (is_item_of r.number step_target) (without_number i.number items)
        || list_any (λ (c : Issue). is_item_of r.number step_target c.item) (open_calls ++ new ∷ [])) in
        let unfound : Bool = not (bytes_eq i.target step_target) in
        noted (left-still i.number i items open_calls new r apart found
        (no-target (r.number == i.run) (bytes_eq step_target i.target)
        (bytes_flip step_target i.target
        ∙ not-true (bytes_eq i.target step_target) (left-and r.wanted unfound nothing left)))
        (drop-and r.wanted unfound nothing left))
    by_test r noted false t left =
        noted (left-still i.number i items open_calls new r apart found
        (no-item (r.number == i.run) (bytes_eq step_target i.target) (flips i.run r.number t)) left)

-- ## What has ended

apart-below : (n m : ℕ) → n < m → n ≢ m
apart-below n m less same = let no : m < m = subst (λ k. k < m) same less in absurd (omega (arith, no))

closing-called : (open_calls : List Issue) (new : Issue) (touched : List ℕ) (run : ℕ)
    → IsClosing open_calls touched run → IsClosing (open_calls ++ new ∷ []) touched run
closing-called open_calls new touched run h untouched =
    any-more (λ (i : Issue). run == i.item.run) open_calls new (h untouched)

ends-called : (runs : ℕ) (live closing : List Run) (ended : List EndedRun) (open_calls : List Issue) (new : Issue)
    (touched : List ℕ) → AllByRecursion (λ (i : Issue). i.call < new.call) open_calls
    → AreEndsRight runs live closing ended open_calls touched
    → AreEndsRight runs live closing ended (open_calls ++ new ∷ []) touched
ends-called runs live closing ended open_calls new touched below h = record {
  closing_open = all-weaker (λ (r : Run). IsClosing open_calls touched r.number)
      (λ (r : Run). IsClosing (open_calls ++ new ∷ []) touched r.number) closing
      (λ r c. closing-called open_calls new touched r.number c) h.closing_open;
  ended_open = all-weaker (λ (e : EndedRun). IsClosing open_calls touched e.run)
      (λ (e : EndedRun). IsClosing (open_calls ++ new ∷ []) touched e.run) (take (length ended - 1000) ended)
      (λ e c. closing-called open_calls new touched e.run c) h.ended_open;
  given = h.given;
  once = h.once;
  own_calls = pairs-last (λ (i later : Issue). i.call ≢ later.call) open_calls new h.own_calls
      (all-weaker (λ (i : Issue). i.call < new.call) (λ (i : Issue). i.call ≢ new.call) open_calls
      (λ i less. apart-below i.call new.call less) below);
}

-- numbers so far are below the next
pub calls-below : (calls entries : ℕ) (open_calls : List Issue) → AllByRecursion (IsIssueFit calls entries) open_calls
    → AllByRecursion (λ (i : Issue). i.call < calls + 1) open_calls
calls-below calls entries open_calls h =
    all-weaker (IsIssueFit calls entries) (λ (i : Issue). i.call < calls + 1) open_calls
    (λ i (k : IsIssueFit calls entries i). omega (arith, k.call)) h

-- ## A call is made

abbrev admission_by : Parts → Item → ℕ → Admission
admission_by m i moment = record {
  items = without_number i.number m.admission.items;
  issues = m.admission.issues ++ issues.issued i (m.counts.calls + 1) (m.counts.entries + 1) moment ∷ [];
  starts = admission.started_at i.start moment m.admission.starts;
  moment = m.admission.moment;
}

abbrev with_call : Item → Parts → Parts
with_call i m = record m {
  counts = record m.counts { calls = m.counts.calls + 1; entries = m.counts.entries + 1 };
  admission = admission_by m i m.moment;
  runs = record { live = changed i.run (called i.target) m.runs.live; closing = m.runs.closing };
}

held-called : (m : Parts) (i : Item) → AreDifferent m.admission.items
    → item_at i.number (state_of m) ≡ Some i → IsHeld m → Becomes (issue i (state_of m)) m (with_call i m)
held-called m i apart found h =
    let f = called i.target in
    let keeps = keeps-called i.target in
    let new : Issue = issues.issued i (m.counts.calls + 1) (m.counts.entries + 1) m.moment in
    record {
      state = refl;
      held = record {
        fit = fit-issue i.number i (state_of m) found h.fit;
        wants = wants-called i m.runs.live m.admission.items m.admission.issues new m.wanting apart found h.wants;
        events = events-changed i.run f keeps m.runs.live m.runs.closing m.windows m.texts.texts m.texts.counted
            m.loose.events h.events;
        versions = versions-changed i.run f keeps m.runs.live m.runs.closing m.windows m.versions.retired
            m.loose.versions h.versions;
        ends = ends-called m.counts.runs (changed i.run f m.runs.live) m.runs.closing m.ended m.admission.issues
            new m.loose.runs (calls-below m.counts.calls m.counts.entries m.admission.issues h.fit.calls_fit.open_calls)
            (ends-changed i.run f keeps m.counts.runs m.runs.live m.runs.closing m.ended m.admission.issues
            m.loose.runs h.ends);
        clock = h.clock;
      };
      clock = refl;
    }

found-own : (number : ℕ) (i : Item) (items : List Item) → find (has_number number) items ≡ Some i
    → find (has_number i.number) items ≡ Some i
found-own number i items found =
    subst (λ n. find (has_number n) items ≡ Some i)
    (eqb-true number i.number (found-passes (has_number number) items i found)) found

issued-by : (m : Parts) (number : ℕ) (i : Item) (a : Admission)
    → item_at number (state_of m) ≡ Some i → m.admission.moment ≡ m.moment
    → a ≡ admission.with_issued number (m.counts.calls + 1) (m.counts.entries + 1) m.admission
    → a ≡ (with_call i m).admission
issued-by m number i a found now is =
    is
    ∙ ap (λ o. admission.issue_found o (m.counts.calls + 1) (m.counts.entries + 1) m.admission) found
    ∙ ap (admission_by m i) now

pub held-make_call : (m : Parts) (number : ℕ) (i : Item) (counts : Counts) (a : Admission) (rs : RunLists)
    → item_at number (state_of m) ≡ Some i → AreDifferent m.admission.items → m.admission.moment ≡ m.moment
    → counts ≡ record m.counts { calls = m.counts.calls + 1; entries = m.counts.entries + 1 }
    → a ≡ admission.with_issued number (m.counts.calls + 1) (m.counts.entries + 1) m.admission
    → rs.live ≡ changed i.run (called i.target) m.runs.live → rs.closing ≡ m.runs.closing → IsHeld m
    → Becomes (issue_at (item_at number (state_of m)) (state_of m)) m
    (record m { counts = counts; admission = a; runs = rs })
held-make_call m number i counts a rs found apart now counted is live closing h =
    subst (λ o. Becomes (issue_at o (state_of m)) m (record m { counts = counts; admission = a; runs = rs })) (sym found)
    (subst (λ (c : Counts). Becomes (issue i (state_of m)) m (record m { counts = c; admission = a; runs = rs })) (sym counted)
    (subst (λ (b : Admission). Becomes (issue i (state_of m)) m
    (record m { counts = (with_call i m).counts; admission = b; runs = rs })) (sym (issued-by m number i a found now is))
    (subst (λ (l : RunLists). Becomes (issue i (state_of m)) m
    (record m { counts = (with_call i m).counts; admission = (with_call i m).admission; runs = l }))
    (sym (as-lists rs (changed i.run (called i.target) m.runs.live) m.runs.closing live closing))
    (held-called m i apart (found-own number i m.admission.items found) h))))

pub call-body : (id id2 : List ℕ) (attempt : ℕ) (planned planned2 : Bool) (events events2 : List (List ℕ))
    (steps steps2 : List StepEntry) → id ≡ id2 → planned ≡ planned2 → events ≡ events2 → steps ≡ steps2
    → call_body id attempt planned events steps ≡ call_body id2 attempt planned2 events2 steps2
call-body id id2 attempt planned planned2 events events2 steps steps2 a b c d =
    ap (λ x. call_body x attempt planned events steps) a ∙ ap (λ x. call_body id2 attempt x events steps) b
    ∙ ap (λ x. call_body id2 attempt planned2 x steps) c ∙ ap (λ x. call_body id2 attempt planned2 events2 x) d

pub live-dated : (m : Parts) (run : ℕ) (r : Run) → live_run run (state_of m) ≡ Some r → IsHeld m
    → r.moment ≤ last_moment
live-dated m run r found h =
    (in-all (IsRunFit m.counts.runs m.counts.events m.counts.versions) r m.runs.live
    (in-found (λ (q : Run). run == q.number) m.runs.live r found) h.fit.live_fit).moment

-- ## What is said

-- a call changes the state whatever is said, and what is said stands behind what was said before
issued-state : (found : Option Item) (outs : List Out) (s : State)
    → (issue_found found (with_outs outs s)).state ≡ issue_at found s
issued-state None outs s = refl
issued-state (Some i) outs s = by_run (live_run i.run s)
  where
    by_run : (r : Option Run) → (issue_of r i (with_outs outs s)).state ≡ issue i s
    by_run None = refl
    by_run (Some r) = refl

issued-outs : (found : Option Item) (outs : List Out) (s : State)
    → (issue_found found (with_outs outs s)).outs ≡ outs ++ said_at found (s.calls + 1) s
issued-outs None outs s = sym (append-nil outs)
issued-outs (Some i) outs s = by_run (live_run i.run s)
  where
    by_run : (r : Option Run) → (issue_of r i (with_outs outs s)).outs ≡ outs ++ said_of r i (s.calls + 1) s
    by_run None = sym (append-nil outs)
    by_run (Some r) = refl

pub becomes-issued : (number : ℕ) (outs : List Out) (s : State) (old new : Parts)
    → Becomes (issue_at (item_at number s) s) old new → Becomes (issued_at number outs s).state old new
becomes-issued number outs s old new h =
    subst (λ t. Becomes t old new) (sym (issued-state (item_at number s) outs s)) h

pub says-issued : (number : ℕ) (outs after : List Out) (s : State)
    → after ≡ outs ++ said_at (item_at number s) (s.calls + 1) s → after ≡ (issued_at number outs s).outs
says-issued number outs after s h = h ∙ sym (issued-outs (item_at number s) outs s)

-- ## Calls are made one after the other

abbrev next_settled : ℕ → Settled → Option ℕ → Settled
next_settled n t next = elim next as (λ _. Settled)
    [ None ↦ t | Some number ↦ settle_by n (issue_found (item_at number t.state) t) ]

rests-on : (n : ℕ) (t : Settled) (next : Option ℕ) → next ≡ None → next_settled n t next ≡ t
rests-on n t None e = refl
rests-on n t (Some number) e = cc

rests-at : (n : ℕ) (t : Settled) → next_issued t.state ≡ None → settle_by n t ≡ t
unfolding settle_by
rests-at zero t e = refl
rests-at (suc n) t e = rests-on n t (next_issued t.state) e

goes-on : (n : ℕ) (t : Settled) (number : ℕ) → next_issued t.state ≡ Some number
    → settle_by (suc n) t ≡ settle_by n (issue_found (item_at number t.state) t)
unfolding settle_by
goes-on n t number e = ap (next_settled n t) e

no-items : (t : Settled) → length t.state.items ≤ 0 → next_issued t.state ≡ None
no-items t low = none-in-empty (may_be_issued t.state) t.state.items low

abbrev IsEnough : ℕ → ℕ → Settled → Type 0
IsEnough n m t = length t.state.items ≤ n → length t.state.items ≤ m → settle_by n t ≡ settle_by m t

enough-on : (n m : ℕ) (t : Settled) (next : Option ℕ) → next_issued t.state ≡ next
    → ((u : Settled) → IsEnough n m u) → IsEnough (suc n) (suc m) t
enough-on n m t None e more low within = rests-at (suc n) t e ∙ sym (rests-at (suc m) t e)
enough-on n m t (Some number) e more low within =
    let less = falls number t e in
    goes-on n t number e
    ∙ more (issue_found (item_at number t.state) t) (omega (arith, less, low)) (omega (arith, less, within))
    ∙ sym (goes-on m t number e)

-- each turn takes an item, so as many turns as there are items are enough, and more change nothing
enough : (n m : ℕ) (t : Settled) → IsEnough n m t
unfolding settle_by
enough zero m t low within = sym (rests-at m t (no-items t low))
enough (suc n) zero t low within = rests-at (suc n) t (no-items t within)
enough (suc n) (suc m) t low within = enough-on n m t (next_issued t.state) refl (enough n m) low within

abbrev called_by : ℕ → Settled → Settled
called_by number t = issue_found (item_at number t.state) t

settle-at : (n : ℕ) (t : Settled) (number : ℕ) → next_issued t.state ≡ Some number → n ≡ length t.state.items
    → settle (called_by number t) ≡ settle_by n t
settle-at zero t number e counted = let less = falls number t e in absurd (omega (arith, less, counted))
settle-at (suc n) t number e counted =
    let less = falls number t e in
    enough (length (called_by number t).state.items) n (called_by number t) (omega arith) (omega (arith, less, counted))
    ∙ sym (goes-on n t number e)

-- ## The loop

-- what is left to settle comes to what all came to
pub record IsSettling (first now : Parts) (before outs : List Out) : Type 0 where
  pub same : settle (with_outs outs (state_of now)) ≡ settle (with_outs before (state_of first))
  pub held : IsHeld now
  pub clock : now.admission.moment ≡ first.admission.moment
  pub dated : now.admission.moment ≡ now.moment
  pub apart : HasOwnNumbers (state_of now)

pub settling-first : (m : Parts) (outs : List Out) → m.admission.moment ≡ m.moment → IsHeld m
    → HasOwnNumbers (state_of m) → IsSettling m m outs outs
settling-first m outs now h apart =
    record { same = refl; held = h; clock = refl; dated = now; apart = apart }

apart-called : (number : ℕ) (found : Option Item) (s : State) → item_at number s ≡ found → HasOwnNumbers s
    → HasOwnNumbers (issue_at found s)
apart-called number None s e h = h
apart-called number (Some i) s e h = apart-issue number i s e h

same-moment : (found : Option Item) (s : State) → (issue_at found s).moment ≡ s.moment
same-moment None s = refl
same-moment (Some i) s = refl

issued-moment : (number : ℕ) (outs : List Out) (s : State) → (issued_at number outs s).state.moment ≡ s.moment
issued-moment number outs s =
    ap (λ (t : State). t.moment) (issued-state (item_at number s) outs s) ∙ same-moment (item_at number s) s

-- a settled state by its two parts
as-settled : (t : Settled) (s : State) (outs : List Out) → s ≡ t.state → outs ≡ t.outs → with_outs outs s ≡ t
as-settled t s outs a b =
    subst (λ (x : State). with_outs outs x ≡ t) (sym a) (subst (λ os. with_outs os t.state ≡ t) (sym b) refl)

pub settling-next : (first old new : Parts) (before outs after : List Out) (number : ℕ)
    → next_issued (state_of old) ≡ Some number → Becomes (issued_at number outs (state_of old)).state old new
    → after ≡ (issued_at number outs (state_of old)).outs → IsSettling first old before outs
    → IsSettling first new before after
settling-next first old new before outs after number next became said h =
    let t : Settled = with_outs outs (state_of old) in
    record {
      same = ap settle (as-settled (called_by number t) (state_of new) after became.state said)
          ∙ settle-at (length old.admission.items) t number next refl ∙ h.same;
      held = became.held;
      clock = became.clock ∙ h.clock;
      dated = became.clock ∙ h.dated
          ∙ sym (ap (λ (s : State). s.moment) became.state ∙ issued-moment number outs (state_of old));
      apart = subst HasOwnNumbers
          (sym (became.state ∙ issued-state (item_at number (state_of old)) outs (state_of old)))
          (apart-called number (item_at number (state_of old)) (state_of old) refl h.apart);
    }

-- looking for the next item changes nothing
pub settling-same : (first old new : Parts) (before outs : List Out) → new ≡ old → IsSettling first old before outs
    → IsSettling first new before outs
settling-same first old new before outs same h = subst (λ m. IsSettling first m before outs) (sym same) h

pub settling-fewer : (first old new : Parts) (outs : List Out) (number : ℕ) → old ≡ first
    → next_issued (state_of old) ≡ Some number → Becomes (issued_at number outs (state_of old)).state old new
    → length new.admission.items < length first.admission.items
settling-fewer first old new outs number same next became =
    subst (λ (m : Parts). length new.admission.items < length m.admission.items) same
    (subst (λ (s : State). length s.items < length old.admission.items) (sym became.state)
    (falls number (with_outs outs (state_of old)) next))

settled : (t : Settled) → next_issued t.state ≡ None → settle t ≡ t
settled t none = rests-at (length t.state.items) t none

pub settling-done : (first now : Parts) (before outs : List Out) → next_issued (state_of now) ≡ None
    → IsSettling first now before outs
    → Becomes (settle (with_outs before (state_of first))).state first now
settling-done first now before outs none h = record {
  state = ap (λ (t : Settled). t.state) (sym (settled (with_outs outs (state_of now)) none) ∙ h.same);
  held = h.held;
  clock = h.clock;
}

pub settling-said : (first now : Parts) (before outs : List Out) → next_issued (state_of now) ≡ None
    → IsSettling first now before outs → outs ≡ (settle (with_outs before (state_of first))).outs
settling-said first now before outs none h =
    ap (λ (t : Settled). t.outs) (sym (settled (with_outs outs (state_of now)) none) ∙ h.same)
