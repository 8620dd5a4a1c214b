-- At the end of a step no run is to find out what comes next without an item or a call for it. So each run that has
-- not ended can go on.
use Rattle.std.proofs.Common.{◌≡◌, ℕ, zero, suc, ◌⊎◌, inl, inr, ◌+◌, ◌==◌, Bool, true, false, not, ◌&&◌, ◌||◌, cond, List, [], ◌∷◌, ◌++◌, map, filter, find, length, min, codes, Option, Some, None, refl, sym, ap, ◌∙◌, subst, arith, eq-eqb, eqb-true, bytes_eq}
use Rattle.std.specs.List.{AllByRecursion, list_any}
use Rattle.kinds.specs.ErrorObject.{error_object}
use Rattle.kinds.specs.Inputs.{reading}
use Rattle.kinds.specs.Moments.{last_moment}
use Rattle.kinds.specs.Queue.{has_number, has_run, insert_item, without_number, without_run}
use Rattle.kinds.specs.RunSteps.{is_pending}
use Rattle.kinds.specs.Stores.{cancelled, woken}
use Rattle.kinds.specs.Windows as windows
use Rattle.kinds.specs.Windows.{is_full}
use Rattle.kinds.specs.declared.event.Event.{Event}
use Rattle.kinds.specs.declared.event.EventIn.{EventIn}
use Rattle.kinds.specs.declared.input.Input.{Input}
use Rattle.kinds.specs.declared.input.Input.TheVariants.{Events, Register, Reply, CallFailed, Tick, Cancel, Reopened}
use Rattle.kinds.specs.declared.limits.Limits.{Limits}
use Rattle.kinds.specs.declared.reply.ReplyIn.{ReplyIn}
use Rattle.kinds.specs.declared.store.Item.{Item}
use Rattle.kinds.specs.declared.store.Parent.{Parent}
use Rattle.kinds.specs.declared.store.RunStatus.{RunStatus}
use Rattle.kinds.specs.declared.store.RunStatus.TheVariants.{Cancelled}
use Rattle.kinds.specs.declared.window.Window.{Window}
use Rattle.kinds.specs.declared.window.WindowRule.{WindowRule}
use Rattle.functions.specs.declared.entry.FunctionEntry.{FunctionEntry}
use Rattle.event_keys.specs.Expressions.{key_value}
use Rattle.lists.proofs.Elements.{all-both, all-filter, all-last, all-weaker, filter-passes}
use Rattle.lists.proofs.Texts.{bytes_self}
use Rattle.sdk_reply.specs.Outcome.{outcome_of}
use Rattle.run_model.specs.Advance.{Advanced, Timed, sleep_end, wait_end, invocation_end, window_end, rule_end, call_limit, advance, due_by, fire, fire_by, fired, make_found, most, timed_out, without_invocation, without_sleep, without_window}
use Rattle.run_model.specs.Ends.{cancel_run, cancelled_result, end_run, record_at_parent, tell, tell_parent, without_invocation_of}
use Rattle.run_model.specs.Events.{add_event, end_wait, event_with, follow, in_window, is_triggered, key_of, offer, offer_to, offer_to_all, wait_of, wake, wake_all, wake_by, wake_found, window_of, window_rule_of, with_window, has_wait}
use Rattle.run_model.specs.Expressions.{truth_in}
use Rattle.run_model.specs.Fit.{AreDifferent}
use Rattle.run_model.specs.Laws.{IsIn}
use Rattle.run_model.specs.Machine.{act, count_input, fold, requeue_all, state_after, step}
use Rattle.run_model.specs.Making.{add_rules, discover, discover_all, discover_one, first_of, has_discovery, is_item_of, make_run, new_item, queue, queue_new, step_target, text_or_none}
use Rattle.run_model.specs.Recording.{at_once, changed, data_result, record_result, wake_step}
use Rattle.run_model.specs.Replies.{close, fail_found, on_call_failed, on_reply, reply_found, retry, take_outcome, take_reply}
use Rattle.kinds.specs.declared.reply.After.TheVariants as after
use Rattle.run_model.specs.Requests.{Answering, accept, answer_event, cancel_all, cancel_by, cancel_found, on_event, on_events, remember, repeats}
use Rattle.run_model.specs.Settle.{Settled, called, issue, issue_found, issue_of, issued, item_at, next_issued, settle, settle_by}
use Rattle.run_model.specs.Sound.{can_go_on}
use Rattle.run_model.specs.State.{State, Run, Issue, Waiting, empty, function_at, has_open_call, live_run, moment_at, open_issue, text_of, tidied}
use Rattle.run_model.proofs.Apart.{Beside, apart-issue}
use Rattle.run_model.proofs.FitWindows.{not-true}
use Rattle.run_model.proofs.GoingOn.{GoesOn, Going, Has, call_for, found-one, going-empty, going-step, going-steps, has-any, in-kept, in-own, in-queued, item_for, same-one}
use Rattle.run_model.proofs.Kept.{kept-make_run, run_from, started}
use Rattle.run_model.proofs.KeptSteps.{goes-on, kept-act, kept-advance}
use Rattle.run_model.proofs.Limits.{same-item}
use Rattle.run_model.proofs.Members.{any-in, each-in, in-found, in-front, in-last}
use Rattle.run_model.proofs.Rising.{Rise, call_of}
use Rattle.run_model.proofs.SettlingLists.{or-left, or-right}

-- ## What finds out

abbrev finds_for : ℕ → Item → Bool
finds_for n i = is_item_of n step_target i

abbrev call_finds_for : ℕ → Issue → Bool
call_finds_for n i = is_item_of n step_target i.item

-- an item or a call
abbrev Finds : List Item → List Issue → ℕ → Type 0
Finds items issues n = Has (finds_for n) items ⊎ Has (call_finds_for n) issues

abbrev FindsOut : List Item → List Issue → Run → Type 0
FindsOut items issues r = r.wanted ≡ true → Finds items issues r.number

-- each run that is to find out does
abbrev pub Found : State → Type 0
Found s = AllByRecursion (FindsOut s.items s.issues) s.live

finds-more : (items items_now : List Item) (issues : List Issue) (n : ℕ)
    → ((j : Item) → IsIn j items → IsIn j items_now) → Finds items issues n → Finds items_now issues n
finds-more items items_now issues n stays (inl h) = inl (h.0, (stays h.0 h.1.0, h.1.1))
finds-more items items_now issues n stays (inr h) = inr h

finds-queued : (i : Item) (s : State) (n : ℕ) → Finds s.items s.issues n → Finds (insert_item i s.items) s.issues n
finds-queued i s n h = finds-more s.items (insert_item i s.items) s.issues n (λ j there. in-queued i j s.items there) h

finds-new : (r : Run) (s : State)
    → Finds (queue_new r step_target s).items (queue_new r step_target s).issues r.number
finds-new r s = inl (new_item r step_target s, (in-own (new_item r step_target s) s.items, own))
  where
    own : ((r.number == r.number) && bytes_eq step_target step_target) ≡ true
    own = rw (eq-eqb r.number r.number refl) (bytes_self step_target)

either-true : (a b : Bool) → (a || b) ≡ true → (a ≡ true) ⊎ (b ≡ true)
either-true true b h = inl refl
either-true false b h = inr h

finds-any : (s : State) (n : ℕ) → has_discovery s n ≡ true → Finds s.items s.issues n
finds-any s n h =
    of_either (either-true (list_any (finds_for n) s.items) (list_any (call_finds_for n) s.issues) h)
  where
    of_either : (list_any (finds_for n) s.items ≡ true) ⊎ (list_any (call_finds_for n) s.issues ≡ true)
        → Finds s.items s.issues n
    of_either (inl k) = inl (has-any (finds_for n) s.items k)
    of_either (inr k) = inr (has-any (call_finds_for n) s.issues k)

any-finds : (s : State) (n : ℕ) → Finds s.items s.issues n → has_discovery s n ≡ true
any-finds s n (inl h) =
    or-left (list_any (finds_for n) s.items) (list_any (call_finds_for n) s.issues)
    (any-in (finds_for n) h.0 s.items h.1.0 h.1.1)
any-finds s n (inr h) =
    or-right (list_any (finds_for n) s.items) (list_any (call_finds_for n) s.issues)
    (any-in (call_finds_for n) h.0 s.issues h.1.0 h.1.1)

-- ## Finding out

finds-one : (n : ℕ) (r : Run) (s : State) → Finds s.items s.issues n
    → Finds (discover_one r s).items (discover_one r s).issues n
finds-one n r s h =
    elim (r.wanted && not (has_discovery s r.number))
    as (λ b. Finds (cond b (queue_new r step_target s) s).items (cond b (queue_new r step_target s) s).issues n)
    [ true ↦ finds-queued (new_item r step_target s) s n h | false ↦ h ]

finds-all : (n : ℕ) (rs : List Run) (s : State) → Finds s.items s.issues n
    → Finds (discover_all rs s).items (discover_all rs s).issues n
finds-all n [] s h = h
finds-all n (r ∷ rs) s h = finds-all n rs (discover_one r s) (finds-one n r s h)

own-one : (r : Run) (s : State) → r.wanted ≡ true
    → Finds (discover_one r s).items (discover_one r s).issues r.number
own-one r s wanted = by_test r.wanted (has_discovery s r.number) refl wanted
  where
    by_test : (w b : Bool) → has_discovery s r.number ≡ b → w ≡ true
        → Finds (cond (w && not b) (queue_new r step_target s) s).items
        (cond (w && not b) (queue_new r step_target s) s).issues r.number
    by_test true true e k = finds-any s r.number e
    by_test true false e k = finds-new r s
    by_test false b e k = absurd (cc)

all-discovered : (rs : List Run) (s : State)
    → AllByRecursion (FindsOut (discover_all rs s).items (discover_all rs s).issues) rs
all-discovered [] s = tt
all-discovered (r ∷ rs) s = (
  λ wanted. finds-all r.number rs (discover_one r s) (own-one r s wanted),
  all-discovered rs (discover_one r s),
)

live-one : (r : Run) (s : State) → (discover_one r s).live ≡ s.live
live-one r s = elim (r.wanted && not (has_discovery s r.number))
    as (λ b. (cond b (queue_new r step_target s) s).live ≡ s.live) [ true ↦ refl | false ↦ refl ]

live-all : (rs : List Run) (s : State) → (discover_all rs s).live ≡ s.live
live-all [] s = refl
live-all (r ∷ rs) s = live-all rs (discover_one r s) ∙ live-one r s

found-discover : (s : State) → Found (discover s)
unfolding discover
found-discover s =
    subst (λ rs. AllByRecursion (FindsOut (discover_all s.live s).items (discover_all s.live s).issues) rs)
    (sym (live-all s.live s)) (all-discovered s.live s)

-- ## Runs that are made, and that end

abbrev OrLast : ℕ → State → Run → Type 0
OrLast n s q = q.wanted ≡ true → Finds s.items s.issues q.number ⊎ (q.number ≡ n)

abbrev FoundBut : ℕ → State → Type 0
FoundBut n s = AllByRecursion (OrLast n s) s.live

but-queued : (n : ℕ) (i : Item) (s : State) → FoundBut n s → FoundBut n (queue i s)
but-queued n i s h = all-weaker (OrLast n s) (OrLast n (queue i s)) s.live
    (λ q k wanted. later q (k wanted)) h
  where
    later : (q : Run) → Finds s.items s.issues q.number ⊎ (q.number ≡ n)
        → Finds (insert_item i s.items) s.issues q.number ⊎ (q.number ≡ n)
    later q (inl k) = inl (finds-queued i s q.number k)
    later q (inr k) = inr k

made-finds : (f : FunctionEntry) (events : List ℕ) (parent : Option Parent) (s : State)
    → Finds (make_run f events parent s).items (make_run f events parent s).issues (s.runs + 1)
unfolding make_run
made-finds f events parent s =
    finds-new (run_from f events parent s)
    (add_rules (run_from f events parent s) (first_of events) (text_or_none (text_of (first_of events) s))
    f.function.cancels (started f events parent s))

found-made : (f : FunctionEntry) (events : List ℕ) (parent : Option Parent) (s : State) → Found s
    → Found (make_run f events parent s)
found-made f events parent s h =
    let n : ℕ = s.runs + 1 in
    let made : State = make_run f events parent s in
    let k : FoundBut n made =
    kept-make_run (FoundBut n) (record {
      rules = λ r event c t there same k. k;
      finds_out = λ r t there k. but-queued n (new_item r step_target t) (record t { entries = t.entries + 1 }) k;
    }) f events parent s
    (all-last (OrLast n s) s.live (run_from f events parent s)
    (all-weaker (FindsOut s.items s.issues) (OrLast n s) s.live (λ q k wanted. inl (k wanted)) h)
    (λ wanted. inr refl)) in
    all-weaker (OrLast n made) (FindsOut made.items made.issues) made.live
    (λ q k wanted. of_either q (k wanted)) k
  where
    of_either : (q : Run)
        → Finds (make_run f events parent s).items (make_run f events parent s).issues q.number
        ⊎ (q.number ≡ s.runs + 1)
        → Finds (make_run f events parent s).items (make_run f events parent s).issues q.number
    of_either q (inl k) = k
    of_either q (inr same) =
        subst (λ n. Finds (make_run f events parent s).items (make_run f events parent s).issues n) (sym same)
        (made-finds f events parent s)

found-ended : (r : Run) (status : RunStatus) (s : State) → Found s → Found (end_run r status s)
found-ended r status s h =
    all-both (FindsOut s.items s.issues) (λ (q : Run). not (r.number == q.number) ≡ true)
    (FindsOut (without_run r.number s.items) s.issues)
    (filter (λ (q : Run). not (r.number == q.number)) s.live)
    (λ q k other wanted. others q (not-true (r.number == q.number) other) (k wanted))
    (all-filter (FindsOut s.items s.issues) (λ (q : Run). not (r.number == q.number)) s.live h)
    (filter-passes (λ (q : Run). not (r.number == q.number)) s.live)
  where
    first : (a b : Bool) → (a && b) ≡ true → a ≡ true
    first true b k = refl
    first false b k = absurd (cc)

    others : (q : Run) → (r.number == q.number) ≡ false → Finds s.items s.issues q.number
        → Finds (without_run r.number s.items) s.issues q.number
    others q other (inl k) = inl (
      k.0,
      (
        in-kept (λ j. not (has_run r.number j)) k.0 s.items k.1.0
            (ap not (subst (λ n. (r.number == n) ≡ false)
            (eqb-true q.number k.0.run (first (q.number == k.0.run) (bytes_eq step_target k.0.target) k.1.1)) other)),
        k.1.1,
      ),
    )
    others q other (inr k) = inr k

found-record_at_parent : (p : Parent) (result : List ℕ) (b : Bool) (s : State) → Found s
    → Found (record_at_parent at_once p result b s)
found-record_at_parent p result true s h =
    found-discover (record_result p.run p.hash result (without_invocation_of p s))
found-record_at_parent p result false s h = h

found-tell : (p : Parent) (result : List ℕ) (found : Option Run) (s : State) → Found s
    → Found (tell at_once p result found s)
found-tell p result None s h = h
found-tell p result (Some r) s h = found-record_at_parent p result (is_pending p.hash r.steps) s h

found-tell_parent : (p : Option Parent) (result : List ℕ) (s : State) → Found s
    → Found (tell_parent at_once p result s)
found-tell_parent None result s h = h
found-tell_parent (Some p) result s h = found-tell p result (live_run p.run s) s h

found-cancel_run : (r : Run) (s : State) → Found s → Found (cancel_run at_once r s)
found-cancel_run r s h = found-tell_parent r.parent cancelled_result (end_run r Cancelled s)
    (found-ended r Cancelled s h)

found-cancel_found : (found : Option Run) (s : State) → Found s → Found (cancel_found found s)
found-cancel_found None s h = h
found-cancel_found (Some r) s h = found-cancel_run r s h

found-cancel_all : (ns : List ℕ) (s : State) → Found s → Found (cancel_all ns s)
found-cancel_all [] s h = h
found-cancel_all (n ∷ ns) s h =
    found-cancel_all ns (cancel_found (live_run n s) s) (found-cancel_found (live_run n s) s h)

-- ## Events

found-wake_found : (result : List ℕ) (found : Option Waiting) (s : State) → Found s
    → Found (wake_found at_once result found s)
found-wake_found result None s h = h
found-wake_found result (Some w) s h = found-discover (end_wait result w s)

found-wake_all : (result : List ℕ) (ns : List ℕ) (s : State) → Found s → Found (wake_all at_once result ns s)
found-wake_all result [] s h = h
found-wake_all result (n ∷ ns) s h = found-wake_all result ns (wake at_once result n s)
    (found-wake_found result (find (has_wait n) s.waits) s h)

found-in_window : (f : FunctionEntry) (r : WindowRule) (before : Option Window) (w : Window) (s : State) → Found s
    → Found (in_window f r before w s)
found-in_window f r before w s h =
    elim (is_full r w) as (λ b. Found (elim b as (λ _. State) [
      | true ↦ make_run f (windows.events_of w) None (with_window r before w s)
      | false ↦ with_window r before w s
    ])) [ true ↦ found-made f (windows.events_of w) None (with_window r before w s) h | false ↦ h ]

found-offer_to : (f : FunctionEntry) (r : Option WindowRule) (event : Event) (s : State) → Found s
    → Found (offer_to f r event s)
found-offer_to f None event s h = found-made f (event.number ∷ []) None s h
found-offer_to f (Some r) event s h =
    let value : List ℕ = key_value (key_of r) event.text in
    found-in_window f r (window_of f.version value s)
    (windows.after_event r f.version value event.number s.moment (s.entries + 1) (window_of f.version value s)) s h

found-offer : (f : FunctionEntry) (event : Event) (s : State) → Found s → Found (offer f event s)
found-offer f event s h =
    elim (is_triggered event f) as (λ b. Found (elim b as (λ _. State)
    [ true ↦ offer_to f (window_rule_of f.function) event s | false ↦ s ]))
    [ true ↦ found-offer_to f (window_rule_of f.function) event s h | false ↦ h ]

found-offer_to_all : (fs : List FunctionEntry) (event : Event) (s : State) → Found s
    → Found (offer_to_all fs event s)
found-offer_to_all [] event s h = h
found-offer_to_all (f ∷ fs) event s h = found-offer_to_all fs event (offer f event s) (found-offer f event s h)

found-follow : (event : Event) (s : State) → Found s → Found (follow at_once event s)
unfolding follow
found-follow event s h = found-offer_to_all s.functions event (wake_by at_once event s)
    (found-wake_all (data_result event.text) (woken (truth_in s) event (map wait_of s.waits)) s h)

found-added : (event : Event) (id : Option (List ℕ)) (s : State) → Found s → Found (add_event event (remember id s))
found-added event None s h = h
found-added event (Some id) s h = h

found-accept : (event : Event) (id : Option (List ℕ)) (s : State) → Found s → Found (accept event id s)
found-accept event id s h =
    let t : State = add_event event (remember id s) in
    found-follow event (cancel_by event t)
    (found-cancel_all (cancelled (truth_in t) event t.rules) t (found-added event id s h))

found-answer_event : (event : EventIn) (number : Option ℕ) (a : Answering) → Found a.state
    → Found (answer_event event number a).state
found-answer_event event (Some number) a h = h
found-answer_event event None a h = found-accept (event_with event a.state) event.id a.state h

found-on_events : (events : List EventIn) (a : Answering) → Found a.state → Found (on_events events a).state
unfolding on_events
found-on_events [] a h = h
found-on_events (event ∷ events) a h =
    found-on_events events (on_event event a) (found-answer_event event (repeats event a.state) a h)

-- ## What is due

found-make_found : (found : Option FunctionEntry) (w : Window) (s : State) → Found s → Found (make_found found w s)
found-make_found None w s h = h
found-make_found (Some f) w s h = found-made f (windows.events_of w) None s h

found-fire : (e : Timed) (s : State) → Found s → Found (fire e s)
found-fire (sleep_end e) s h = found-discover (wake_step e.run e.hash (codes "null") (without_sleep e.number s))
found-fire (wait_end e) s h = found-discover (end_wait (codes "{\"data\":null}") e s)
found-fire (invocation_end e) s h =
    found-discover (wake_step e.run e.hash timed_out (without_invocation e.number s))
found-fire (window_end w) s h =
    found-make_found (function_at (windows.version_of w) s) w (without_window (windows.number_of w) s) h
found-fire (rule_end e) s h = h
found-fire (call_limit i) s h =
    found-discover (retry i.item after.None (error_object (codes "call limit")) (close i.call s))

found-fire_by : (n t : ℕ) (a : Advanced) → Found a.state → Found (fire_by n t a).state
unfolding fire_by
found-fire_by zero t a h = h
found-fire_by (suc n) t a h =
    elim (due_by t a.state) as (λ o. Found (elim o as (λ _. Advanced)
    [ None ↦ a | Some next ↦ fire_by n t (fired next a) ]).state) [
      | None ↦ h
      | Some next ↦ found-fire_by n t (fired next a)
          (found-fire next.entry (record a.state { moment = next.due }) h)
    ]

found-advance : (t : ℕ) (s : State) → Found s → Found (advance t s).state
unfolding advance
found-advance t s h = found-fire_by most t (record { state = s; hangs = [] }) h

-- ## Calls

-- the call of a run that has ended
found-closed : (i : Issue) (s : State) → IsIn i s.issues → live_run i.item.run s ≡ None → Rise s → Found s
    → Found (close i.call s)
found-closed i s there none rise h =
    all-both (FindsOut s.items s.issues) (λ r. IsIn r s.live) (FindsOut s.items left) s.live
    (λ r k own wanted. one r own (k wanted)) h (each-in s.live)
  where
    left : List Issue
    left = filter (λ (other : Issue). not (i.call == other.call)) s.issues

    first : (a b : Bool) → (a && b) ≡ true → a ≡ true
    first true b k = refl
    first false b k = absurd (cc)

    by_test : (r : Run) (j : Issue) (b : Bool) → (i.call == j.call) ≡ b → IsIn r s.live → IsIn j s.issues
        → call_finds_for r.number j ≡ true → Finds s.items left r.number
    by_test r j true e own there_now k =
        let same : i ≡ j = same-one call_of i j s.issues there there_now rise.1.1.0.0 (eqb-true i.call j.call e) in
        let of_run : i.item.run ≡ r.number =
        ap (λ (x : Issue). x.item.run) same
        ∙ sym (eqb-true r.number j.item.run (first (r.number == j.item.run) (bytes_eq step_target j.item.target) k)) in
        absurd (found-one i.item.run r s own of_run none)
    by_test r j false e own there_now k =
        inr (j, (in-kept (λ (other : Issue). not (i.call == other.call)) j s.issues there_now (ap not e), k))

    one : (r : Run) → IsIn r s.live → Finds s.items s.issues r.number → Finds s.items left r.number
    one r own (inl k) = inl k
    one r own (inr k) = by_test r k.0 (i.call == k.0.call) refl own k.1.0 k.1.1

found-reply : (i : Issue) (found : Option Run) (reply : ReplyIn) (s : State) → IsIn i s.issues
    → live_run i.item.run s ≡ found → Rise s → Found s → Found (reply_found found i.item reply (close i.call s))
found-reply i None reply s there e rise h = found-closed i s there e rise h
found-reply i (Some r) reply s there e rise h =
    found-discover (take_outcome r i.item (outcome_of reply) (close i.call s))

found-take_reply : (call : ℕ) (found : Option Issue) (reply : ReplyIn) (s : State) → open_issue call s ≡ found
    → Rise s → Found s → Found (take_reply found reply s)
found-take_reply call None reply s e rise h = h
found-take_reply call (Some i) reply s e rise h =
    found-reply i (live_run i.item.run s) reply s
    (in-found (λ (j : Issue). call == j.call) s.issues i e) refl rise h

found-on_reply : (call : ℕ) (reply : ReplyIn) (s : State) → Rise s → Found s → Found (on_reply call reply s)
unfolding on_reply
found-on_reply call reply s rise h = found-take_reply call (open_issue call s) reply s refl rise h

found-fail_found : (found : Option Issue) (error : List ℕ) (s : State) → Found s → Found (fail_found found error s)
found-fail_found None error s h = h
found-fail_found (Some i) error s h = found-discover (retry i.item after.None error (close i.call s))

found-on_call_failed : (call : ℕ) (s : State) → Found s → Found (on_call_failed call s)
unfolding on_call_failed
found-on_call_failed call s h =
    found-fail_found (open_issue call s) (error_object (codes "call failed")) s h

-- ## An input

found-act : (input : Input) (s : State) → Rise s → Found s → Found (act input s).state
unfolding act
found-act (Events at events) s rise h = found-on_events events (record { state = s; numbers = [] }) h
found-act (Register at app) s rise h = h
found-act (Reply at call reply) s rise h = found-on_reply call reply s rise h
found-act (CallFailed at call) s rise h = found-on_call_failed call s h
found-act (Tick at) s rise h = h
found-act (Cancel at run) s rise h = found-cancel_found (live_run run s) s h
found-act (Reopened at) s rise h = found-discover (requeue_all s.issues (record s { issues = [] }))

-- ## Calls that are made

found-issue : (number : ℕ) (i : Item) (s : State) → item_at number s ≡ Some i → AreDifferent s.items → Found s
    → Found (issue i s)
found-issue number i s found apart h =
    all-issued s.live h
  where
    left : List Item
    left = without_number i.number s.items

    calls : List Issue
    calls = s.issues ++ issued i s ∷ []

    there : IsIn i s.items
    there = in-found (has_number number) s.items i found

    by_test : (n : ℕ) (j : Item) (b : Bool) → (i.number == j.number) ≡ b → IsIn j s.items
        → finds_for n j ≡ true → Finds left calls n
    by_test n j true e queued own =
        let same : i ≡ j = same-item i j s.items there queued apart (eqb-true i.number j.number e) in
        inr (
          issued i s,
          (
            in-last (issued i s) s.issues,
            subst (λ (x : Item). finds_for n x ≡ true) (sym same) own,
          ),
        )
    by_test n j false e queued own =
        inl (j, (in-kept (λ x. not (has_number i.number x)) j s.items queued (ap not e), own))

    moved : (n : ℕ) → Finds s.items s.issues n → Finds left calls n
    moved n (inl k) = by_test n k.0 (i.number == k.0.number) refl k.1.0 k.1.1
    moved n (inr k) = inr (k.0, (in-front k.0 s.issues (issued i s ∷ []) k.1.0, k.1.1))

    both : (a b : Bool) → (a && b) ≡ true → a ≡ true
    both true b k = refl
    both false b k = absurd (cc)

    all-issued : (rs : List Run) → AllByRecursion (FindsOut s.items s.issues) rs
        → AllByRecursion (FindsOut left calls) (changed i.run (called i.target) rs)
    all-issued [] k = tt
    all-issued (r ∷ rs) k = (
      elim (i.run == r.number) as (λ b. FindsOut left calls (cond b (called i.target r) r)) [
        | true ↦ λ wanted. moved r.number (k.0 (both r.wanted (not (bytes_eq i.target step_target)) wanted))
        | false ↦ λ wanted. moved r.number (k.0 wanted)
      ],
      all-issued rs k.1,
    )

found-issue_of : (number : ℕ) (run : Option Run) (i : Item) (a : Settled) → item_at number a.state ≡ Some i
    → AreDifferent a.state.items → Found a.state → Found (issue_of run i a).state
found-issue_of number None i a e apart h = found-issue number i a.state e apart h
found-issue_of number (Some r) i a e apart h = found-issue number i a.state e apart h

apart-issue_of : (number : ℕ) (run : Option Run) (i : Item) (a : Settled) → item_at number a.state ≡ Some i
    → Beside [] a.state → Beside [] (issue_of run i a).state
apart-issue_of number None i a e h = apart-issue number i a.state e h
apart-issue_of number (Some r) i a e h = apart-issue number i a.state e h

found-issue_found : (number : ℕ) (found : Option Item) (a : Settled) → item_at number a.state ≡ found
    → Beside [] a.state → Found a.state
    → Beside [] (issue_found found a).state × Found (issue_found found a).state
found-issue_found number None a e apart h = (apart, h)
found-issue_found number (Some i) a e apart h = (
  apart-issue_of number (live_run i.run a.state) i a e apart,
  found-issue_of number (live_run i.run a.state) i a e apart.queued h,
)

found-settle_by : (n : ℕ) (a : Settled) → Beside [] a.state → Found a.state → Found (settle_by n a).state
unfolding settle_by
found-settle_by zero a apart h = h
found-settle_by (suc n) a apart h =
    elim (next_issued a.state) as (λ o. Found (elim o as (λ _. Settled)
    [ None ↦ a | Some number ↦ settle_by n (issue_found (item_at number a.state) a) ]).state) [
      | None ↦ h
      | Some number ↦
          let k : Beside [] (issue_found (item_at number a.state) a).state
          × Found (issue_found (item_at number a.state) a).state =
          found-issue_found number (item_at number a.state) a refl apart h in
          found-settle_by n (issue_found (item_at number a.state) a) k.0 k.1
    ]

found-tidied : (s : State) → Found s → Found (tidied s)
unfolding tidied
found-tidied s h = h

-- ## Steps

found-step : (s : State) (input : Input) → Going [] s → Found s → Found (step s input).state
unfolding step
found-step s input going h =
    let t : ℕ = moment_at (reading input) s in
    let a : Advanced = advance t (count_input s) in
    let advanced : Going [] a.state =
    kept-advance t (λ input. Unit {0}) Going (going-steps t) t (count_input s) (omega arith)
    (goes-on s.moment (min (reading input) last_moment)) going in
    let acted : Going [] (act input a.state).state =
    kept-act t (λ input. Unit {0}) Going (going-steps t) input a.state tt advanced in
    let before : Settled = record { state = (act input a.state).state; outs = [] } in
    found-tidied (settle before).state
    (found-settle_by (length before.state.items) before acted.0.1
    (found-act input a.state advanced.0.0 (found-advance t (count_input s) h)))

abbrev pub Discovered : State → Type 0
Discovered s = Going [] s × Found s

discovered-after : (inputs : List Input) (s : State) → Discovered s → Discovered (state_after s inputs)
discovered-after [] s h = h
discovered-after (input ∷ inputs) s h =
    discovered-after inputs (step s input).state (going-step s input h.0, found-step s input h.0 h.1)

pub discovered-fold : (limits : Limits) (inputs : List Input) → Discovered (fold limits inputs)
discovered-fold limits inputs = discovered-after inputs (empty limits) (going-empty limits, tt)

-- ## What follows

-- where a run is to find out, something does
pub wanted-found : (limits : Limits) (inputs : List Input)
    → AllByRecursion (λ (r : Run). r.wanted ≡ true → has_discovery (fold limits inputs) r.number ≡ true)
    (fold limits inputs).live
wanted-found limits inputs =
    let s : State = fold limits inputs in
    all-weaker (FindsOut s.items s.issues) (λ (r : Run). r.wanted ≡ true → has_discovery s r.number ≡ true) s.live
    (λ r k wanted. any-finds s r.number (k wanted)) (discovered-fold limits inputs).1

-- each run that has not ended can go on
pub live-go_on : (limits : Limits) (inputs : List Input)
    → AllByRecursion (λ r. can_go_on (fold limits inputs) r ≡ true) (fold limits inputs).live
live-go_on limits inputs =
    let s : State = fold limits inputs in
    let h : Discovered s = discovered-fold limits inputs in
    all-both (GoesOn s.items s.issues []) (FindsOut s.items s.issues) (λ r. can_go_on s r ≡ true) s.live
    (λ r k finds. by_reason s r k finds) h.0.1 h.1
  where
    first : (a b : Bool) → (a && b) ≡ true → a ≡ true
    first true b k = refl
    first false b k = absurd (cc)

    queued : (s : State) (r : Run) → Has (item_for r.number) s.items → can_go_on s r ≡ true
    queued s r k =
        or-left (list_any (item_for r.number) s.items || has_open_call s.issues r.number)
        (not (length r.steps.pending == 0))
        (or-left (list_any (item_for r.number) s.items) (has_open_call s.issues r.number)
        (any-in (item_for r.number) k.0 s.items k.1.0 k.1.1))

    called_now : (s : State) (r : Run) → Has (call_for r.number) s.issues → can_go_on s r ≡ true
    called_now s r k =
        or-left (list_any (item_for r.number) s.items || has_open_call s.issues r.number)
        (not (length r.steps.pending == 0))
        (or-right (list_any (item_for r.number) s.items) (has_open_call s.issues r.number)
        (any-in (call_for r.number) k.0 s.issues k.1.0 k.1.1))

    by_discovery : (s : State) (r : Run) → Finds s.items s.issues r.number → can_go_on s r ≡ true
    by_discovery s r (inl k) = queued s r (
      k.0,
      (
        k.1.0,
        first (r.number == k.0.run) (bytes_eq step_target k.0.target) k.1.1,
      ),
    )
    by_discovery s r (inr k) = called_now s r (
      k.0,
      (
        k.1.0,
        first (r.number == k.0.item.run) (bytes_eq step_target k.0.item.target) k.1.1,
      ),
    )

    by_reason : (s : State) (r : Run) → GoesOn s.items s.issues [] r → FindsOut s.items s.issues r
        → can_go_on s r ≡ true
    by_reason s r (inl k) finds = queued s r k
    by_reason s r (inr (inl k)) finds = called_now s r k
    by_reason s r (inr (inr (inl k))) finds = absurd k.1.0
    by_reason s r (inr (inr (inr (inl k)))) finds =
        or-right (list_any (item_for r.number) s.items || has_open_call s.issues r.number)
        (not (length r.steps.pending == 0)) (ap not k)
    by_reason s r (inr (inr (inr (inr k)))) finds = by_discovery s r (finds k)
