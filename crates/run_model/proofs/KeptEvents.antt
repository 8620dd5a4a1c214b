-- What an event does, how a run ends, and the events of a request keep what each change keeps.
use Rattle.std.proofs.Common.{◌≡◌, ℕ, ◌+◌, ◌≤◌, Bool, true, false, List, [], ◌∷◌, map, find, Option, Some, None, IfSome, refl, sym, ◌∙◌, subst, arith}
use Rattle.std.specs.List.{AllByRecursion}
use Rattle.std.specs.Option.{option_and_then}
use Rattle.kinds.specs.RunSteps.{is_pending}
use Rattle.kinds.specs.Seen.{find_seen}
use Rattle.kinds.specs.Stores.{cancelled, woken}
use Rattle.kinds.specs.Windows as windows
use Rattle.kinds.specs.Windows.{is_full}
use Rattle.kinds.specs.declared.event.Event.{Event}
use Rattle.kinds.specs.declared.event.EventIn.{EventIn}
use Rattle.kinds.specs.declared.store.Parent.{Parent}
use Rattle.kinds.specs.declared.store.RunStatus.{RunStatus}
use Rattle.kinds.specs.declared.store.RunStatus.TheVariants.{Completed, Failed, Cancelled}
use Rattle.kinds.specs.declared.window.WindowRule.{WindowRule}
use Rattle.functions.specs.declared.entry.FunctionEntry.{FunctionEntry}
use Rattle.event_keys.specs.Expressions.{key_value}
use Rattle.run_model.specs.Ends.{cancel_run, cancelled_result, complete_run, end_run, fail_run, failed_event, first_text, is_of_failure, raise, raise_failed, record_at_parent, tell, tell_parent, without_invocation_of}
use Rattle.run_model.specs.Events.{add_event, end_wait, event_with, follow, has_wait, in_window, is_triggered, key_of, offer, offer_to, offer_to_all, wait_of, wake, wake_all, wake_by, wake_found, window_of, window_rule_of}
use Rattle.run_model.specs.Expressions.{truth_in}
use Rattle.run_model.specs.Laws.{IsIn}
use Rattle.run_model.specs.Making.{make_run}
use Rattle.run_model.specs.Recording.{Discovery, at_once, at_the_end, data_result, error_result, record_result}
use Rattle.run_model.specs.Requests.{Answering, accept, answer_event, cancel_all, cancel_by, cancel_found, on_event, on_events, remember, repeats}
use Rattle.run_model.specs.State.{State, Run, Waiting, live_run}
use Rattle.run_model.proofs.Kept.{Ending, IsFunction, IsLive, IsUntold, Keeps, MayJoin, freely, kept-discovered, own-number, window_after, with_offer}
use Rattle.run_model.proofs.Members.{all-front, in-found}
use Rattle.run_model.proofs.SettlingLists.{same-some}

module _ (P : State → Type 0) (keeps : Keeps P) where
  -- ## Waits

  pub kept-end_wait : (result : List ℕ) (w : Waiting) (s : State) → IsIn w s.waits → P s
      → P (end_wait result w s)
  kept-end_wait result w s there h = keeps.wait_ends w result s there h

  pub kept-wake_found : (d : Discovery) (result : List ℕ) (n : ℕ) (found : Option Waiting) (s : State)
      → find (has_wait n) s.waits ≡ found → P s → P (wake_found d result found s)
  kept-wake_found d result n None s e h = h
  kept-wake_found d result n (Some w) s e h =
      kept-discovered P keeps d (end_wait result w s)
      (kept-end_wait result w s (in-found (has_wait n) s.waits w e) h)

  pub kept-wake_all : (d : Discovery) (result : List ℕ) (ns : List ℕ) (s : State) → P s
      → P (wake_all d result ns s)
  kept-wake_all d result [] s h = h
  kept-wake_all d result (n ∷ ns) s h = kept-wake_all d result ns (wake d result n s)
      (kept-wake_found d result n (find (has_wait n) s.waits) s refl h)

  pub kept-wake_by : (d : Discovery) (event : Event) (s : State) → P s → P (wake_by d event s)
  kept-wake_by d event s h =
      kept-wake_all d (data_result event.text) (woken (truth_in s) event (map wait_of s.waits)) s h

  -- ## An offer

  pub kept-in_window : (f : FunctionEntry) (r : WindowRule) (value : List ℕ) (event : ℕ) (s : State)
      → MayJoin f r event s → P s
      → P (in_window f r (window_of f.version value s) (window_after f r value event s) s)
  kept-in_window f r value event s may h =
      (elim (is_full r (window_after f r value event s)) as (λ full.
      is_full r (window_after f r value event s) ≡ full → P (elim full as (λ _. State) [
        | true ↦ make_run f (windows.events_of (window_after f r value event s)) None
            (with_offer f r value event s)
        | false ↦ with_offer f r value event s
      ])) [
        | true ↦ λ e. keeps.fills f r value event s may e h
        | false ↦ λ e. keeps.joins f r value event s may e h
      ]) refl

  pub kept-offer_to : (f : FunctionEntry) (r : Option WindowRule) (event : Event) (s : State) → IsFunction f s
      → window_rule_of f.function ≡ r → event.number ≤ s.events → P s → P (offer_to f r event s)
  kept-offer_to f None event s there e given h = keeps.starts f event.number s there given h
  kept-offer_to f (Some r) event s there e given h =
      kept-in_window f r (key_value (key_of r) event.text) event.number s
      (record { there = there; rule = e; given = given }) h

  pub kept-offer : (f : FunctionEntry) (event : Event) (s : State) → IsFunction f s → event.number ≤ s.events
      → P s → P (offer f event s)
  kept-offer f event s there given h =
      elim (is_triggered event f) as (λ b. P (elim b as (λ _. State)
      [ true ↦ offer_to f (window_rule_of f.function) event s | false ↦ s ])) [
        | true ↦ kept-offer_to f (window_rule_of f.function) event s there refl given h
        | false ↦ h
      ]

-- ## Parents that don't wait

untold-none : (r : Run) (status : RunStatus) (s : State) → r.parent ≡ None → IsUntold r status s
untold-none r status s none p q e k = let no : None ≡ Some p = sym none ∙ e in absurd (cc)

same-parent : (r : Run) (p o : Parent) → r.parent ≡ Some p → r.parent ≡ Some o → p ≡ o
same-parent r p o e k = same-some p o (sym e ∙ k)

untold-gone : (r : Run) (status : RunStatus) (s : State) (p : Parent) → r.parent ≡ Some p
    → live_run p.run (end_run r status s) ≡ None → IsUntold r status s
untold-gone r status s p parent none o q e k =
    let found : live_run p.run (end_run r status s) ≡ Some q =
    subst (λ x. live_run x.run (end_run r status s) ≡ Some q) (sym (same-parent r p o parent e)) k in
    let no : None ≡ Some q = sym none ∙ found in absurd (cc)

untold-one : (r : Run) (status : RunStatus) (s : State) (p : Parent) (q : Run) → r.parent ≡ Some p
    → live_run p.run (end_run r status s) ≡ Some q → is_pending p.hash q.steps ≡ false → IsUntold r status s
untold-one r status s p q parent live waits o x e k =
    let same : p ≡ o = same-parent r p o parent e in
    let found : live_run p.run (end_run r status s) ≡ Some x =
    subst (λ y. live_run y.run (end_run r status s) ≡ Some x) (sym same) k in
    subst (λ (y : Parent). is_pending y.hash x.steps ≡ false) same
    (subst (λ (y : Run). is_pending p.hash y.steps ≡ false) (same-some q x (sym live ∙ found)) waits)

-- ## Functions stay, and numbers of events

-- the functions are there, and the event of a number
abbrev pub Stands : List FunctionEntry → ℕ → State → Type 0
Stands fs event s = AllByRecursion (λ f. IsFunction f s) fs × (event ≤ s.events)

stands-accepted : (fs : List FunctionEntry) (number : ℕ) (event : EventIn) (id : Option (List ℕ)) (s : State)
    → Stands fs number s → Stands fs number (add_event (event_with event s) (remember id s))
stands-accepted fs number event None s h = (h.0, omega (arith, h.1))
stands-accepted fs number event (Some id) s h = (h.0, omega (arith, h.1))

keeps-stands : (fs : List FunctionEntry) (number : ℕ) → Keeps (Stands fs number)
keeps-stands fs number = freely (Stands fs number) (record {
  accepts = λ event id s new h. stands-accepted fs number event id s h;
  starts = λ f event parent s there given h. h;
  fills = λ f r value event s may full h. h;
  fires = λ f w s there stands h. h;
  joins = λ f r value event s may full h. h;
  windows_go = λ n s h. h;
  rules = λ r event c s there e h. h;
  finds_out = λ r s there h. h;
  wants = λ r s live h. h;
  plans = λ r name s live new h. h;
  sleeps = λ r name t s live new h. h;
  waits = λ r name event t cond s live new h. h;
  pends = λ r name s live new h. h;
  invokes = λ r name child t s there h. h;
  ends = λ r status s live h. h;
}) (record {
  records = λ run name result s h. h;
  sleeps_go = λ test s h. h;
  waits_go = λ test s h. h;
  invocations_go = λ test s h. h;
  rules_go = λ test s h. h;
})

module _ (P : State → Type 0) (keeps : Keeps P) where
  -- ## Offers

  pub kept-offer_to_all : (fs : List FunctionEntry) (event : Event) (s : State) → Stands fs event.number s
      → P s → P (offer_to_all fs event s)
  kept-offer_to_all [] event s stands h = h
  kept-offer_to_all (f ∷ fs) event s stands h = kept-offer_to_all fs event (offer f event s)
      (kept-offer (Stands fs event.number) (keeps-stands fs event.number) f event s stands.0.0 stands.1
      (stands.0.1, stands.1)) (kept-offer P keeps f event s stands.0.0 stands.1 h)

  pub kept-follow : (d : Discovery) (event : Event) (s : State) → event.number ≤ s.events → P s
      → P (follow d event s)
  unfolding follow
  kept-follow d event s given h = kept-offer_to_all s.functions event (wake_by d event s)
      (kept-wake_by (Stands s.functions event.number) (keeps-stands s.functions event.number) d event s
      (all-front s.functions s.retired, given)) (kept-wake_by P keeps d event s h)

  -- ## Ends

  pub kept-record_at_parent : (d : Discovery) (p : Parent) (r q : Run) (status : RunStatus) (result : List ℕ)
      (b : Bool) (s : State) → r.parent ≡ Some p → live_run p.run (end_run r status s) ≡ Some q
      → is_pending p.hash q.steps ≡ b → Ending P r status s
      → P (record_at_parent d p result b (end_run r status s))
  kept-record_at_parent d p r q status result true s parent live waits h =
      kept-discovered P keeps d (record_result p.run p.hash result (without_invocation_of p (end_run r status s)))
      (h.tells p q result parent live waits)
  kept-record_at_parent d p r q status result false s parent live waits h =
      h.ends (untold-one r status s p q parent live waits)

  pub kept-tell : (d : Discovery) (p : Parent) (r : Run) (status : RunStatus) (result : List ℕ)
      (found : Option Run) (s : State) → r.parent ≡ Some p → live_run p.run (end_run r status s) ≡ found
      → Ending P r status s → P (tell d p result found (end_run r status s))
  kept-tell d p r status result None s parent e h = h.ends (untold-gone r status s p parent e)
  kept-tell d p r status result (Some q) s parent e h =
      kept-record_at_parent d p r q status result (is_pending p.hash q.steps) s parent e refl h

  kept-told : (d : Discovery) (p : Option Parent) (r : Run) (status : RunStatus) (result : List ℕ) (s : State)
      → r.parent ≡ p → Ending P r status s → P (tell_parent d p result (end_run r status s))
  kept-told d None r status result s parent h = h.ends (untold-none r status s parent)
  kept-told d (Some p) r status result s parent h =
      kept-tell d p r status result (live_run p.run (end_run r status s)) s parent refl h

  -- a run ends, and its parent is told
  pub kept-ended : (d : Discovery) (r : Run) (status : RunStatus) (result : List ℕ) (s : State)
      → Ending P r status s → P (tell_parent d r.parent result (end_run r status s))
  kept-ended d r status result s h = kept-told d r.parent r status result s refl h

  pub kept-raise : (event : EventIn) (s : State) → P s → P (raise event s)
  kept-raise event s h = kept-follow at_the_end (event_with event s) (add_event (event_with event s) s)
      (omega arith) (keeps.accepts event None s tt h)

  pub kept-raise_failed : (r : Run) (error : List ℕ) (s : State) → P s → P (raise_failed r error s)
  kept-raise_failed r error s h =
      elim (is_of_failure (first_text r s)) as (λ b. P (elim b as (λ _. State)
      [ true ↦ s | false ↦ raise (failed_event r error s) s ]))
      [ true ↦ h | false ↦ kept-raise (failed_event r error s) s h ]

  pub ended-complete_run : (r : Run) (output : List ℕ) (s : State) → Ending P r Completed s
      → P (complete_run r output s)
  ended-complete_run r output s h = kept-ended at_the_end r Completed (data_result output) s h

  pub ended-fail_run : (r : Run) (error : List ℕ) (s : State) → Ending P r Failed s → P (fail_run r error s)
  unfolding fail_run
  ended-fail_run r error s h =
      kept-raise_failed r error (tell_parent at_the_end r.parent (error_result error) (end_run r Failed s))
      (kept-ended at_the_end r Failed (error_result error) s h)

  pub kept-complete_run : (r : Run) (output : List ℕ) (s : State) → IsLive r s → P s
      → P (complete_run r output s)
  kept-complete_run r output s live h = ended-complete_run r output s (keeps.ends r Completed s live h)

  pub kept-fail_run : (r : Run) (error : List ℕ) (s : State) → IsLive r s → P s → P (fail_run r error s)
  kept-fail_run r error s live h = ended-fail_run r error s (keeps.ends r Failed s live h)

  pub kept-cancel_run : (d : Discovery) (r : Run) (s : State) → IsLive r s → P s → P (cancel_run d r s)
  kept-cancel_run d r s live h =
      kept-ended d r Cancelled cancelled_result s (keeps.ends r Cancelled s live h)

  pub kept-cancel_found : (run : ℕ) (found : Option Run) (s : State) → live_run run s ≡ found → P s
      → P (cancel_found found s)
  kept-cancel_found run None s e h = h
  kept-cancel_found run (Some r) s e h = kept-cancel_run at_once r s (own-number run r s e) h

  pub kept-cancel_all : (ns : List ℕ) (s : State) → P s → P (cancel_all ns s)
  kept-cancel_all [] s h = h
  kept-cancel_all (n ∷ ns) s h = kept-cancel_all ns (cancel_found (live_run n s) s)
      (kept-cancel_found n (live_run n s) s refl h)

-- ## Requests

is-new : (id : Option (List ℕ)) (s : State)
    → option_and_then (λ (name : List ℕ). find_seen name s.moment s.seen) id ≡ None
    → IfSome id (λ name. find_seen name s.moment s.seen ≡ None)
is-new None s e = tt
is-new (Some name) s e = e

module _ (P : State → Type 0) (keeps : Keeps P) where
  pub kept-accept : (event : EventIn) (id : Option (List ℕ)) (s : State)
      → IfSome id (λ name. find_seen name s.moment s.seen ≡ None) → P s → P (accept (event_with event s) id s)
  kept-accept event id s new h =
      let t : State = add_event (event_with event s) (remember id s) in
      let met : List ℕ = cancelled (truth_in t) (event_with event s) t.rules in
      kept-follow P keeps at_once (event_with event s) (cancel_by (event_with event s) t)
      (kept-cancel_all (Stands [] (s.events + 1)) (keeps-stands [] (s.events + 1)) met t (tt, omega arith)).1
      (kept-cancel_all P keeps met t (keeps.accepts event id s new h))

  pub kept-answer_event : (event : EventIn) (number : Option ℕ) (a : Answering) → repeats event a.state ≡ number
      → P a.state → P (answer_event event number a).state
  kept-answer_event event (Some number) a e h = h
  kept-answer_event event None a e h = kept-accept event event.id a.state (is-new event.id a.state e) h

  pub kept-on_events : (events : List EventIn) (a : Answering) → P a.state → P (on_events events a).state
  unfolding on_events
  kept-on_events [] a h = h
  kept-on_events (event ∷ events) a h = kept-on_events events (on_event event a)
      (kept-answer_event event (repeats event a.state) a refl h)
