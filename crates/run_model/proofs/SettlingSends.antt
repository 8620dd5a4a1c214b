-- A call sends what is recorded of its run, and the state at the end of the step has that still.
use Rattle.std.proofs.Common.{◌≡◌, ℕ, ◌+◌, ◌==◌, true, false, cond, List, length, Option, Some, None, IsSomeAnd, option_map, refl, sym, ap, subst, if◌then◌else◌, eqb-true}
use Rattle.std.specs.List.{AllByRecursion, list_any}
use Rattle.kinds.specs.Windows as windows
use Rattle.kinds.specs.declared.input.Input.{Input}
use Rattle.kinds.specs.declared.out.Out.{Out}
use Rattle.kinds.specs.declared.out.Out.TheVariants as out
use Rattle.kinds.specs.declared.store.Item.{Item}
use Rattle.functions.specs.declared.entry.FunctionEntry.{FunctionEntry}
use Rattle.lists.proofs.Elements.{all-weaker}
use Rattle.sdk_call.specs.Body.{call_body}
use Rattle.step_ids.specs.Run.{run_text}
use Rattle.run_model.specs.Machine.{step}
use Rattle.run_model.specs.Making.{text_or_none}
use Rattle.run_model.specs.Settle.{body_of, call_found, call_with, called, issue, texts_of}
use Rattle.run_model.specs.Settled.{SendsRecorded, SendsRun}
use Rattle.run_model.specs.State.{State, Run, EventText, is_in, is_named, is_used, live_run, text_of, tidied, without_closed}
use Rattle.run_model.proofs.SettlingOuts.{Says, said-step}
use Rattle.run_model.proofs.SettlingLists.{all-in, find-filter, find-map, found-any, found-passes, map-same, or-left}

-- ## A call is made: marks of its run change, and nothing that is sent

abbrev change : Item → Run → Run
change i r = if i.run == r.number then called i.target r else r

number-stays : (i : Item) (r : Run) → (change i r).number ≡ r.number
number-stays i r =
    elim (i.run == r.number) as (λ b. (cond b (called i.target r) r).number ≡ r.number) [ true ↦ refl | false ↦ refl ]

run-after : (run : ℕ) (i : Item) (s : State)
    → live_run run (issue i s) ≡ option_map (change i) (live_run run s)
run-after run i s =
    find-map (λ (r : Run). run == r.number) (change i) s.live (λ r. ap (λ n. run == n) (number-stays i r))

sends-changed : (i : Item) (s : State) (attempt steps : ℕ) (events body : List ℕ) (r : Run)
    → SendsRun s attempt steps events body r → SendsRun (issue i s) attempt steps events body (change i r)
sends-changed i s attempt steps events body r h =
    elim (i.run == r.number) as (λ b. SendsRun (issue i s) attempt steps events body (cond b (called i.target r) r)) [
      | true ↦ record { counted = h.counted; named = h.named; sent = h.sent }
      | false ↦ record { counted = h.counted; named = h.named; sent = h.sent }
    ]

sends-found : (i : Item) (s : State) (attempt steps : ℕ) (events body : List ℕ) (found : Option Run)
    → IsSomeAnd found (SendsRun s attempt steps events body)
    → IsSomeAnd (option_map (change i) found) (SendsRun (issue i s) attempt steps events body)
sends-found i s attempt steps events body None h = h
sends-found i s attempt steps events body (Some r) h = sends-changed i s attempt steps events body r h

sends-issue : (i : Item) (s : State) (o : Out) → SendsRecorded s o → SendsRecorded (issue i s) o
sends-issue i s (out.Call call function target run attempt steps events host port path body) h =
    subst (λ found. IsSomeAnd found (SendsRun (issue i s) attempt steps events body))
    (sym (run-after run i s)) (sends-found i s attempt steps events body (live_run run s) h)
sends-issue i s (out.Answer status body) h = tt
sends-issue i s (out.Hang call) h = tt

-- ## The call that is made

live-by-number : (i : Item) (r : Run) (s : State) → live_run i.run s ≡ Some r → live_run r.number s ≡ Some r
live-by-number i r s e =
    subst (λ n. live_run n s ≡ Some r)
    (eqb-true i.run r.number (found-passes (λ (x : Run). i.run == x.number) s.live r e)) e

sends-own : (i : Item) (r : Run) (s : State) → live_run i.run s ≡ Some r
    → IsSomeAnd (live_run r.number s)
    (SendsRun s i.attempt (length r.steps.recorded) r.events (body_of r i s))
sends-own i r s e =
    subst (λ found. IsSomeAnd found (SendsRun s i.attempt (length r.steps.recorded) r.events (body_of r i s)))
    (sym (live-by-number i r s e)) (record { counted = refl; named = refl; sent = refl })

sends-new : (f : Option FunctionEntry) (i : Item) (r : Run) (s : State) → live_run i.run s ≡ Some r
    → AllByRecursion (SendsRecorded (issue i s)) (call_found f r i (s.calls + 1) s)
sends-new None i r s e = tt
sends-new (Some f) i r s e = (sends-issue i s (call_with f.function r i (s.calls + 1) s) (sends-own i r s e), tt)

-- ## What stays at the end of the step: a run that has not ended names its events

names-event : (run n : ℕ) (r : Run) (s : State) (e : EventText) → live_run run s ≡ Some r
    → is_in n r.events ≡ true → (n == e.number) ≡ true → is_named (without_closed s) e ≡ true
names-event run n r s e live names same =
    let by_number : is_in e.number r.events ≡ true =
    subst (λ m. is_in m r.events ≡ true) (eqb-true n e.number same) names in
    let here = without_closed s in
    or-left (is_used here e) (list_any (λ (x : Run). is_in e.number x.events) here.closing)
    (or-left (list_any (λ (x : Run). is_in e.number x.events) s.live)
    (list_any (λ w. is_in e.number (windows.events_of w)) s.windows)
    (found-any (λ (x : Run). run == x.number) (λ (x : Run). is_in e.number x.events) s.live r live by_number))

text-stays : (run n : ℕ) (r : Run) (s : State) → live_run run s ≡ Some r → is_in n r.events ≡ true
    → text_of n (tidied s) ≡ text_of n s
unfolding tidied
text-stays run n r s live names =
    find-filter (λ (e : EventText). n == e.number) (is_named (without_closed s)) s.texts
    (λ e same. names-event run n r s e live names same)

texts-stay : (run : ℕ) (r : Run) (s : State) → live_run run s ≡ Some r → texts_of r (tidied s) ≡ texts_of r s
texts-stay run r s live =
    map-same (λ n. text_or_none (text_of n (tidied s))) (λ n. text_or_none (text_of n s)) r.events
    (all-weaker _ _ r.events (λ n names. ap text_or_none (text-stays run n r s live names))
    (all-in r.events r.events (λ n h. h)))

sends-texts : (s t : State) (attempt steps : ℕ) (events body : List ℕ) (r : Run)
    → texts_of r t ≡ texts_of r s → SendsRun s attempt steps events body r
    → SendsRun t attempt steps events body r
sends-texts s t attempt steps events body r same h = record {
  counted = h.counted;
  named = h.named;
  sent = subst
      (λ texts. body ≡ call_body (run_text r.moment r.number) attempt r.planned texts r.steps.recorded)
      (sym same) h.sent;
}

sends-stays : (s : State) (run attempt steps : ℕ) (events body : List ℕ) (found : Option Run)
    → live_run run s ≡ found → IsSomeAnd found (SendsRun s attempt steps events body)
    → IsSomeAnd found (SendsRun (tidied s) attempt steps events body)
sends-stays s run attempt steps events body None e h = h
sends-stays s run attempt steps events body (Some r) e h =
    sends-texts s (tidied s) attempt steps events body r (texts-stay run r s e) h

live-stays : (run : ℕ) (s : State) → live_run run (tidied s) ≡ live_run run s
unfolding tidied
live-stays run s = refl

sends-tidied : (s : State) (o : Out) → SendsRecorded s o → SendsRecorded (tidied s) o
sends-tidied s (out.Call call function target run attempt steps events host port path body) h =
    subst (λ found. IsSomeAnd found (SendsRun (tidied s) attempt steps events body)) (sym (live-stays run s))
    (sends-stays s run attempt steps events body (live_run run s) refl h)
sends-tidied s (out.Answer status body) h = tt
sends-tidied s (out.Hang call) h = tt

-- ## A step

says-recorded : Says (λ s. Unit {0}) SendsRecorded
says-recorded = record {
  goes_on = λ number i s there good. tt;
  calls = λ number i r f s there live good. sends-new f i r s live;
  stays = sends-issue;
  tidies = sends-tidied;
  hangs = λ s call. tt;
  answers = λ s status body. tt;
}

pub sent-step : (s : State) (input : Input) → AllByRecursion (SendsRecorded (step s input).state) (step s input).outs
sent-step s input = said-step (λ s. Unit {0}) SendsRecorded says-recorded s input tt
