-- The parts after an event gets its number, and after the waits that it meets are over.
use Rattle.std.proofs.Common.{◌≡◌, ℕ, ◌+◌, ◌<◌, ◌≤◌, Bool, true, false, not, List, [], ◌∷◌, ◌++◌, filter, find, Option, Some, None, option_map, refl, sym, ap, ◌∙◌, arith, subst, eqb-true}
use Rattle.std.specs.List.{AllByRecursion}
use Rattle.awaited.specs.Entries.{wait_step}
use Rattle.awaited.specs.declared.entries.WaitStep.{WaitStep}
use Rattle.event_texts.specs.Texts.{Texts, text_at, text_or_none}
use Rattle.kinds.specs.declared.event.Event.{Event}
use Rattle.kinds.specs.declared.event.EventIn.{EventIn}
use Rattle.kinds.specs.declared.window.Window.{Window}
use Rattle.lists.proofs.Elements.{all-last, all-weaker}
use Rattle.lists.proofs.Keyed.{filter_none}
use Rattle.run_model.specs.Events.{add_event, event_with, follow, has_wait, offer_to_all, wake, wake_all, wake_by, wake_found, without_wait}
use Rattle.run_model.specs.Recording.{Discovery, data_result, discovered, wake_step}
use Rattle.run_model.specs.State.{State, Run, EventText, Waiting, text_of}
use Rattle.run_model.proofs.FitEvents.{fit-accepted}
use Rattle.run_model.proofs.FitRuns.{fit-waits}
use Rattle.run_model.proofs.KeptEvents.{kept-wake_by, kept-wake_found}
use Rattle.run_model.proofs.SettlingLists.{found-passes}
use Rattle.machine.specs.Held.{AreEventsRight, Becomes, IsEventRight, IsHeld}
use Rattle.machine.specs.Numbers.{IsJoined, Keeps, has_number}
use Rattle.machine.specs.View.{state_of}
use Rattle.machine.specs.Words.{event_at}
use Rattle.machine.specs.declared.counts.Counts.{Counts}
use Rattle.machine.specs.declared.loose.Loose.{Loose}
use Rattle.machine.specs.declared.parts.Parts.{Parts}
use Rattle.machine.proofs.HeldWords.{becomes-then}
use Rattle.machine.proofs.Staying.{Stays, keeps-stays, same-event}

-- what isn't touched wasn't
pub untouched : (old new : List ℕ) (n : ℕ) → Keeps old new → has_number new n ≡ false → has_number old n ≡ false
untouched old new n kept h = by_test (has_number old n) refl
  where
    by_test : (b : Bool) → has_number old n ≡ b → b ≡ false
    by_test false f = refl
    by_test true t = let clash : true ≡ false = sym (kept n t) ∙ h in cc

-- more is touched
pub events-touched : (live closing : List Run) (ws : List Window) (texts : List EventText)
    (used old new : List ℕ) → Keeps old new → AreEventsRight live closing ws texts used old
    → AreEventsRight live closing ws texts used new
events-touched live closing ws texts used old new kept h = record {
  each = all-weaker
      (λ (e : EventText). has_number old e.number ≡ false → IsEventRight live closing ws used e.number)
      (λ (e : EventText). has_number new e.number ≡ false → IsEventRight live closing ws used e.number)
      texts (λ e right left. right (untouched old new e.number kept left)) h.each;
}

-- an event comes that is touched
pub events-added : (live closing : List Run) (ws : List Window) (texts : List EventText) (x : EventText)
    (used old new : List ℕ) → IsJoined x.number old new → AreEventsRight live closing ws texts used old
    → AreEventsRight live closing ws (texts ++ x ∷ []) used new
events-added live closing ws texts x used old new joined h = record {
  each = all-last
      (λ (e : EventText). has_number new e.number ≡ false → IsEventRight live closing ws used e.number) texts x
      (events-touched live closing ws texts used old new joined.kept h).each
      (λ left. let clash : true ≡ false = sym joined.there ∙ left in cc);
}

-- numbers so far are below the next
pub texts-below : (events : ℕ) (texts : List EventText)
    → AllByRecursion (λ (e : EventText). e.number ≤ events) texts
    → AllByRecursion (λ (e : EventText). e.number < events + 1) texts
texts-below events texts h =
    all-weaker (λ (e : EventText). e.number ≤ events) (λ (e : EventText). e.number < events + 1) texts
    (λ e (low : e.number ≤ events). omega (arith, low)) h

-- an event more
abbrev pub with-text : Texts → ℕ → List ℕ → Texts
with-text t number text = record t { texts = t.texts ++ (record { number = number; text = text }) ∷ [] }

pub held-add_event : (m : Parts) (event : EventIn) (counts : Counts) (loose : Loose) (texts : Texts) (touched : List ℕ)
    → counts ≡ record m.counts { events = m.counts.events + 1 }
    → loose ≡ record m.loose { events = touched }
    → IsJoined (m.counts.events + 1) m.loose.events touched
    → texts ≡ record m.texts { texts = (add_event (event_with event (state_of m)) (state_of m)).texts }
    → IsHeld m
    → Becomes (add_event (event_with event (state_of m)) (state_of m)) m
    (record m { counts = counts; loose = loose; texts = texts })
held-add_event m event counts loose texts touched counted left joined added h =
    let s = add_event (event_with event (state_of m)) (state_of m) in
    subst (λ (c : Counts). Becomes s m (record m { counts = c; loose = loose; texts = texts })) (sym counted)
    (subst (λ (l : Loose). Becomes s m
    (record m { counts = record m.counts { events = m.counts.events + 1 }; loose = l; texts = texts })) (sym left)
    (subst (λ (t : Texts). Becomes s m
    (record m {
      counts = record m.counts { events = m.counts.events + 1 };
      loose = record m.loose { events = touched };
      texts = t;
    })) (sym added)
    (record {
      state = refl;
      held = record {
        fit = fit-accepted event None (state_of m) h.fit;
        wants = h.wants;
        events = events-added m.runs.live m.runs.closing m.windows m.texts.texts
            (record { number = m.counts.events + 1; text = (event_with event (state_of m)).text }) m.texts.counted
            m.loose.events touched joined h.events;
        versions = h.versions;
        ends = h.ends;
        clock = h.clock;
      };
      clock = refl;
    })))

-- ## Waits that are over

pub held-without_wait : (m : Parts) (number : ℕ) (ws : List Waiting)
    → ws ≡ filter (λ w. not (has_wait number w)) m.waits → IsHeld m
    → Becomes (without_wait number (state_of m)) m (record m { waits = ws })
held-without_wait m number ws left h =
    subst (λ (l : List Waiting). Becomes (without_wait number (state_of m)) m (record m { waits = l })) (sym left)
    (record {
      state = refl;
      held = record {
        fit = fit-waits (λ w. not (has_wait number w)) (state_of m) h.fit;
        wants = h.wants;
        events = h.events;
        versions = h.versions;
        ends = h.ends;
        clock = h.clock;
      };
      clock = refl;
    })

-- a wait that is there has its number
over-by : (d : Discovery) (result : List ℕ) (number : ℕ) (found : Option Waiting) (step : WaitStep) (s : State)
    → find (has_wait number) s.waits ≡ found → Some step ≡ option_map wait_step found
    → wake_found d result found s ≡ discovered d (wake_step step.run step.hash result (without_wait number s))
over-by d result number None step s e is = cc
over-by d result number (Some w) step s e is =
    let at : number ≡ w.wait.number = eqb-true number w.wait.number (found-passes (has_wait number) s.waits w e) in
    let same : step ≡ wait_step w = cc in
    ap (λ n. discovered d (wake_step w.wait.run w.hash result (without_wait n s))) (sym at)
    ∙ ap (λ (x : WaitStep). discovered d (wake_step x.run x.hash result (without_wait number s))) (sym same)

pub wait-over : (d : Discovery) (result : List ℕ) (number : ℕ) (m one two new : Parts) (step : WaitStep)
    → Some step ≡ option_map wait_step (find (has_wait number) m.waits)
    → Becomes (without_wait number (state_of m)) m one
    → Becomes (wake_step step.run step.hash result (state_of one)) one two
    → Becomes (discovered d (state_of two)) two new → Becomes (wake d result number (state_of m)) m new
wait-over d result number m one two new step is a b c =
    let s = state_of m in
    let word : State → State = wake_step step.run step.hash result in
    subst (λ t. Becomes t m new) (sym (over-by d result number (find (has_wait number) m.waits) step s refl is))
    (becomes-then (discovered d) (word (without_wait number s)) m two new
    (becomes-then word (without_wait number s) m one two a b) c)

nothing-by : (d : Discovery) (result : List ℕ) (number : ℕ) (m new : Parts) (found : Option Waiting)
    → find (has_wait number) m.waits ≡ found → None ≡ option_map wait_step found
    → Becomes (without_wait number (state_of m)) m new → Becomes (wake_found d result found (state_of m)) m new
nothing-by d result number m new None e is b =
    subst (λ (ws : List Waiting). Becomes (record (state_of m) { waits = ws }) m new)
    (filter_none (has_wait number) m.waits e) b
nothing-by d result number m new (Some w) e is b = cc

pub nothing-over : (d : Discovery) (result : List ℕ) (number : ℕ) (m new : Parts)
    → None ≡ option_map wait_step (find (has_wait number) m.waits)
    → Becomes (without_wait number (state_of m)) m new → Becomes (wake d result number (state_of m)) m new
nothing-over d result number m new is b = nothing-by d result number m new (find (has_wait number) m.waits) refl is b

-- ## All waits that an event meets

-- the waits that are left, after some are over
pub record IsWaking (d : Discovery) (number : ℕ) (name : List ℕ) (left : List ℕ) (first now : Parts) : Type 0 where
  pub same : wake_all d (data_result (text_or_none (text_of number (state_of first)))) left (state_of now)
      ≡ wake_by d (event_at number name (state_of first)) (state_of first)
  pub held : IsHeld now
  pub clock : now.admission.moment ≡ first.admission.moment
  pub stays : Stays first.versions.current number (text_of number (state_of first)) (state_of now)

pub waking-on : (d : Discovery) (number : ℕ) (name : List ℕ) (n : ℕ) (left : List ℕ) (first now new : Parts)
    → IsWaking d number name (n ∷ left) first now
    → Becomes (wake d (data_result (text_or_none (text_at number now.texts.texts))) n (state_of now)) now new
    → IsWaking d number name left first new
waking-on d number name n left first now new w b =
    let found : Option EventText = text_of number (state_of first) in
    let result : List ℕ = data_result (text_or_none found) in
    let became : state_of new ≡ wake d result n (state_of now) =
    b.state ∙ ap (λ o. wake d (data_result (text_or_none o)) n (state_of now)) w.stays.1 in
    record {
      same = ap (wake_all d result left) became ∙ w.same;
      held = b.held;
      clock = b.clock ∙ w.clock;
      stays = subst (Stays first.versions.current number found) (sym became)
          (kept-wake_found (Stays first.versions.current number found)
          (keeps-stays first.versions.current number found) d result n (find (has_wait n) now.waits) (state_of now) refl
          w.stays);
    }

-- ## What follows

pub followed : (d : Discovery) (number : ℕ) (name : List ℕ) (m one new : Parts) → number ≤ m.counts.events
    → Becomes (wake_by d (event_at number name (state_of m)) (state_of m)) m one
    → Becomes (offer_to_all one.versions.current (event_at number name (state_of one)) (state_of one)) one new
    → Becomes (follow d (event_at number name (state_of m)) (state_of m)) m new
unfolding follow
followed d number name m one new given a b =
    let s = state_of m in
    let e : Event = event_at number name s in
    let found : Option EventText = text_of number s in
    let stays : Stays s.functions number found (state_of one) =
    subst (Stays s.functions number found) (sym a.state)
    (kept-wake_by (Stays s.functions number found) (keeps-stays s.functions number found) d e s (refl, refl, given)) in
    becomes-then (offer_to_all s.functions e) (wake_by d e s) m one new a
    (subst (λ fs. Becomes (offer_to_all fs e (state_of one)) one new) stays.0
    (subst (λ x. Becomes (offer_to_all one.versions.current x (state_of one)) one new)
    (same-event number name found (state_of one) stays.1) b))

pub still-given : (d : Discovery) (number : ℕ) (name : List ℕ) (m one : Parts) → number ≤ m.counts.events
    → Becomes (wake_by d (event_at number name (state_of m)) (state_of m)) m one → number ≤ one.counts.events
still-given d number name m one given a =
    let s = state_of m in
    let P : State → Type 0 = Stays s.functions number (text_of number s) in
    (subst P (sym a.state)
    (kept-wake_by P (keeps-stays s.functions number (text_of number s)) d (event_at number name s) s
    (refl, refl, given))).2
