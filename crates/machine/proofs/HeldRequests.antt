-- The parts after the events of a request.
use Rattle.std.proofs.Common.{◌≡◌, ℕ, suc, ◌+◌, ◌<◌, ◌≤◌, ◌==◌, not, cond, List, [], ◌∷◌, ◌++◌, drop, find, length, get_or, Option, Some, None, refl, sym, ap, ◌∙◌, arith, subst, drop-cons, add-one, eq-eqb}
use Rattle.std.proofs.lemmas.List.{drop_all}
use Rattle.kinds.specs.Seen.{note_seen, without_id, has_id}
use Rattle.kinds.specs.Stores.{cancelled}
use Rattle.kinds.specs.declared.event.Event.{Event}
use Rattle.kinds.specs.declared.event.EventIn.{EventIn}
use Rattle.kinds.specs.declared.seen.SeenEntry.{SeenEntry}
use Rattle.lists.proofs.Elements.{all-filter}
use Rattle.run_model.specs.Events.{add_event, event_with, follow}
use Rattle.run_model.specs.Expressions.{truth_in}
use Rattle.run_model.specs.Fit.{IsFit}
use Rattle.run_model.specs.Recording.{at_once}
use Rattle.run_model.specs.Requests.{Answering, accept, answer_event, cancel_all, cancel_by, on_event, on_events, remember, repeats}
use Rattle.run_model.specs.State.{State, EventText, text_of}
use Rattle.run_model.proofs.FitCounts.{fit-seen}
use Rattle.run_model.proofs.FitEvents.{all-noted}
use Rattle.run_model.proofs.FitUses.{none-next}
use Rattle.run_model.proofs.KeptEvents.{kept-cancel_all}
use Rattle.machine.specs.Held.{Becomes, IsHeld}
use Rattle.machine.specs.View.{state_of}
use Rattle.machine.specs.Words.{answering, event_at, given_number, note_id, number_for}
use Rattle.machine.specs.declared.parts.Parts.{Parts}
use Rattle.machine.proofs.Found.{found-back}
use Rattle.machine.proofs.HeldWords.{becomes-then}
use Rattle.machine.proofs.Staying.{Stays, keeps-stays, same-event}

-- ## An id is remembered

pub held-note_id : (m : Parts) (id : List ℕ) (number : ℕ) (seen : List SeenEntry)
    → seen ≡ note_seen (record { id = id; number = number; moment = m.moment }) m.seen → number ≤ m.counts.events
    → IsHeld m → Becomes (note_id (Some id) number (state_of m)) m (record m { seen = seen })
held-note_id m id number seen noted given h =
    let entry : SeenEntry = record { id = id; number = number; moment = m.moment } in
    subst (λ (es : List SeenEntry). Becomes (note_id (Some id) number (state_of m)) m (record m { seen = es }))
    (sym noted)
    (record {
      state = refl;
      held = record {
        fit = fit-seen (note_seen entry m.seen) (state_of m)
            (all-noted (λ (e : SeenEntry). e.number ≤ m.counts.events) entry (without_id id m.seen) given
            (all-filter (λ (e : SeenEntry). e.number ≤ m.counts.events) (λ e. not (has_id id e)) m.seen
            h.fit.events_fit.seen_numbers)) h.fit;
        wants = h.wants;
        events = h.events;
        versions = h.versions;
        ends = h.ends;
        clock = h.clock;
      };
      clock = refl;
    })

-- ## Rules that an event meets

-- the runs that are left, after some are cancelled
pub record IsCancelling (event : Event) (left : List ℕ) (first now : Parts) : Type 0 where
  pub same : cancel_all left (state_of now) ≡ cancel_by event (state_of first)
  pub held : IsHeld now
  pub clock : now.admission.moment ≡ first.admission.moment

-- ## An event that is new

found-one : (n : ℕ) (text : List ℕ)
    → find (λ (x : EventText). n == x.number) ((record { number = n; text = text }) ∷ [])
    ≡ Some (record { number = n; text = text })
found-one n text = ap (λ b. cond b (Some (record { number = n; text = text })) None) (eq-eqb n n refl)

-- it is found by its number
made-by : (event : EventIn) (s : State) → IsFit s
    → event_at (s.events + 1) event.name (add_event (event_with event s) s) ≡ event_with event s
made-by event s h =
    let e : Event = event_with event s in
    let added : EventText = record { number = s.events + 1; text = e.text } in
    same-event (s.events + 1) event.name (Some added) (add_event e s)
    (found-back (λ (x : EventText). (s.events + 1) == x.number) s.texts (added ∷ [])
    (none-next (λ (x : EventText). x.number) s.events s.texts h.events_fit.text_numbers)
    ∙ found-one (s.events + 1) e.text)

made-event : (event : EventIn) (id : Option (List ℕ)) (s : State) → IsFit s
    → event_at (s.events + 1) event.name (add_event (event_with event s) (remember id s)) ≡ event_with event s
made-event event None s h = made-by event s h
made-event event (Some id) s h = made-by event s h

-- an event and its id
noted-after : (event : EventIn) (id : Option (List ℕ)) (s : State)
    → note_id id (s.events + 1) (add_event (event_with event s) s) ≡ add_event (event_with event s) (remember id s)
noted-after event None s = refl
noted-after event (Some id) s = refl

-- the state after an event and its id
abbrev after_id : EventIn → State → State
after_id event s = add_event (event_with event s) (remember event.id s)

abbrev IsAdded : EventIn → Parts → Parts → Type 0
IsAdded event m one = Becomes (add_event (event_with event (state_of m)) (state_of m)) m one

module _ (event : EventIn) (m one : Parts) (number : ℕ) (is : number ≡ m.counts.events + 1) (h : IsHeld m)
    (added : IsAdded event m one) where
  -- its number was given
  pub added-given : number ≤ one.counts.events
  added-given = let same = ap (λ (s : State). s.events) added.state in omega (arith, same, is)

  -- nothing that is remembered has its number, or its id
  pub added-fresh : find (λ (e : SeenEntry). number == e.number) one.seen ≡ None
  added-fresh =
      ap (λ (s : State). find (λ (e : SeenEntry). number == e.number) s.seen) added.state
      ∙ ap (λ n. find (λ (e : SeenEntry). n == e.number) m.seen) is
      ∙ none-next (λ (e : SeenEntry). e.number) m.counts.events m.seen h.fit.events_fit.seen_numbers

  pub added-new : repeats event (state_of m) ≡ None → repeats event (state_of one) ≡ None
  added-new new = ap (repeats event) added.state ∙ new

  module _ (two : Parts) (noted : Becomes (note_id event.id number (state_of one)) one two) where
    after-noted : Becomes (after_id event (state_of m)) m two
    after-noted =
        let s = state_of m in
        subst (λ t. Becomes t m two)
        (ap (λ n. note_id event.id n (add_event (event_with event s) s)) is ∙ noted-after event event.id s)
        (becomes-then (note_id event.id number) (add_event (event_with event s) s) m one two added noted)

    pub noted-given : number ≤ two.counts.events
    noted-given = let same = ap (λ (s : State). s.events) after-noted.state in omega (arith, same, is)

    its-event : event_at number event.name (after_id event (state_of m)) ≡ event_with event (state_of m)
    its-event =
        ap (λ n. event_at n event.name (after_id event (state_of m))) is ∙ made-event event event.id (state_of m) h.fit

    -- the functions and its text stay where rules are met
    abbrev Stands : State → Type 0
    Stands = Stays (state_of m).functions number (text_of number (after_id event (state_of m)))

    module _ (three : Parts)
        (met : Becomes (cancel_by (event_at number event.name (state_of two)) (state_of two)) two three) where
      after-met : Becomes (cancel_by (event_with event (state_of m)) (after_id event (state_of m))) m three
      after-met =
          let e = event_with event (state_of m) in
          becomes-then (cancel_by e) (after_id event (state_of m)) m two three after-noted
          (subst (λ x. Becomes (cancel_by x (state_of two)) two three)
          (ap (event_at number event.name) after-noted.state ∙ its-event) met)

      stands : Stands (state_of three)
      stands =
          let e = event_with event (state_of m) in
          let t = after_id event (state_of m) in
          subst Stands (sym after-met.state)
          (kept-cancel_all Stands
          (keeps-stays (state_of m).functions number (text_of number t))
          (cancelled (truth_in t) e t.rules) t (by_id event.id, refl, omega (arith, is)))
        where
          by_id : (id : Option (List ℕ)) → (remember id (state_of m)).functions ≡ (state_of m).functions
          by_id None = refl
          by_id (Some x) = refl

      pub met-given : number ≤ three.counts.events
      met-given = stands.2

      pub accepted : (new : Parts)
          → Becomes (follow at_once (event_at number event.name (state_of three)) (state_of three)) three new
          → Becomes (accept (event_with event (state_of m)) event.id (state_of m)) m new
      accepted new b =
          let e = event_with event (state_of m) in
          let t = after_id event (state_of m) in
          becomes-then (follow at_once e) (cancel_by e t) m three new after-met
          (subst (λ x. Becomes (follow at_once x (state_of three)) three new)
          (same-event number event.name (text_of number t) (state_of three) stands.1 ∙ its-event) b)

-- ## All events

one-by : (event : EventIn) (s : State) (numbers : List ℕ) (found : Option ℕ)
    → answer_event event found (record { state = s; numbers = numbers })
    ≡ record {
      state = (answer_event event found (answering s)).state;
      numbers = numbers ++ given_number found (s.events + 1) ∷ [];
    }
one-by event s numbers None = refl
one-by event s numbers (Some number) = refl

-- the events that are left, after some are taken
pub record IsTaking (events left : List EventIn) (numbers : List ℕ) (first now : Parts) : Type 0 where
  pub same : on_events left (record { state = state_of now; numbers = numbers })
      ≡ on_events events (answering (state_of first))
  pub held : IsHeld now
  pub clock : now.admission.moment ≡ first.admission.moment

pub taking-on : (events : List EventIn) (i : ℕ) (event : EventIn) (numbers : List ℕ) (number : ℕ)
    (first now new : Parts) → i < length events → event ≡ get_or events i event
    → IsTaking events (drop i events) numbers first now → number ≡ number_for event (state_of now)
    → Becomes (on_event event (answering (state_of now))).state now new
    → IsTaking events (drop (i + 1) events) (numbers ++ number ∷ []) first new
unfolding on_events
taking-on events i event numbers number first now new within is t given b =
    let left : List EventIn = drop (i + 1) events in
    let opened : drop i events ≡ event ∷ left =
    drop-cons events i event within ∙ ap (λ x. x ∷ drop (suc i) events) (sym is)
    ∙ ap (λ n. event ∷ drop n events) (sym (add-one i)) in
    record {
      same =
          ap (λ (s : State). on_events left (record { state = s; numbers = numbers ++ number ∷ [] })) b.state
          ∙ ap (λ n. on_events left
          (record { state = (on_event event (answering (state_of now))).state; numbers = numbers ++ n ∷ [] })) given
          ∙ ap (on_events left) (sym (one-by event (state_of now) numbers (repeats event (state_of now))))
          ∙ ap (λ es. on_events es (record { state = state_of now; numbers = numbers })) (sym opened) ∙ t.same;
      held = b.held;
      clock = b.clock ∙ t.clock;
    }

module _ (events : List EventIn) (i : ℕ) (numbers : List ℕ) (first now : Parts) (past : length events ≤ i)
    (t : IsTaking events (drop i events) numbers first now) where
  all-taken : record { state = state_of now; numbers = numbers } ≡ on_events events (answering (state_of first))
  unfolding on_events
  all-taken =
      ap (λ es. on_events es (record { state = state_of now; numbers = numbers })) (sym (drop_all i events past))
      ∙ t.same

  pub taking-numbers : numbers ≡ (on_events events (answering (state_of first))).numbers
  taking-numbers = ap (λ (a : Answering). a.numbers) all-taken

  pub taking-done : Becomes (on_events events (answering (state_of first))).state first now
  taking-done = record {
    state = ap (λ (a : Answering). a.state) all-taken;
    held = t.held;
    clock = t.clock;
  }
