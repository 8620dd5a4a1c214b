-- The parts after an event of the server's own.
use Rattle.std.proofs.Common.{◌≡◌, ℕ, ◌+◌, ◌≤◌, ◌==◌, true, false, cond, List, [], ◌∷◌, find, Option, Some, None, refl, ap, ◌∙◌, arith, subst}
use Rattle.std.specs.List.{AllByRecursion}
use Rattle.std.proofs.lemmas.Bool.{cond-false}
use Rattle.std.proofs.lemmas.Bool.Decides.{nat_tests}
use Rattle.event_texts.specs.Texts.{text_or_none}
use Rattle.kinds.specs.declared.event.EventIn.{EventIn}
use Rattle.kinds.specs.declared.event.Event.{Event}
use Rattle.run_model.specs.Ends.{raise}
use Rattle.run_model.specs.Events.{add_event, event_with, follow}
use Rattle.run_model.specs.Fit.{IsFit}
use Rattle.run_model.specs.Recording.{at_the_end}
use Rattle.run_model.specs.State.{State, EventText}
use Rattle.machine.specs.Held.{Becomes, IsHeld}
use Rattle.machine.specs.View.{state_of}
use Rattle.machine.specs.Words.{event_at}
use Rattle.machine.specs.declared.parts.Parts.{Parts}
use Rattle.machine.proofs.Found.{found-back}
use Rattle.machine.proofs.HeldWords.{becomes-then}

-- ## The text that was added

none-above : (events : ℕ) (texts : List EventText) → AllByRecursion (λ (e : EventText). e.number ≤ events) texts
    → find (λ (e : EventText). events + 1 == e.number) texts ≡ None
none-above events [] h = refl
none-above events (e ∷ es) h =
    cond-false (events + 1 == e.number) (Some e) (find (λ (x : EventText). events + 1 == x.number) es)
    (greater events e.number h.0) ∙ none-above events es h.1
  where
    greater : (n m : ℕ) → m ≤ n → (n + 1 == m) ≡ false
    greater n m low = grind (arith, nat_tests, low)

found-own : (e : EventText) → find (λ (x : EventText). e.number == x.number) (e ∷ []) ≡ Some e
found-own e = ap (λ b. cond b (Some e) None) (own e.number)
  where
    own : (n : ℕ) → (n == n) ≡ true
    own n = grind (arith, nat_tests)

-- the event as it is kept is the one that was added
pub event-added : (event : EventIn) (s : State) → IsFit s
    → event_at (s.events + 1) event.name (add_event (event_with event s) s) ≡ event_with event s
event-added event s h =
    let e : EventText = record { number = s.events + 1; text = (event_with event s).text } in
    ap (λ (o : Option EventText). record { number = s.events + 1; name = event.name; text = text_or_none o })
    (found-back (λ (x : EventText). s.events + 1 == x.number) s.texts (e ∷ [])
    (none-above s.events s.texts h.events_fit.text_numbers) ∙ found-own e)

-- ## What follows

pub raised : (m added new : Parts) (event : EventIn) (number : ℕ) (name : List ℕ) → number ≡ m.counts.events + 1
    → name ≡ event.name → IsHeld m → Becomes (add_event (event_with event (state_of m)) (state_of m)) m added
    → Becomes (follow at_the_end (event_at number name (state_of added)) (state_of added)) added new
    → Becomes (raise event (state_of m)) m new
raised m added new event number name is named h b after =
    let s : State = state_of m in
    let e : Event = event_with event s in
    let same : event_at number name (state_of added) ≡ e =
    ap (λ n. event_at n name (state_of added)) is
    ∙ ap (λ w. event_at (s.events + 1) w (state_of added)) named
    ∙ ap (event_at (s.events + 1) event.name) b.state ∙ event-added event s h.fit in
    becomes-then (follow at_the_end e) (add_event e s) m added new b
    (subst (λ (x : Event). Becomes (follow at_the_end x (state_of added)) added new) same after)
