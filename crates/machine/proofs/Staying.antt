-- The current functions stay, and so does the text of an event that has its number.
use Rattle.std.proofs.Common.{◌≡◌, ℕ, ◌+◌, ◌≤◌, ◌==◌, List, find, Option, Some, None, ap, ◌∙◌, arith, eqb-true}
use Rattle.intake.specs.Events.{event_text}
use Rattle.kinds.specs.declared.event.EventIn.{EventIn}
use Rattle.functions.specs.declared.entry.FunctionEntry.{FunctionEntry}
use Rattle.run_model.proofs.FitEvents.{find-last}
use Rattle.run_model.proofs.Kept.{Keeps, freely}
use Rattle.run_model.specs.Events.{add_event, event_with}
use Rattle.run_model.specs.Making.{text_or_none}
use Rattle.run_model.specs.Requests.{remember}
use Rattle.run_model.specs.State.{State, EventText, text_of}
use Rattle.machine.specs.Words.{event_at}

-- these are the current functions, and this is the event of a number that was given
abbrev pub Stays : List FunctionEntry → ℕ → Option EventText → State → Type 0
Stays fs event found s = (s.functions ≡ fs) × (text_of event s ≡ found) × (event ≤ s.events)

stays-accepted : (fs : List FunctionEntry) (number : ℕ) (found : Option EventText) (event : EventIn)
    (id : Option (List ℕ)) (s : State)
    → Stays fs number found s → Stays fs number found (add_event (event_with event s) (remember id s))
stays-accepted fs number found event None s h = (
  h.0,
  find-last (λ (e : EventText). number == e.number) s.texts
      (record { number = s.events + 1; text = event_text (s.events + 1) s.moment event })
      (λ same. omega (arith, h.2, eqb-true number (s.events + 1) same)) ∙ h.1,
  omega (arith, h.2),
)
stays-accepted fs number found event (Some id) s h = (
  h.0,
  find-last (λ (e : EventText). number == e.number) s.texts
      (record { number = s.events + 1; text = event_text (s.events + 1) s.moment event })
      (λ same. omega (arith, h.2, eqb-true number (s.events + 1) same)) ∙ h.1,
  omega (arith, h.2),
)

-- what looks at these alone is kept where the events of requests keep it
abbrev pub Sees : (List FunctionEntry → List EventText → ℕ → ℕ → Type 0) → State → Type 0
Sees K s = K s.functions s.texts s.events s.moment

pub keeps-seen : (K : List FunctionEntry → List EventText → ℕ → ℕ → Type 0)
    → ((event : EventIn) (id : Option (List ℕ)) (s : State) → Sees K s
    → Sees K (add_event (event_with event s) (remember id s))) → Keeps (Sees K)
keeps-seen K accepts = freely (Sees K) (record {
  accepts = λ event id s new h. accepts event id s h;
  starts = λ f event parent s there given h. h;
  fills = λ f r value event s may full h. h;
  fires = λ f w s there stands h. h;
  joins = λ f r value event s may full h. h;
  windows_go = λ n s h. h;
  rules = λ r event c s there e h. h;
  finds_out = λ r s there h. h;
  wants = λ r s live h. h;
  plans = λ r name s live new h. h;
  sleeps = λ r name t s live new h. h;
  waits = λ r name event t cond s live new h. h;
  pends = λ r name s live new h. h;
  invokes = λ r name child t s there h. h;
  ends = λ r status s live h. h;
}) (record {
  records = λ run name result s h. h;
  sleeps_go = λ test s h. h;
  waits_go = λ test s h. h;
  invocations_go = λ test s h. h;
  rules_go = λ test s h. h;
})

pub keeps-stays : (fs : List FunctionEntry) (number : ℕ) (found : Option EventText) → Keeps (Stays fs number found)
keeps-stays fs number found =
    keeps-seen (λ now texts events moment. (now ≡ fs)
    × (find (λ (e : EventText). number == e.number) texts ≡ found) × (number ≤ events))
    (stays-accepted fs number found)

-- so it is the same event
pub same-event : (number : ℕ) (name : List ℕ) (found : Option EventText) (s : State) → text_of number s ≡ found
    → event_at number name s ≡ record { number = number; name = name; text = text_or_none found }
same-event number name found s e =
    ap (λ (o : Option EventText). record { number = number; name = name; text = text_or_none o }) e
