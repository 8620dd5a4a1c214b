-- Events that were read one after another, and those that are left.
use Rattle.std.proofs.Common.{◌≡◌, ◌⊎◌, inl, inr, ℕ, ◌+◌, List, [], ◌∷◌, ◌++◌, length, length-append, map, Result, Ok, Err, refl, sym, ap, ◌∙◌, append_assoc, append-nil}
use Rattle.std.specs.List.{AllByRecursion}
use Rattle.json_text.specs.Grammar.{Json}
use Rattle.json_text.specs.Nodes.{Document, IsNodeOf, value_at}
use Rattle.kinds.specs.declared.event.EventIn.{EventIn}
use Rattle.intake.specs.Events.{event_of, events_from, with_events}
use Rattle.intake.specs.declared.fault.IntakeFault.{IntakeFault}
use Rattle.intake.specs.declared.fault.IntakeFault.TheVariants.{Memory}

-- these events and those that come of the rest, or the rest's fault
abbrev pub followed : List EventIn → Result (List EventIn) IntakeFault → Result (List EventIn) IntakeFault
followed events (Ok more) = Ok (events ++ more)
followed events (Err fault) = Err fault

-- these events were read of some values, and the nodes that are left are those of the others
pub record IsReading (root : Document) (js : List Json) (left : List ℕ) (events : List EventIn) : Type 0 where
  pub there : AllByRecursion (IsNodeOf root) left
  pub read : events_from 0 js ≡ followed events (events_from (length events) (map (value_at root) left))

followed-more : (events : List EventIn) (event : EventIn) (r : Result (List EventIn) IntakeFault) → followed events (with_events (Ok event) r) ≡ followed (events ++ event ∷ []) r
followed-more events event (Ok more) = ap (λ (all : List EventIn). Ok all) (sym (append_assoc events (event ∷ []) more))
followed-more events event (Err fault) = refl

from-next : (k : ℕ) (j : Json) (js : List Json) → events_from k (j ∷ js) ≡ with_events (event_of k j) (events_from (k + 1) js)
unfolding events_from
from-next k j js = refl

from-end : (k : ℕ) → events_from k [] ≡ Ok []
unfolding events_from
from-end k = refl

here : (root : Document) (js : List Json) (node : ℕ) (left : List ℕ) (events : List EventIn) → IsReading root js (node ∷ left) events
    → events_from 0 js ≡ followed events (with_events (event_of (length events) (value_at root node)) (events_from (length events + 1) (map (value_at root) left)))
here root js node left events reading = reading.read ∙ ap (λ r. followed events r) (from-next (length events) (value_at root node) (map (value_at root) left))

pub reading-more : (root : Document) (js : List Json) (node : ℕ) (left : List ℕ) (events : List EventIn) (event : EventIn) → IsReading root js (node ∷ left) events → event_of (length events) (value_at root node) ≡ Ok event → IsReading root js left (events ++ event ∷ [])
reading-more root js node left events event reading is = record {
  there = reading.there.1;
  read = here root js node left events reading
      ∙ ap (λ r. followed events (with_events r (events_from (length events + 1) (map (value_at root) left)))) is
      ∙ followed-more events event (events_from (length events + 1) (map (value_at root) left))
      ∙ ap (λ (n : ℕ). followed (events ++ event ∷ []) (events_from n (map (value_at root) left))) (sym (length-append events (event ∷ [])));
}

pub reading-fault : (root : Document) (js : List Json) (node : ℕ) (left : List ℕ) (events : List EventIn) (fault : IntakeFault) → IsReading root js (node ∷ left) events → (event_of (length events) (value_at root node) ≡ Err fault) ⊎ (fault ≡ Memory) → (events_from 0 js ≡ Err fault) ⊎ (fault ≡ Memory)
reading-fault root js node left events fault reading (inr memory) = inr memory
reading-fault root js node left events fault reading (inl is) =
    inl (here root js node left events reading ∙ ap (λ r. followed events (with_events r (events_from (length events + 1) (map (value_at root) left)))) is)

pub reading-end : (root : Document) (js : List Json) (events : List EventIn) → IsReading root js [] events → events_from 0 js ≡ Ok events
reading-end root js events reading =
    reading.read
    ∙ ap (λ r. followed events r) (from-end (length events))
    ∙ ap (λ (all : List EventIn). Ok all) (append-nil events)
