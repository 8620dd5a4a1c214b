-- The generator's inputs are taken one after the other, and come to the state that the line tells of.
use Rattle.std.proofs.Common.{◌≡◌, ℕ, zero, suc, ◌+◌, ◌*◌, ◌<◌, ◌≤◌, List, Option, Some, None, refl, sym, ap, subst, ◌∙◌, arith}
use Rattle.kinds.specs.declared.input.Input.{Input}
use Rattle.run_model.specs.Machine.{Accepts}
use Rattle.run_model.specs.State.{State}
use Rattle.generator.specs.Accepted.{AcceptsAny, AcceptsEvent, AreAccepted, HasEnded, drawn_event, registered}
use Rattle.generator.specs.Inputs.{registration}
use Rattle.generator.specs.Session.{after_any, after_events, after_input, after_replies, after_reply, generated, next_reply}
use Rattle.replay_core.specs.GeneratedLine.{IsKnownLine, known_line}
use Rattle.replay_core.specs.Generator.{generator_line, on_any, on_event, on_events, on_generated, on_replies, on_reply, on_rest, summed_up}
use Rattle.replay_core.specs.Replay.{Progress, Outcome, Goes, Stops, Finished, after_text, and_then, on_check, on_input, start}
use Rattle.replay_core.specs.declared.form.Form.TheVariants.{Full}

-- ## Where a run stands

-- it goes on from this state
abbrev IsAt : State → Outcome → Type 0
IsAt s (Goes progress text) = progress.state ≡ s
IsAt s (Stops ending text) = ⊥

at-text : (s : State) (front : List ℕ) (outcome : Outcome) → IsAt s outcome → IsAt s (after_text front outcome)
at-text s front (Goes progress text) h = h
at-text s front (Stops ending text) h = h

at-then : (s t : State) (outcome : Outcome) (next : Progress → Outcome) → IsAt s outcome
    → ((progress : Progress) → progress.state ≡ s → IsAt t (next progress)) → IsAt t (and_then outcome next)
at-then s t (Goes progress text) next h goes = at-text t text (next progress) (goes progress h)
at-then s t (Stops ending text) next h goes = absurd h

at-input : (s : State) (input : Input) (progress : Progress) → progress.state ≡ s → Accepts s input
    → IsAt (after_input s input) (on_input progress input)
at-input s input progress same accepted =
    let checked : IsAt (after_input progress.state input) (on_check progress input None) = refl in
    let told : Accepts progress.state input = subst (λ z. Accepts z input) (sym same) accepted in
    subst (λ z. IsAt (after_input z input) (on_input progress input)) same
    (subst (λ r. IsAt (after_input progress.state input) (on_check progress input r)) (sym told) checked)

at-any : (s : State) (input : Option Input) (progress : Progress) → progress.state ≡ s → AcceptsAny s input
    → IsAt (after_any input s) (on_any progress input)
at-any s None progress same accepted = same
at-any s (Some input) progress same accepted = at-input s input progress same accepted

at-reply : (i : ℕ) (s : State) (progress : Progress) → progress.state ≡ s → AcceptsAny s (next_reply (10 * i) i s)
    → IsAt (after_reply (10 * i) i s) (on_reply i progress)
at-reply i s progress same accepted =
    subst (λ z. IsAt (after_reply (10 * i) i s) (on_any progress (next_reply (10 * i) i z))) (sym same)
    (at-any s (next_reply (10 * i) i s) progress same accepted)

-- ## The inputs in order

module _ (n : ℕ) (h : AreAccepted n)
    (follow : (at i first more : ℕ) (s : State)
    → after_replies at i (first + more) s ≡ after_replies at i more (after_replies at i first s)) where
  at-event : (i : ℕ) (progress : Progress) → i < n → progress.state ≡ after_events n i registered
      → IsAt (after_events n (suc i) registered) (on_event n (suc i) progress)
  unfolding after_events
  at-event i progress below same =
      let s : State = after_events n i registered in
      let accepted : AcceptsEvent n (suc i) s = h.events i below in
      at-then (after_input s (drawn_event n (suc i)))
      (after_reply (10 * suc i) (suc i) (after_input s (drawn_event n (suc i))))
      (on_input progress (drawn_event n (suc i))) (on_reply (suc i))
      (at-input s (drawn_event n (suc i)) progress same accepted.event)
      (λ next k. at-reply (suc i) (after_input s (drawn_event n (suc i))) next k accepted.reply)

  at-events : (i : ℕ) (progress : Progress) → i ≤ n → progress.state ≡ registered
      → IsAt (after_events n i registered) (on_events n i progress)
  unfolding on_events after_events
  at-events zero progress below same = same
  at-events (suc i) progress below same =
      at-then (after_events n i registered) (after_events n (suc i) registered) (on_events n i progress)
      (on_event n (suc i)) (at-events i progress (omega arith) same)
      (λ next k. at-event i next (omega arith) k)

  one-more : (count : ℕ) (s : State)
      → after_replies (10 * n) n (suc count) s ≡ after_reply (10 * n) n (after_replies (10 * n) n count s)
  unfolding after_replies
  one-more count s =
      ap (λ m. after_replies (10 * n) n m s) (added count) ∙ follow (10 * n) n count 1 s
    where
      added : (m : ℕ) → suc m ≡ m + 1
      added m = omega arith

  at-replies : (count : ℕ) (progress : Progress) → progress.state ≡ after_events n n registered
      → IsAt (after_replies (10 * n) n count (after_events n n registered)) (on_replies n count progress)
  unfolding on_replies after_replies
  at-replies zero progress same = same
  at-replies (suc count) progress same =
      let all : State = after_events n n registered in
      let s : State = after_replies (10 * n) n count all in
      subst (λ z. IsAt z (on_replies n (suc count) progress)) (sym (one-more count all))
      (at-then s (after_reply (10 * n) n s) (on_replies n count progress) (on_reply n)
      (at-replies count progress same) (λ next k. at-reply n s next k (h.replies count)))

  at-end : IsAt (generated n) (on_generated n)
  at-end =
      at-then registered (generated n) (on_input (start Full) registration) (on_rest n)
      (at-input (start Full).state registration (start Full) refl h.registration_first)
      (λ progress k. at-then (after_events n n registered) (generated n) (on_events n n progress)
      (on_replies n (2 * n)) (at-events n progress (omega arith) k) (λ next m. at-replies (2 * n) next m))

-- ## The line

told-counts : (n : ℕ) (s : State) → HasEnded n s → (text : List ℕ) → generator_line n s text ≡ known_line n text
told-counts n s h text = rw (h.inputs, h.calls, h.runs, h.over) refl

told-line : (n : ℕ) (s : State) (outcome : Outcome) → IsAt s outcome → HasEnded n s
    → (text : List ℕ) × (summed_up n outcome ≡ record { text = known_line n text; ending = Finished })
told-line n s (Goes progress text) at ended = (
  text,
  ap (λ line. record { text = line; ending = Finished })
      (ap (λ z. generator_line n z text) at ∙ told-counts n s ended text),
)
told-line n s (Stops ending text) at ended = absurd at

pub known-line : (n : ℕ) → AreAccepted n
    → ((at i first more : ℕ) (s : State)
    → after_replies at i (first + more) s ≡ after_replies at i more (after_replies at i first s))
    → HasEnded n (generated n) → IsKnownLine n
known-line n h follow ended = told-line n (generated n) (on_generated n) (at-end n h follow) ended
