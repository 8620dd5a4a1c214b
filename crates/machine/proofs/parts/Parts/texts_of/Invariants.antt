use Rattle.std.proofs.Common.{◌≡◌, map, take, Bor, List, ℕ}
use Rattle.run_model.specs.Making.{text_or_none}
use Rattle.run_model.specs.State.{text_of}
use Rattle.machine.specs.View.{state_of}
use Rattle.machine.proofs.parts.Parts.texts_of.Given as goal

abbrev pub invariant-loop-event : goal.invariant-loop-event
invariant-loop-event l =
    map (λ (t : Bor (List ℕ)). t.now) l.texts.items
    ≡ map (λ n. text_or_none (text_of n (state_of l.self))) (take l.event-index l.events)
