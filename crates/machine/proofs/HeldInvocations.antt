-- The parts after a step invokes a function.
use Rattle.std.proofs.Common.{◌≡◌, ℕ, ◌+◌, ◌<◌, ◌≤◌, List, Option, refl, sym, arith, subst}
use Rattle.std.specs.List.{AllByRecursion}
use Rattle.awaited.specs.declared.entries.Invocation.{Invocation}
use Rattle.kinds.specs.declared.reply.Time.{Time}
use Rattle.lists.proofs.Elements.{all-last}
use Rattle.run_model.specs.Fit.{IsFit}
use Rattle.run_model.specs.State.{State}
use Rattle.run_model.proofs.FitCounts.{fit-entries, fit-times}
use Rattle.machine.specs.Held.{Becomes, IsHeld}
use Rattle.machine.specs.Operations.{await_child}
use Rattle.machine.specs.View.{state_of}
use Rattle.machine.specs.declared.counts.Counts.{Counts}
use Rattle.machine.specs.declared.parts.Parts.{Parts}
use Rattle.machine.proofs.HeldOperations.{below-next}

pub invocations-below : (m : Parts) (n : ℕ) → n ≡ m.counts.entries + 1 → IsHeld m
    → AllByRecursion (λ (e : Invocation). e.number < n) m.invocations
invocations-below m n same h =
    subst (λ k. AllByRecursion (λ (e : Invocation). e.number < k) m.invocations) (sym same)
    (below-next (λ (e : Invocation). e.number) m.counts.entries m.invocations h.fit.times_fit.invocation_numbers)

fit-awaited : (run : ℕ) (name : List ℕ) (child : ℕ) (t : Option Time) (s : State) → IsFit s
    → IsFit (await_child run name child t s)
fit-awaited run name child t s h =
    let fits : IsFit (record s { entries = s.entries + 1 }) = fit-entries s h in
    fit-times s.sleeps (await_child run name child t s).invocations (record s { entries = s.entries + 1 })
    (record {
      sleep_numbers = fits.times_fit.sleep_numbers;
      invocation_numbers = all-last (λ (e : Invocation). e.number ≤ s.entries + 1) s.invocations _
          fits.times_fit.invocation_numbers (omega arith);
    }) fits

pub held-awaited : (m : Parts) (run : ℕ) (name : List ℕ) (child : ℕ) (t : Option Time) (counts : Counts)
    (invocations : List Invocation) → counts ≡ record m.counts { entries = m.counts.entries + 1 }
    → invocations ≡ (await_child run name child t (state_of m)).invocations → IsHeld m
    → Becomes (await_child run name child t (state_of m)) m (record m { counts = counts; invocations = invocations })
held-awaited m run name child t counts invocations counted added h =
    let s = await_child run name child t (state_of m) in
    subst (λ (c : Counts). Becomes s m (record m { counts = c; invocations = invocations })) (sym counted)
    (subst (λ (es : List Invocation). Becomes s m
    (record m { counts = record m.counts { entries = m.counts.entries + 1 }; invocations = es })) (sym added)
    (record {
      state = refl;
      held = record {
        fit = fit-awaited run name child t (state_of m) h.fit;
        wants = h.wants;
        events = h.events;
        versions = h.versions;
        ends = h.ends;
        clock = h.clock;
      };
      clock = refl;
    }))
