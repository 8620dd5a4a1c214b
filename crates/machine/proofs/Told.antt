-- The parts after a run's parent was told of its end.
use Rattle.std.proofs.Common.{◌≡◌, ℕ, ◌≤◌, ◌==◌, not, List, Option, Some, filter, refl, sym, subst}
use Rattle.kinds.specs.Moments.{last_moment}
use Rattle.kinds.specs.declared.store.Parent.{Parent}
use Rattle.kinds.specs.declared.store.RunStatus.{RunStatus}
use Rattle.kinds.specs.declared.store.RunStatus.TheVariants.{Completed, Failed, Cancelled}
use Rattle.run_model.specs.Ends.{cancelled_result, is_invocation_of, tell_parent, without_invocation_of}
use Rattle.run_model.specs.Recording.{Discovery, at_the_end, data_result, error_result}
use Rattle.run_model.specs.State.{Run, Invocation, live_run}
use Rattle.run_model.specs.Fit.{IsRunFit}
use Rattle.run_model.proofs.FitRuns.{fit-invocations}
use Rattle.run_model.proofs.Members.{in-all, in-found}
use Rattle.machine.specs.Held.{Becomes, IsHeld}
use Rattle.machine.specs.View.{state_of}
use Rattle.machine.specs.Words.{cancel_at, complete_at, content_at, end_at, fail_at, parent_at, raise_by}
use Rattle.machine.specs.declared.parts.Parts.{Parts}
use Rattle.machine.proofs.EndWords.{cancels, completes, fails}
use Rattle.machine.proofs.HeldWords.{becomes-then}

pub held-forgotten : (m : Parts) (p : Parent) (invocations : List Invocation)
    → invocations ≡ filter (λ i. not (is_invocation_of p i)) m.invocations → IsHeld m
    → Becomes (without_invocation_of p (state_of m)) m (record m { invocations = invocations })
held-forgotten m p invocations left h =
    subst (λ is. Becomes (without_invocation_of p (state_of m)) m (record m { invocations = is })) (sym left)
    (record {
      state = refl;
      held = record {
        fit = fit-invocations (λ i. not (is_invocation_of p i)) (state_of m) h.fit;
        wants = h.wants;
        events = h.events;
        versions = h.versions;
        ends = h.ends;
        clock = h.clock;
      };
      clock = refl;
    })

-- ## The ways to end

-- a run ends, and its parent is told
pub told-after : (discovery : Discovery) (m ended new : Parts) (status : RunStatus) (found : Option Run)
    (parent : Option Parent) (text result : List ℕ) → parent ≡ parent_at found → text ≡ result
    → Becomes (end_at found status (state_of m)) m ended
    → Becomes (tell_parent discovery parent text (state_of ended)) ended new
    → Becomes (tell_parent discovery (parent_at found) result (end_at found status (state_of m))) m new
told-after discovery m ended new status found parent text result whose is a b =
    becomes-then (tell_parent discovery (parent_at found) result) (end_at found status (state_of m)) m ended new a
    (subst (λ p. Becomes (tell_parent discovery p result (state_of ended)) ended new) whose
    (subst (λ w. Becomes (tell_parent discovery parent w (state_of ended)) ended new) is b))

pub held-completed : (m ended new : Parts) (found : Option Run) (output : List ℕ) (parent : Option Parent)
    (text : List ℕ) → parent ≡ parent_at found → text ≡ data_result output
    → Becomes (end_at found Completed (state_of m)) m ended
    → Becomes (tell_parent at_the_end parent text (state_of ended)) ended new
    → Becomes (complete_at found output (state_of m)) m new
held-completed m ended new found output parent text whose is a b =
    subst (λ s. Becomes s m new) (completes found output (state_of m))
    (told-after at_the_end m ended new Completed found parent text (data_result output) whose is a b)

pub held-cancelled : (discovery : Discovery) (m ended new : Parts) (found : Option Run) (parent : Option Parent)
    (text : List ℕ) → parent ≡ parent_at found → text ≡ cancelled_result
    → Becomes (end_at found Cancelled (state_of m)) m ended
    → Becomes (tell_parent discovery parent text (state_of ended)) ended new
    → Becomes (cancel_at discovery found (state_of m)) m new
held-cancelled discovery m ended new found parent text whose is a b =
    subst (λ s. Becomes s m new) (cancels discovery found (state_of m))
    (told-after discovery m ended new Cancelled found parent text cancelled_result whose is a b)

pub held-failed : (m ended told new : Parts) (found : Option Run) (error : List ℕ) (content : Option (List ℕ))
    (parent : Option Parent) (text : List ℕ) → content ≡ content_at found error (state_of m)
    → parent ≡ parent_at found → text ≡ error_result error
    → Becomes (end_at found Failed (state_of m)) m ended
    → Becomes (tell_parent at_the_end parent text (state_of ended)) ended told
    → Becomes (raise_by content (state_of told)) told new → Becomes (fail_at found error (state_of m)) m new
held-failed m ended told new found error content parent text looked whose is a b c =
    subst (λ s. Becomes s m new) (fails found error (state_of m))
    (becomes-then (raise_by (content_at found error (state_of m)))
    (tell_parent at_the_end (parent_at found) (error_result error) (end_at found Failed (state_of m))) m told new
    (told-after at_the_end m ended told Failed found parent text (error_result error) whose is a b)
    (subst (λ o. Becomes (raise_by o (state_of told)) told new) looked c))

pub live-dated : (m : Parts) (run : ℕ) (r : Run) → live_run run (state_of m) ≡ Some r → IsHeld m
    → r.moment ≤ last_moment
live-dated m run r found h =
    (in-all (IsRunFit m.counts.runs m.counts.events m.counts.versions) r m.runs.live
    (in-found (λ (q : Run). run == q.number) m.runs.live r found) h.fit.live_fit).moment
