-- The parts after a run records, or is to find out what comes next.
use Rattle.std.proofs.Common.{◌≡◌, ℕ, Bool, true, false, cond, List, refl, sym, ap, ◌∙◌, subst}
use Rattle.admission.specs.Admission.{Admission}
use Rattle.runs.specs.Changes.{changed, is_pending_in, record_in, want}
use Rattle.runs.specs.Runs.{Run, RunLists, run_at}
use Rattle.run_model.specs.Recording.{change_run, record_result, wake_step, without_item}
use Rattle.run_model.specs.State.{State}
use Rattle.run_model.proofs.FitRuns.{fit-record_result, fit-wanted}
use Rattle.machine.specs.Held.{Becomes, IsHeld}
use Rattle.machine.specs.Numbers.{IsJoined}
use Rattle.machine.specs.View.{state_of}
use Rattle.machine.specs.declared.parts.Parts.{Parts}
use Rattle.machine.proofs.Changed.{KeepsNames, ends-changed, events-changed, versions-changed, wants-changed, wants-noted}

pub keeps-record : (name result : List ℕ) → KeepsNames (record_in name result)
keeps-record name result = record { number = λ r. refl; events = λ r. refl; version = λ r. refl }

pub keeps-want : KeepsNames want
keeps-want = record { number = λ r. refl; events = λ r. refl; version = λ r. refl }

-- the runs by their two lists
pub as-lists : (rs : RunLists) (live closing : List Run) → rs.live ≡ live → rs.closing ≡ closing
    → rs ≡ record { live = live; closing = closing }
as-lists rs live closing a b =
    subst (λ l. rs ≡ record { live = l; closing = closing }) a
    (subst (λ c. rs ≡ record { live = rs.live; closing = c }) b refl)

held-recorded : (m : Parts) (run : ℕ) (name result wanting : List ℕ) → IsJoined run m.wanting wanting → IsHeld m
    → Becomes (record_result run name result (state_of m)) m
    (record m {
      admission = record m.admission { items = without_item run name m.admission.items };
      runs = record { live = changed run (record_in name result) m.runs.live; closing = m.runs.closing };
      wanting = wanting;
    })
held-recorded m run name result wanting joined h =
    let f = record_in name result in
    let keeps = keeps-record name result in
    record {
      state = refl;
      held = record {
        fit = fit-record_result run name result (state_of m) h.fit;
        wants = wants-changed run name f m.runs.live m.admission.items m.admission.issues m.wanting wanting keeps
            joined h.wants;
        events = events-changed run f keeps m.runs.live m.runs.closing m.windows m.texts.texts m.texts.counted
            m.loose.events h.events;
        versions = versions-changed run f keeps m.runs.live m.runs.closing m.windows m.versions.retired
            m.loose.versions h.versions;
        ends = ends-changed run f keeps m.counts.runs m.runs.live m.runs.closing m.ended m.admission.issues
            m.loose.runs h.ends;
        clock = h.clock;
      };
      clock = refl;
    }

pub held-record : (m : Parts) (run : ℕ) (name result wanting : List ℕ) (a : Admission) (rs : RunLists)
    → a ≡ record m.admission { items = without_item run name m.admission.items }
    → rs.live ≡ changed run (record_in name result) m.runs.live → rs.closing ≡ m.runs.closing
    → IsJoined run m.wanting wanting → IsHeld m
    → Becomes (record_result run name result (state_of m)) m
    (record m { admission = a; runs = rs; wanting = wanting })
held-record m run name result wanting a rs items live closing joined h =
    subst (λ (b : Admission). Becomes (record_result run name result (state_of m)) m
    (record m { admission = b; runs = rs; wanting = wanting })) (sym items)
    (subst (λ (l : RunLists). Becomes (record_result run name result (state_of m)) m
    (record m {
      admission = record m.admission { items = without_item run name m.admission.items };
      runs = l;
      wanting = wanting;
    })) (sym (as-lists rs (changed run (record_in name result) m.runs.live) m.runs.closing live closing))
    (held-recorded m run name result wanting joined h))

held-wanted : (m : Parts) (run : ℕ) (wanting : List ℕ) → IsJoined run m.wanting wanting → IsHeld m
    → Becomes (change_run run want (state_of m)) m
    (record m { runs = record { live = changed run want m.runs.live; closing = m.runs.closing }; wanting = wanting })
held-wanted m run wanting joined h =
    record {
      state = refl;
      held = record {
        fit = fit-wanted run (state_of m) h.fit;
        wants = wants-noted run want m.runs.live m.admission.items m.admission.issues m.wanting wanting keeps-want
            joined h.wants;
        events = events-changed run want keeps-want m.runs.live m.runs.closing m.windows m.texts.texts
            m.texts.counted m.loose.events h.events;
        versions = versions-changed run want keeps-want m.runs.live m.runs.closing m.windows m.versions.retired
            m.loose.versions h.versions;
        ends = ends-changed run want keeps-want m.counts.runs m.runs.live m.runs.closing m.ended
            m.admission.issues m.loose.runs h.ends;
        clock = h.clock;
      };
      clock = refl;
    }

pub held-want : (m : Parts) (run : ℕ) (wanting : List ℕ) (rs : RunLists)
    → rs.live ≡ changed run want m.runs.live → rs.closing ≡ m.runs.closing → IsJoined run m.wanting wanting
    → IsHeld m → Becomes (change_run run want (state_of m)) m (record m { runs = rs; wanting = wanting })
held-want m run wanting rs live closing joined h =
    subst (λ (l : RunLists). Becomes (change_run run want (state_of m)) m (record m { runs = l; wanting = wanting }))
    (sym (as-lists rs (changed run want m.runs.live) m.runs.closing live closing))
    (held-wanted m run wanting joined h)

-- ## What was awaited

pub held-wake : (m : Parts) (run : ℕ) (name result wanting : List ℕ) (a : Admission) (rs : RunLists) (woken : Bool)
    → woken ≡ true → woken ≡ is_pending_in name (run_at run m.runs.live)
    → rs.live ≡ cond woken (changed run (record_in name result) m.runs.live) m.runs.live
    → rs.closing ≡ m.runs.closing
    → a ≡ record m.admission { items = without_item run name m.admission.items }
    → IsJoined run m.wanting wanting → IsHeld m
    → Becomes (wake_step run name result (state_of m)) m (record m { admission = a; runs = rs; wanting = wanting })
held-wake m run name result wanting a rs woken is told live closing items joined h =
    let n : Parts = record m { admission = a; runs = rs; wanting = wanting } in
    let s : State = state_of m in
    subst (λ b. Becomes (elim b as (λ _. State) [ true ↦ record_result run name result s | false ↦ s ]) m n)
    (sym is ∙ told)
    (held-record m run name result wanting a rs items
    (live ∙ ap (λ b. cond b (changed run (record_in name result) m.runs.live) m.runs.live) is) closing joined h)
