-- A run that has ended doesn't come back.
use Rattle.std.proofs.Common.{◌≡◌, ℕ, ◌+◌, ◌≤◌, ◌==◌, Bool, true, false, not, cond, List, [], ◌∷◌, filter, find, None, Some, option_map, refl, ap, ◌∙◌, arith}
use Rattle.std.proofs.lemmas.Bool.{cond-false}
use Rattle.std.proofs.lemmas.Bool.Decides.{nat_tests}
use Rattle.lists.proofs.Elements.{all-filter}
use Rattle.run_model.specs.Ends.{end_run, fail_run}
use Rattle.run_model.specs.Fit.{IsFit}
use Rattle.run_model.specs.Recording.{record_in}
use Rattle.run_model.specs.State.{State, Run, live_run}
use Rattle.kinds.specs.declared.store.RunStatus.TheVariants.{Failed}
use Rattle.run_model.proofs.Apart.{all-none, none-all}
use Rattle.run_model.proofs.FitRuns.{fit-found}
use Rattle.run_model.proofs.Kept.{IsLive}
use Rattle.run_model.proofs.KeptEvents.{ended-fail_run}
use Rattle.run_model.proofs.KeptRuns.{Holds, Stays, keeps-runs}
use Rattle.run_model.proofs.Recorded.{found-ended}
use Rattle.run_model.proofs.SettlingLists.{find-map}
use Rattle.machine.proofs.Found.{found-back}

abbrev IsGone : ℕ → ℕ → List Run → Type 0
IsGone number count rs = (number ≤ count) × (find (λ (r : Run). number == r.number) rs ≡ None)

same-number : (number : ℕ) (f : Run → Run) (r : Run) → (f r).number ≡ r.number → (b : Bool)
    → (number == (cond b (f r) r).number) ≡ (number == r.number)
same-number number f r same true = ap (λ n. number == n) same
same-number number f r same false = refl

later : (number count : ℕ) → number ≤ count → (number == count + 1) ≡ false
later number count low = grind (arith, nat_tests, low)

gone-stays : (number : ℕ) → Stays (IsGone number)
gone-stays number = record {
  changes = λ count other f rs grows h. (
    h.0,
    find-map (λ (r : Run). number == r.number) (λ (r : Run). cond (other == r.number) (f r) r) rs
        (λ r. same-number number f r (grows r).0 (other == r.number))
        ∙ ap (option_map (λ (r : Run). cond (other == r.number) (f r) r)) h.1,
  );
  adds = λ count r rs numbered h. (
    omega (arith, h.0),
    found-back (λ (q : Run). number == q.number) rs (r ∷ []) h.1
        ∙ cond-false (number == r.number) (Some r) None
        (ap (λ n. number == n) numbered ∙ later number count h.0),
  );
  ends = λ count other rs h. (
    h.0,
    all-none (λ (r : Run). number == r.number) (filter (λ (r : Run). not (other == r.number)) rs)
        (all-filter (λ (r : Run). (number == r.number) ≡ false) (λ (r : Run). not (other == r.number)) rs
        (none-all (λ (r : Run). number == r.number) rs h.1)),
  );
}

pub gone-failed : (r : Run) (error : List ℕ) (s : State) → IsLive r s → IsFit s
    → live_run r.number (fail_run r error s) ≡ None
gone-failed r error s live h =
    let gone : IsGone r.number s.runs (end_run r Failed s).live =
    ((fit-found r s live h).number, found-ended r.number s.live) in
    (ended-fail_run (Holds (IsGone r.number)) (keeps-runs (IsGone r.number) (gone-stays r.number)) r error s
    (record {
      ends = λ untold. gone;
      tells = λ p q result parent there waits. (gone-stays r.number).changes s.runs p.run (record_in p.hash result)
          (end_run r Failed s).live (λ x. (refl, (_, refl))) gone;
    })).1
