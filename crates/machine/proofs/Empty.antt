-- The machine before its first input is ready for it.
use Rattle.std.proofs.Common.{◌≡◌, ◌≢◌, ◌<◌, ◌≤◌, ◌-◌, ◌^◌, List, [], map, length, take, sym, ap, ◌∙◌, arith, subst}
use Rattle.std.specs.List.{AllByRecursion}
use Rattle.std.specs.List.Sorted.{IsStrictlySortedBy}
use Rattle.std.specs.Ordering.{nat_cmp}
use Rattle.kinds.specs.Moments.{last_moment}
use Rattle.kinds.specs.declared.limits.Limits.{Limits}
use Rattle.runs.proofs.Numbers.{rises_none}
use Rattle.runs.specs.Runs.{run_number}
use Rattle.run_model.specs.Fit.{HasOwnNumbers, IsFit}
use Rattle.run_model.specs.Sound.{ArePairwise}
use Rattle.run_model.specs.State.{State, Run, Issue, EndedRun, empty, kept}
use Rattle.run_model.proofs.Apart.{apart-fold}
use Rattle.run_model.proofs.FitSteps.{fit-empty}
use Rattle.machine.specs.Held.{IsClosing, IsHeld, IsReady}
use Rattle.machine.specs.Numbers.{nothing}
use Rattle.machine.specs.View.{state_of}
use Rattle.machine.specs.declared.loose.Loose.{Loose}
use Rattle.machine.specs.declared.parts.Parts.{Parts}

all-none : {X : Type 0} (P : X → Type 0) (xs : List X) → xs ≡ [] → AllByRecursion P xs
all-none P xs none = subst (AllByRecursion P) (sym none) tt

held-empty : (m : Parts) (limits : Limits) → state_of m ≡ empty limits → m.admission.moment ≡ 0 → IsHeld m
held-empty m limits e start =
    let live : m.runs.live ≡ [] = ap (λ (s : State). s.live) e in
    let closing : m.runs.closing ≡ [] = ap (λ (s : State). s.closing) e in
    record {
      fit = subst IsFit (sym e) (fit-empty limits);
      wants = record {
        ordered = subst (λ (rs : List Run). IsStrictlySortedBy nat_cmp (map run_number rs)) (sym live) rises_none;
        noted = all-none _ m.runs.live live;
      };
      events = record { each = all-none _ m.texts.texts (ap (λ (s : State). s.texts) e) };
      versions = record { each = all-none _ m.versions.retired (ap (λ (s : State). s.retired) e) };
      ends = record {
        closing_open = all-none _ m.runs.closing closing;
        ended_open = subst (λ (es : List EndedRun).
            AllByRecursion (λ (x : EndedRun). IsClosing m.admission.issues m.loose.runs x.run)
            (take (length es - 1000) es)) (sym (ap (λ (s : State). s.ended) e)) tt;
        given = all-none _ m.ended (ap (λ (s : State). s.ended) e);
        once = all-none _ m.runs.live live;
        own_calls = subst (ArePairwise (λ (i later : Issue). i.call ≢ later.call))
            (sym (ap (λ (s : State). s.issues) e)) tt;
      };
      clock = subst (λ n. n ≤ last_moment) (sym start) (omega arith);
    }

pub ready-empty : (m : Parts) (limits : Limits) → state_of m ≡ empty limits → m.admission.moment ≡ 0
    → m.loose ≡ nothing → IsReady m
ready-empty m limits e start none = record {
  rest = record {
    held = held-empty m limits e start;
    loose = (
      ap (λ (l : Loose). l.runs) none,
      ap (λ (l : Loose). l.events) none,
      ap (λ (l : Loose). l.versions) none,
    );
    now = start ∙ sym (ap (λ (s : State). s.moment) e);
    weighed = subst (λ (s : State). kept s < 2 ^ 64) (sym e) (omega arith);
  };
  apart = subst HasOwnNumbers (sym e) (apart-fold limits []);
}
