-- The two properties that the three ways of change keep: numbers are counted, and what a run recorded stays.
use Rattle.std.proofs.Common.{◌≡◌, ℕ, ◌+◌, ◌≤◌, ◌==◌, Bool, true, false, not, cond, List, [], ◌∷◌, ◌++◌, filter, find, Option, Some, None, IfSome, refl, sym, ap, ◌∙◌, subst, append_assoc, arith, eqb-true}
use Rattle.std.specs.List.{AllByRecursion}
use Rattle.std.specs.Option.{option_map}
use Rattle.lists.proofs.Elements.{all-filter, all-last, all-weaker}
use Rattle.kinds.specs.RunSteps.{has_name, result_of}
use Rattle.kinds.specs.declared.input.Input.{Input}
use Rattle.kinds.specs.declared.limits.Limits.{Limits}
use Rattle.kinds.specs.declared.store.StepEntry.{StepEntry}
use Rattle.run_model.specs.Laws.{AreCounted, Follows}
use Rattle.run_model.specs.Machine.{fold, state_after, step}
use Rattle.run_model.specs.Recording.{changed}
use Rattle.run_model.specs.State.{State, Run, empty, live_run}
use Rattle.run_model.proofs.KeptRuns.{Grows, Stays, follows-same, stays-after, stays-step}

-- ## Numbers

abbrev Counted : ℕ → List Run → Type 0
Counted count rs = AllByRecursion (λ (r : Run). r.number ≤ count) rs

counted-changed : (count number : ℕ) (f : Run → Run) (rs : List Run) → Grows f → Counted count rs
    → Counted count (changed number f rs)
counted-changed count number f [] grows h = h
counted-changed count number f (r ∷ rs) grows h =
    let one : (cond (number == r.number) (f r) r).number ≤ count =
    elim (number == r.number) as (λ b. (cond b (f r) r).number ≤ count)
    [ true ↦ subst (λ (n : ℕ). n ≤ count) (sym (grows r).0) h.0 | false ↦ h.0 ] in
    (one, counted-changed count number f rs grows h.1)

counted-last : (count : ℕ) (r : Run) (rs : List Run) → r.number ≡ count + 1 → Counted count rs
    → Counted (count + 1) (rs ++ r ∷ [])
counted-last count r rs numbered h =
    all-last (λ (r : Run). r.number ≤ count + 1) rs r
    (all-weaker (λ (r : Run). r.number ≤ count) (λ (r : Run). r.number ≤ count + 1) rs
    (λ (other : Run) (low : other.number ≤ count). omega (arith, low)) h) (omega (arith, numbered))

pub stays-counted : Stays Counted
stays-counted = record {
  changes = counted-changed;
  adds = counted-last;
  ends = λ count number rs h.
      all-filter (λ (r : Run). r.number ≤ count) (λ (r : Run). not (number == r.number)) rs h;
}

-- ## One run

abbrev found : ℕ → List Run → Option Run
found number rs = find (λ (r : Run). number == r.number) rs

abbrev HasFront : List StepEntry → Run → Type 0
HasFront before r = Follows before r.steps.recorded

-- a run that is found recorded these steps first
abbrev Begins : List StepEntry → Option Run → Type 0
Begins before o = IfSome o (HasFront before)

-- where a run of this number has not ended, it recorded these steps first; the number was given
abbrev Recorded : ℕ → List StepEntry → ℕ → List Run → Type 0
Recorded number before count rs = (number ≤ count) × Begins before (found number rs)

follows-on : (a b c : List StepEntry) → Follows a b → Follows b c → Follows a c
follows-on a b c h k =
    (h.0 ++ k.0, k.1 ∙ ap (λ (es : List StepEntry). es ++ k.0) h.1 ∙ append_assoc a h.0 k.0)

recorded-changed : (number : ℕ) (before : List StepEntry) (other : ℕ) (f : Run → Run) (rs : List Run)
    → Grows f
    → Begins before (found number rs)
    → Begins before (found number (changed other f rs))
recorded-changed number before other f [] grows h = h
recorded-changed number before other f (r ∷ rs) grows h =
    let rest : Begins before (found number rs) → Begins before (found number (changed other f rs)) =
    recorded-changed number before other f rs grows in
    let grown : Begins before (cond (number == (f r).number) (Some (f r)) (found number (changed other f rs))) =
    subst (λ (n : ℕ). Begins before (cond (number == n) (Some (f r)) (found number (changed other f rs))))
    (sym (grows r).0)
    ((elim (number == r.number) as (λ b. Begins before (cond b (Some r) (found number rs))
    → Begins before (cond b (Some (f r)) (found number (changed other f rs)))) [
      | true ↦ λ k. follows-on before r.steps.recorded (f r).steps.recorded k (grows r).1
      | false ↦ rest
    ]) h) in
    let same : Begins before (cond (number == r.number) (Some r) (found number (changed other f rs))) =
    (elim (number == r.number) as (λ b. Begins before (cond b (Some r) (found number rs))
    → Begins before (cond b (Some r) (found number (changed other f rs))))
    [ true ↦ λ k. k | false ↦ rest ]) h in
    elim (other == r.number) as (λ b. Begins before
    (cond (number == (cond b (f r) r).number) (Some (cond b (f r) r))
    (found number (changed other f rs)))) [ true ↦ grown | false ↦ same ]

is_low : (number count : ℕ) → number ≤ count → (number == count + 1) ≡ true → ⊥
is_low number count low same = omega (arith, low, eqb-true number (count + 1) same)

recorded-last : (number : ℕ) (before : List StepEntry) (r : Run) (rs : List Run)
    → ((number == r.number) ≡ true → ⊥)
    → Begins before (found number rs) → Begins before (found number (rs ++ r ∷ []))
recorded-last number before r [] differs h =
    (elim (number == r.number) as (λ b. ((b ≡ true) → ⊥) → Begins before (cond b (Some r) None))
    [ true ↦ λ no. absurd (no refl) | false ↦ λ no. tt ]) differs
recorded-last number before r (first ∷ rs) differs h =
    (elim (number == first.number) as (λ b. Begins before (cond b (Some first) (found number rs))
    → Begins before (cond b (Some first) (found number (rs ++ r ∷ []))))
    [ true ↦ λ k. k | false ↦ recorded-last number before r rs differs ]) h

-- no run of the number that ends is left
pub found-ended : (number : ℕ) (rs : List Run)
    → found number (filter (λ (r : Run). not (number == r.number)) rs) ≡ None
found-ended number [] = refl
found-ended number (r ∷ rs) =
    let others : List Run = filter (λ (other : Run). not (number == other.number)) rs in
    (elim (number == r.number) as (λ b. (number == r.number) ≡ b
    → found number (cond (not b) (r ∷ others) others) ≡ None) [
      | true ↦ λ same. found-ended number rs
      | false ↦ λ differs.
          ap (λ (b : Bool). cond b (Some r) (found number others)) differs ∙ found-ended number rs
    ]) refl

-- the end of a run, this or another, leaves it so
recorded-ended : (number : ℕ) (before : List StepEntry) (ended : ℕ) (rs : List Run)
    → Begins before (found number rs)
    → Begins before (found number (filter (λ (r : Run). not (ended == r.number)) rs))
recorded-ended number before ended [] h = h
recorded-ended number before ended (r ∷ rs) h =
    let others : List Run = filter (λ (other : Run). not (ended == other.number)) rs in
    let rest : Begins before (found number rs) → Begins before (found number others) =
    recorded-ended number before ended rs in
    let own : number ≡ ended → Begins before (found number others) =
    λ same.
    subst (λ (n : ℕ). Begins before (found number (filter (λ (other : Run). not (n == other.number)) rs)))
    same (subst (λ (o : Option Run). Begins before o) (sym (found-ended number rs)) tt) in
    (elim (ended == r.number) as (λ b. (ended == r.number) ≡ b
    → Begins before (found number (cond (not b) (r ∷ others) others))) [
      | true ↦ λ ends. (elim (number == r.number) as (λ b. (number == r.number) ≡ b
          → Begins before (cond b (Some r) (found number rs)) → Begins before (found number others)) [
            | true ↦ λ same k. own (eqb-true number r.number same ∙ sym (eqb-true ended r.number ends))
            | false ↦ λ differs. rest
          ]) refl h
      | false ↦ λ stays. (elim (number == r.number) as (λ b. Begins before (cond b (Some r) (found number rs))
          → Begins before (cond b (Some r) (found number others)))
          [ true ↦ λ k. k | false ↦ rest ]) h
    ]) refl

stays-recorded : (number : ℕ) (before : List StepEntry) → Stays (Recorded number before)
stays-recorded number before = record {
  changes = λ count other f rs grows h. (h.0, recorded-changed number before other f rs grows h.1);
  adds = λ count r rs numbered h. (
    omega (arith, h.0),
    recorded-last number before r rs
        (λ (same : (number == r.number) ≡ true). is_low number count h.0
        (subst (λ (n : ℕ). (number == n) ≡ true) numbered same)) h.1,
  );
  ends = λ count ended rs h. (h.0, recorded-ended number before ended rs h.1);
}

-- ## From a state on

found-counted : (count number : ℕ) (rs : List Run) → Counted count rs
    → IfSome (found number rs) (λ _. number ≤ count)
found-counted count number [] h = tt
found-counted count number (r ∷ rs) h =
    (elim (number == r.number) as (λ b. (number == r.number) ≡ b
    → IfSome (cond b (Some r) (found number rs)) (λ _. number ≤ count)) [
      | true ↦ λ same. subst (λ (n : ℕ). n ≤ count) (sym (eqb-true number r.number same)) h.0
      | false ↦ λ differs. found-counted count number rs h.1
    ]) refl

recorded-here : (s : State) → AreCounted s → (number : ℕ) (before : Run) → live_run number s ≡ Some before
    → Recorded number before.steps.recorded s.runs s.live
recorded-here s counted number before here = (
  subst (λ (o : Option Run). IfSome o (λ _. number ≤ s.runs)) here (found-counted s.runs number s.live counted),
  subst (λ (o : Option Run). Begins before.steps.recorded o) (sym here)
      (follows-same before.steps.recorded),
)

pub counted-step : (s : State) (input : Input) → AreCounted s → AreCounted (step s input).state
counted-step s input h = stays-step Counted stays-counted s input h

pub counted-fold : (limits : Limits) (inputs : List Input) → AreCounted (fold limits inputs)
counted-fold limits inputs = stays-after Counted stays-counted inputs (empty limits) tt

pub recorded-step : (s : State) (input : Input) → AreCounted s → (number : ℕ) (before after : Run)
    → live_run number s ≡ Some before → live_run number (step s input).state ≡ Some after
    → Follows before.steps.recorded after.steps.recorded
recorded-step s input counted number before after here there =
    let first : List StepEntry = before.steps.recorded in
    subst (λ (o : Option Run). Begins first o) there
    (stays-step (Recorded number first) (stays-recorded number first) s input
    (recorded-here s counted number before here)).1

-- ## Over inputs

after-more : (s : State) (inputs more : List Input)
    → state_after s (inputs ++ more) ≡ state_after (state_after s inputs) more
after-more s [] more = refl
after-more s (input ∷ inputs) more = after-more (step s input).state inputs more

recorded-after : (s : State) (inputs : List Input) → AreCounted s → (number : ℕ) (before after : Run)
    → live_run number s ≡ Some before → live_run number (state_after s inputs) ≡ Some after
    → Follows before.steps.recorded after.steps.recorded
recorded-after s inputs counted number before after here there =
    let first : List StepEntry = before.steps.recorded in
    subst (λ (o : Option Run). Begins first o) there
    (stays-after (Recorded number first) (stays-recorded number first) inputs s
    (recorded-here s counted number before here)).1

abbrev result : StepEntry → List ℕ
result e = e.result

abbrev text_in : List ℕ → List StepEntry → Option (List ℕ)
text_in name es = option_map result (find (has_name name) es)

-- the first of a name stays the first
text-stays : (name text : List ℕ) (es more : List StepEntry) → text_in name es ≡ Some text
    → text_in name (es ++ more) ≡ Some text
text-stays name text [] more h = absurd (let no : None ≡ Some text = h in cc)
text-stays name text (e ∷ es) more h =
    (elim (has_name name e) as (λ b. option_map result (cond b (Some e) (find (has_name name) es)) ≡ Some text
    → option_map result (cond b (Some e) (find (has_name name) (es ++ more))) ≡ Some text)
    [ true ↦ λ k. k | false ↦ text-stays name text es more ]) h

pub steps-stay : (limits : Limits) (inputs more : List Input) (number : ℕ) (before after : Run)
    → live_run number (fold limits inputs) ≡ Some before
    → live_run number (fold limits (inputs ++ more)) ≡ Some after
    → (name text : List ℕ) → result_of name before.steps ≡ Some text → result_of name after.steps ≡ Some text
steps-stay limits inputs more number before after here there name text h =
    let s : State = fold limits inputs in
    let later : live_run number (state_after s more) ≡ Some after =
    subst (λ (t : State). live_run number t ≡ Some after) (after-more (empty limits) inputs more) there in
    let follows : Follows before.steps.recorded after.steps.recorded =
    recorded-after s more (counted-fold limits inputs) number before after here later in
    subst (λ (es : List StepEntry). text_in name es ≡ Some text) (sym follows.1)
    (text-stays name text before.steps.recorded follows.0 h)
