-- What was tidied stays as it is: after a step nothing is left that goes at its end.
use Rattle.std.proofs.Common.{◌≡◌, ℕ, ◌+◌, ◌-◌, ◌≤◌, Bool, true, false, cond, List, [], ◌∷◌, ◌++◌, filter, take, drop, length, map, min, None, refl, ap, ap₂, ◌∙◌, arith, length-append, length-drop, length-take}
use Rattle.std.specs.List.{AllByRecursion}
use lib.Seq.{drop-append_seam, take-append_seam}
use Rattle.kinds.specs.Inputs.{reading}
use Rattle.kinds.specs.Queue.{least}
use Rattle.kinds.specs.declared.input.Input.{Input}
use Rattle.kinds.specs.declared.limits.Limits.{Limits}
use Rattle.kinds.specs.declared.out.Out.{Out}
use Rattle.kinds.specs.declared.out.Out.TheVariants.{Hang}
use Rattle.lists.proofs.Elements.{filter-passes}
use Rattle.run_model.specs.Advance.{Advanced, advance}
use Rattle.run_model.specs.Laws.{OnlyTimePasses}
use Rattle.run_model.specs.Machine.{Stepped, act, count_input, fold, settled_after, state_after, step}
use Rattle.run_model.specs.Settle.{next_issued, settle}
use Rattle.run_model.specs.State.{State, Run, EndedRun, empty, has_open_call, is_named, is_version_named, last_or, moment_at, tidied, without_closed, without_unnamed}
use Rattle.run_model.proofs.SettlingRests.{rests-step}
use Rattle.run_model.proofs.WaitingSteps.{waits-step}

-- ## Lists that were filtered

pub filter-all : {X : Type 0} (p : X → Bool) (xs : List X) → AllByRecursion (λ x. p x ≡ true) xs
    → filter p xs ≡ xs
filter-all p [] h = refl
filter-all p (x ∷ xs) h = rw h.0 (ap (λ ys. x ∷ ys) (filter-all p xs h.1))

pub filter-again : {X : Type 0} (p : X → Bool) (xs : List X) → filter p (filter p xs) ≡ filter p xs
filter-again p xs = filter-all p (filter p xs) (filter-passes p xs)

-- what is in front of so many is taken, and what is behind is left
pub take-front : {X : Type 0} (xs ys : List X) (n : ℕ) → n ≡ length xs → take n (xs ++ ys) ≡ xs
take-front xs ys n e = rw e (take-append_seam xs ys)

pub drop-front : {X : Type 0} (xs ys : List X) (n : ℕ) → n ≡ length xs → drop n (xs ++ ys) ≡ ys
drop-front xs ys n e = rw e (drop-append_seam xs ys)

pub length-filtered : {X : Type 0} (p : X → Bool) (xs : List X) → length (filter p xs) ≤ length xs
length-filtered p [] = omega arith
length-filtered p (x ∷ xs) = by_test (p x) (length-filtered p xs)
  where
    by_test : (b : Bool) → length (filter p xs) ≤ length xs
        → length (cond b (x ∷ filter p xs) (filter p xs)) ≤ length (x ∷ xs)
    by_test true more = omega (arith, more)
    by_test false more = omega (arith, more)

-- so many more than the most are in front
pub front-of : {X : Type 0} (p : X → Bool) (most : ℕ) (xs : List X)
    → length (last_or p most xs) - most ≡ length (filter p (take (length xs - most) xs))
front-of {X = X} p most xs =
    let n : ℕ = length xs - most in
    let a : List X = filter p (take n xs) in
    let whole = length-append a (drop n xs) in
    let behind = length-drop n xs in
    let taken = length-take n xs in
    let few = length-filtered p (take n xs) in
    ap (λ m. m - most) whole ∙ counted (length xs) most (length a) (length (drop n xs)) behind
    (within (length a) (length (take n xs)) n (length xs) few taken)
  where
    within : (a taken n all : ℕ) → a ≤ taken → taken ≡ min n all → a ≤ n
    within a taken n all few same = grind (arith, few, same)

    counted : (all most a behind : ℕ) → behind ≡ all - (all - most) → a ≤ all - most
        → a + behind - most ≡ a
    counted all most a behind same few = omega (arith, same, few)

last-again : {X : Type 0} (p : X → Bool) (most : ℕ) (xs : List X)
    → last_or p most (last_or p most xs) ≡ last_or p most xs
last-again {X = X} p most xs =
    let n : ℕ = length xs - most in
    let a : List X = filter p (take n xs) in
    let b : List X = drop n xs in
    let k : ℕ = length (last_or p most xs) - most in
    ap₂ (λ front back. front ++ back)
    (ap (filter p) (take-front a b k (front-of p most xs)) ∙ filter-again p (take n xs))
    (drop-front a b k (front-of p most xs))

-- ## A state

closed-again : (s : State) → without_closed (tidied s) ≡ tidied s
unfolding tidied
closed-again s =
    let t : State = without_unnamed (without_closed s) in
    ap₂ (λ closing ended. record t { closing = closing; ended = ended })
    (filter-again (λ (r : Run). has_open_call s.issues r.number) s.closing)
    (last-again (λ (e : EndedRun). has_open_call s.issues e.run) 1000 s.ended)

unnamed-again : (s : State) → without_unnamed (without_unnamed s) ≡ without_unnamed s
unnamed-again s =
    let t : State = without_unnamed s in
    ap₂ (λ texts retired. record t { texts = texts; retired = retired })
    (filter-again (is_named s) s.texts) (filter-again (is_version_named s) s.retired)

pub tidied-again : (s : State) → tidied (tidied s) ≡ tidied s
unfolding tidied
tidied-again s = ap without_unnamed (closed-again s) ∙ unnamed-again (without_closed s)

tidied-after : (before : List Out) (acted : Stepped)
    → tidied (settled_after before acted).state ≡ (settled_after before acted).state
tidied-after before acted = tidied-again (settle (record { state = acted.state; outs = [] })).state

pub tidied-step : (s : State) (input : Input) → tidied (step s input).state ≡ (step s input).state
unfolding step
tidied-step s input =
    let a : Advanced = advance (moment_at (reading input) s) (count_input s) in
    tidied-after (map (λ call. Hang call) a.hangs) (act input a.state)

-- ## States that are reached

-- nothing may be issued, and nothing is left that goes at the end of a step
record IsAtRest (s : State) : Type 0 where
  rests : next_issued s ≡ None
  tidy : tidied s ≡ s

rests-empty : (limits : Limits) → IsAtRest (empty limits)
unfolding tidied least
rests-empty limits = record { rests = refl; tidy = refl }

rests-after : (s : State) (input : Input) → IsAtRest (step s input).state
rests-after s input = record { rests = rests-step s input; tidy = tidied-step s input }

rests-state_after : (inputs : List Input) (s : State) → IsAtRest s → IsAtRest (state_after s inputs)
rests-state_after [] s h = h
rests-state_after (input ∷ inputs) s h =
    rests-state_after inputs (step s input).state (rests-after s input)

pub waits-fold : (limits : Limits) (inputs : List Input) (at : ℕ) → OnlyTimePasses (fold limits inputs) at
waits-fold limits inputs at before =
    let h : IsAtRest (fold limits inputs) = rests-state_after inputs (empty limits) (rests-empty limits) in
    waits-step (fold limits inputs) at h.rests h.tidy before

pub tidied-fold : (limits : Limits) (inputs : List Input) → tidied (fold limits inputs) ≡ fold limits inputs
tidied-fold limits inputs = (rests-state_after inputs (empty limits) (rests-empty limits)).tidy
