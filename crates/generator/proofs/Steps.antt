-- A step of the machine on such a state: nothing is due before it, then its input acts, and calls are made.
use Rattle.std.proofs.Common.{◌≡◌, ℕ, zero, suc, ◌+◌, ◌<◌, ◌≤◌, true, false, cond, List, [], ◌∷◌, map, length, min, max, nat_le, Option, Some, None, IfSome, refl, sym, ap, subst, ◌∙◌, arith}
use Rattle.std.proofs.lemmas.Bool.Decides.{nat_tests}
use Rattle.std.specs.List.{AllByRecursion}
use Rattle.kinds.specs.Inputs.{reading}
use Rattle.kinds.specs.Moments.{last_moment}
use Rattle.kinds.specs.declared.input.Input.{Input}
use Rattle.kinds.specs.declared.store.Item.{Item}
use Rattle.lists.proofs.Elements.{all-weaker}
use Rattle.run_model.specs.Advance.{Advanced, Next, call_limit, advance, arrived, comes_before, due_by, earlier, fire_by, fired, least, most, timed, within}
use Rattle.run_model.specs.Machine.{act, acted_after, count_input, step}
use Rattle.run_model.specs.Settle.{Settled, issue_found, issue_of, item_at, next_issued, settle, settle_by}
use Rattle.run_model.specs.State.{State, Run, Issue, at_moment, live_run, moment_at, tidied}
use Rattle.run_model.proofs.SettlingRests.{rests-step}
use Rattle.generator.proofs.Standing.{IsIssue, Stands, plain, stands-issued, stands-later, stands-tidied}

-- ## Nothing is due

-- what is found is due after a moment
abbrev IsAfter : ℕ → Option Next → Type 0
IsAfter t found = IfSome found (λ next. t < next.due)

after-earlier : (t : ℕ) (a : Next) (found : Option Next) → t < a.due → IsAfter t found
    → IsAfter t (earlier a found)
after-earlier t a None h k = h
after-earlier t a (Some b) h k =
    elim (comes_before b a) as (λ c. IsAfter t (cond c (Some b) (Some a))) [ true ↦ k | false ↦ h ]

least-after : (t : ℕ) (issues : List Issue) → AllByRecursion (λ (i : Issue). t < i.due) issues
    → IsAfter t (least (map call_limit issues))
unfolding least
least-after t [] h = tt
least-after t (i ∷ is) h =
    after-earlier t (record { due = i.due; entry = call_limit i }) (least (map call_limit is)) h.0
    (least-after t is h.1)

none-within : (t : ℕ) (found : Option Next) → IsAfter t found → within t found ≡ None
none-within t None h = refl
none-within t (Some next) h = rw (late next.due h) refl
  where
    late : (due : ℕ) → t < due → nat_le due t ≡ false
    late due l = grind (arith, nat_tests, l)

timed-plain : (s : State) → timed (plain s) ≡ map call_limit s.issues
unfolding timed
timed-plain s = refl

none-due : (t : ℕ) (s : State) → s ≡ plain s → AllByRecursion (λ (i : Issue). t < i.due) s.issues
    → due_by t s ≡ None
none-due t s same h =
    none-within t (least (timed s))
    (subst (λ es. IsAfter t (least es)) (sym (ap timed same ∙ timed-plain s)) (least-after t s.issues h))

none-fired : (n t : ℕ) (a : Advanced) → due_by t a.state ≡ None → fire_by n t a ≡ a
unfolding fire_by
none-fired zero t a e = refl
none-fired (suc n) t a e =
    ap (λ o. elim o as (λ _. Advanced) [ None ↦ a | Some next ↦ fire_by n t (fired next a) ]) e

pub only-later : (t : ℕ) (s : State) → s ≡ plain s → AllByRecursion (λ (i : Issue). t < i.due) s.issues
    → advance t s ≡ record { state = at_moment t s; hangs = [] }
unfolding advance
only-later t s same h =
    ap (arrived t) (none-fired most t (record { state = s; hangs = [] }) (none-due t s same h))

-- ## Calls are made

module _ (n e r c : ℕ) where
  abbrev Stays : State → Type 0
  Stays s = Stands n e r c None s

  stays-issued : (number : ℕ) (run : Option Run) (i : Item) (a : Settled) → item_at number a.state ≡ Some i
      → Stays a.state → Stays (issue_of run i a).state
  stays-issued number None i a there h = stands-issued n e r c number i a.state there h
  stays-issued number (Some x) i a there h = stands-issued n e r c number i a.state there h

  stays-found : (number : ℕ) (found : Option Item) (a : Settled) → item_at number a.state ≡ found
      → Stays a.state → Stays (issue_found found a).state
  stays-found number None a there h = h
  stays-found number (Some i) a there h = stays-issued number (live_run i.run a.state) i a there h

  stays-settled : (k : ℕ) (a : Settled) → Stays a.state → Stays (settle_by k a).state
  unfolding settle_by
  stays-settled zero a h = h
  stays-settled (suc k) a h =
      elim (next_issued a.state) as (λ o. Stays (elim o as (λ _. Settled)
      [ None ↦ a | Some number ↦ settle_by k (issue_found (item_at number a.state) a) ]).state) [
        | None ↦ h
        | Some number ↦ stays-settled k (issue_found (item_at number a.state) a)
            (stays-found number (item_at number a.state) a refl h)
      ]

  stays-tidied : (s : State) → Stays s → Stays (tidied (settle (record { state = s; outs = [] })).state)
  stays-tidied s h =
      let a : Settled = record { state = s; outs = [] } in
      stands-tidied n e r c (settle a).state (stays-settled (length s.items) a h)

-- ## A step

-- nothing more may be issued
pub record Rests (n e r c : ℕ) (s : State) : Type 0 where
  pub stands : Stands n e r c None s
  pub settled : next_issued s ≡ None

step-state : (s : State) (input : Input) (x : State)
    → advance (moment_at (reading input) s) (count_input s) ≡ record { state = x; hangs = [] }
    → (step s input).state ≡ tidied (settle (record { state = (act input x).state; outs = [] })).state
unfolding step
step-state s input x e = ap (λ (a : Advanced). (acted_after input a).state) e

-- the state in which an input acts
abbrev pub arrived_at : Input → State → State
arrived_at input s = at_moment (moment_at (reading input) s) (count_input s)

in-time : (moment at : ℕ) → at ≤ 1000000 → moment ≤ 1000000 → max moment (min at last_moment) ≤ 1000000
in-time moment at h k = omega arith

goes-on : (a b : ℕ) → a ≤ max a b
goes-on a b = omega arith

pub rests-after : (n e r c f q d : ℕ) (input : Input) (s : State) → reading input ≤ 1000000
    → Rests n e r c s
    → (Stands (n + 1) e r c None (arrived_at input s)
    → Stands (n + 1) f q d None (act input (arrived_at input s)).state)
    → Rests (n + 1) f q d (step s input).state
rests-after n e r c f q d input s early h acts =
    let t : ℕ = moment_at (reading input) s in
    let soon : t ≤ 1000000 = in-time s.moment (reading input) early h.stands.dated in
    let late : AllByRecursion (λ (i : Issue). t < i.due) s.issues =
    all-weaker IsIssue (λ (i : Issue). t < i.due) s.issues (λ i k. omega (arith, k.due, soon))
    h.stands.each_issue in
    let now = stands-later n e r c t s (goes-on s.moment (min (reading input) last_moment)) soon h.stands in
    let next =
    step-state s input (arrived_at input s)
    (only-later t (count_input s) (ap count_input h.stands.constant) late) in
    record {
      stands =
          subst (λ z. Stands (n + 1) f q d None z) (sym next)
          (stays-tidied (n + 1) f q d (act input (arrived_at input s)).state (acts now));
      settled = rests-step s input;
    }
