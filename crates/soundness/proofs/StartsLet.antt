-- Each start of a throttle's cell was let by all before it, call by call, and so through each history.
use Rattle.std.proofs.Common.{◌≡◌, ℕ, zero, suc, ◌==◌, IsSomeAnd, ◌+◌, ◌-◌, ◌*◌, ◌≤◌, nat_le, min, Bool, true, false, ◌&&◌, cond, List, [], ◌∷◌, ◌++◌, map, filter, length, Option, Some, None, refl, sym, ap, ◌∙◌, subst, append_assoc, append-nil, arith}
use Rattle.std.specs.List.{AllByRecursion, list_any}
use Rattle.kinds.specs.Cells.{are_free, is_cell, lets_start, may_start, slack, spacing}
use Rattle.kinds.specs.Inputs.{reading}
use Rattle.kinds.specs.Moments.{last_moment}
use Rattle.kinds.specs.Queue.{has_number}
use Rattle.kinds.specs.declared.cell.Cell.{Cell}
use Rattle.kinds.specs.declared.cell.StartEntry.{StartEntry}
use Rattle.kinds.specs.declared.input.Input.{Input}
use Rattle.kinds.specs.declared.limits.Limits.{Limits}
use Rattle.kinds.specs.declared.store.Item.{Item}
use Rattle.lists.proofs.Elements.{all-last, all-weaker}
use Rattle.run_model.specs.Advance.{advance, most}
use Rattle.run_model.specs.Machine.{count_input, fold, state_after, step}
use Rattle.run_model.specs.Settle.{Settled, issue, issue_found, issue_of, item_at, next_issued, settle, settle_by, started_at}
use Rattle.run_model.specs.State.{State, Run, empty, issue_entries, live_run, moment_at, tidied}
use Rattle.run_model.proofs.GoingOn.{Going, going-empty, going-steps}
use Rattle.run_model.proofs.Limits.{issued-passes, may_be_issued}
use Rattle.run_model.proofs.LiveRuns.{IsOf}
use Rattle.run_model.proofs.Members.{in-all, in-found}
use Rattle.run_model.proofs.OfLive.{AllOf, of-steps}
use Rattle.run_model.proofs.SettlingLists.{any-found}
use Rattle.run_model.proofs.KeptSteps.{all_fired, goes-on, kept-act, kept-advance}
use Rattle.soundness.specs.Starts.{AreLet, KeepsPace, Made, TellsOf, acted_on, is_start, start_of, made, made_after, made_by, made_in, made_of, starts, starts_of}
use Rattle.soundness.proofs.Standing.{Stands, lets-next, same-cell, stands-later, stands-none, stands-other, stands-start}
use Rattle.soundness.proofs.Asking.{Asks, all-steps, asks-found, asks-none}
use Rattle.soundness.proofs.Carried.{core}
use Rattle.soundness.proofs.CarriedSteps.{carried-act, carried-advance, carried-tidied}
use Rattle.soundness.proofs.Untouched.{Clock, clock, clock-acted, clock-fired}

-- ## Starts, one after the other

abbrev AreBy : ℕ → List ℕ → Type 0
AreBy t moments = AllByRecursion (λ s. s ≤ t) moments

-- behind those before: each is let by all before it, and isn't earlier than one of them
abbrev LetAfter : Cell → List ℕ → List ℕ → Type 0
LetAfter cell before [] = Unit {0}
LetAfter cell before (t ∷ ts) =
    ((lets_start cell before t ≡ true) × AreBy t before) × LetAfter cell (before ++ t ∷ []) ts

let-both : (cell : Cell) (before ts us : List ℕ) → LetAfter cell before ts → LetAfter cell (before ++ ts) us
    → LetAfter cell before (ts ++ us)
let-both cell before [] us h k = subst (λ b. LetAfter cell b us) (append-nil before) k
let-both cell before (t ∷ ts) us h k = (
  h.0,
  let-both cell (before ++ t ∷ []) ts us h.1
      (subst (λ b. LetAfter cell b us) (sym (append_assoc before (t ∷ []) ts)) k),
)

let-split : (cell : Cell) (before front : List ℕ) (t : ℕ) (after : List ℕ)
    → LetAfter cell before (front ++ t ∷ after)
    → (lets_start cell (before ++ front) t ≡ true) × AreBy t (before ++ front)
let-split cell before [] t after h =
    subst (λ b. (lets_start cell b t ≡ true) × AreBy t b) (sym (append-nil before)) h.0
let-split cell before (s ∷ front) t after h =
    subst (λ b. (lets_start cell b t ≡ true) × AreBy t b) (append_assoc before (s ∷ []) front)
    (let-split cell (before ++ s ∷ []) front t after h.1)

pub are-let : (cell : Cell) (moments : List ℕ) → LetAfter cell [] moments → AreLet cell moments
are-let cell moments h before after t e =
    (let-split cell [] before t after (subst (λ ms. LetAfter cell [] ms) e h)).0

-- what is asked of each start before is asked of one of them
let-one : (cell : Cell) (before between : List ℕ) (s t : ℕ) → lets_start cell (before ++ s ∷ between) t ≡ true
    → s + (1 + length between) * spacing cell ≤ t + slack cell
let-one cell [] between s t h = first (s + (1 + length between) * spacing cell) (t + slack cell) _ h
  where
    first : (a b : ℕ) (rest : Bool) → (nat_le a b && rest) ≡ true → a ≤ b
    first a b rest e = by_test (nat_le a b) refl e
      where
        by_test : (c : Bool) → nat_le a b ≡ c → (c && rest) ≡ true → a ≤ b
        by_test true low k = grind (arith, low)
        by_test false low k = absurd (cc)
let-one cell (r ∷ before) between s t h = let-one cell before between s t (second _ _ h)
  where
    second : (a b : Bool) → (a && b) ≡ true → b ≡ true
    second true b e = e
    second false b e = absurd (cc)

by-one : (t : ℕ) (before between : List ℕ) (s : ℕ) → AreBy t (before ++ s ∷ between) → s ≤ t
by-one t [] between s h = h.0
by-one t (r ∷ before) between s h = by-one t before between s h.1

pub keeps-pace : (cell : Cell) (moments : List ℕ) → LetAfter cell [] moments → KeepsPace cell moments
keeps-pace cell moments h before between after s t e =
    let front : List ℕ = before ++ s ∷ between in
    let k : (lets_start cell front t ≡ true) × AreBy t front =
    let-split cell [] front t after
    (subst (λ ms. LetAfter cell [] ms) (e ∙ sym (append_assoc before (s ∷ between) (t ∷ after))) h) in
    let on : s ≤ t = by-one t before between s k.1 in
    (on, apart s t ((1 + length between) * spacing cell) (slack cell) on (let-one cell before between s t k.0))
  where
    apart : (s t n d : ℕ) → s ≤ t → s + n ≤ t + d → n ≤ (t - s) + d
    apart s t n d on low = omega (arith, on, low)

-- ## A call that is made

by-after : (t u : ℕ) (moments : List ℕ) → t ≤ u → AreBy t moments → AreBy u moments
by-after t u moments on h =
    all-weaker (λ s. s ≤ t) (λ s. s ≤ u) moments (λ s (low : s ≤ t). omega (arith, low, on)) h

-- numbers of items differ, and each item is of a run that has not ended and asks for the start of this run
abbrev Whole : State → Type 0
Whole s = Going [] s × (AllOf s × Asks [] (core s))

whole-issue : (number : ℕ) (i : Item) (s : State) → next_issued s ≡ Some number → item_at number s ≡ Some i
    → Whole s → Whole (issue i s)
whole-issue number i s next there h = (
  (going-steps 0).issues number i s next there h.0,
  (
    (of-steps 0).issues number i s next there h.1.0,
    all-steps.issues i s h.0.0.1.queued (in-found (has_number number) s.items i there) tt h.1.1,
  ),
)

whole-acted : (s : State) (input : Input) → Whole s → Whole (acted_on s input)
whole-acted s input h =
    let t : ℕ = moment_at (reading input) s in
    let counted : State = count_input s in
    let on : counted.moment ≤ t = goes-on s.moment (min (reading input) last_moment) in
    let a : State = (advance t counted).state in
    let going : Going [] a =
    kept-advance t (λ i. Unit {0}) Going (going-steps t) t counted (omega arith) on h.0 in (
      kept-act t (λ i. Unit {0}) Going (going-steps t) input a tt going,
      (
        kept-act t (λ i. Unit {0}) (λ is s. AllOf s) (of-steps t) input a tt
            (kept-advance t (λ i. Unit {0}) (λ is s. AllOf s) (of-steps t) t counted (omega arith) on h.1.0),
        carried-act Asks all-steps input a going (carried-advance Asks all-steps t counted h.0 h.1.1),
      ),
    )

whole-tidied : (s : State) → Whole s → Whole (tidied s)
whole-tidied s h = (
  (going-steps 0).tidies s h.0,
  ((of-steps 0).tidies s h.1.0, carried-tidied Asks all-steps s h.1.1),
)

whole-empty : (limits : Limits) → Whole (empty limits)
whole-empty limits = (
  going-empty limits,
  (
    record { items_of = tt; sleeps_of = tt; waits_of = tt; invocations_of = tt; rules_of = tt },
    asks-none limits,
  ),
)

-- an item asks for a start where its run has one to make
asks-start : (number : ℕ) (i : Item) (s : State) → item_at number s ≡ Some i → Whole s
    → i.start ≡ start_of (live_run i.run s)
asks-start number i s there h = by_found (live_run i.run s) refl
  where
    live : list_any (λ (r : Run). i.run == r.number) s.live ≡ true
    live = in-all (λ (j : Item). IsOf s.live j.run) i s.items (in-found (has_number number) s.items i there)
        h.1.0.items_of

    none : IsSomeAnd (live_run i.run s) (λ r. (i.run == r.number) ≡ true) → live_run i.run s ≡ None → ⊥
    none found e = subst (λ (o : Option Run). IsSomeAnd o (λ r. (i.run == r.number) ≡ true)) e found

    by_found : (found : Option Run) → live_run i.run s ≡ found → i.start ≡ start_of found
    by_found None e = absurd (none (any-found (λ (r : Run). i.run == r.number) s.live live) e)
    by_found (Some r) e = asks-found number i r s h.1.1 there e

module _ (cell : Cell) where
  -- what a state has of the starts of the cell so far
  abbrev Follows : List ℕ → Clock → Type 0
  Follows past c = Stands c.moment cell past c.starts × AreBy c.moment past

  abbrev Goes : List ℕ → State → Type 0
  Goes past s = Whole s × Follows past (clock s)

  -- the moments of the starts among one call
  abbrev own : Option Cell → Made → List ℕ
  own start m = map (λ (m : Made). m.moment) (cond (is_start cell start) (m ∷ []) [])

  abbrev Starts : List ℕ → List ℕ → ℕ → List StartEntry → Type 0
  Starts past now t es = LetAfter cell past now × (Stands t cell (past ++ now) es × AreBy t (past ++ now))

  none-starts : (past : List ℕ) (t : ℕ) (es : List StartEntry) → Stands t cell past es → AreBy t past
      → Starts past [] t es
  none-starts past t es h by =
      (tt, subst (λ b. Stands t cell b es × AreBy t b) (sym (append-nil past)) (h, by))

  one-starts : (past : List ℕ) (start : Option Cell) (m : Made) (es : List StartEntry)
      → Stands m.moment cell past es → AreBy m.moment past → may_start start m.moment es ≡ true
      → Starts past (own start m) m.moment (started_at start m.moment es)
  one-starts past None m es h by may = none-starts past m.moment es h by
  one-starts past (Some other) m es h by may = by_test (is_cell cell other) refl
    where
      of_own : cell ≡ other → Starts past (m.moment ∷ []) m.moment (started_at (Some other) m.moment es)
      of_own same =
          subst (λ (c : Cell). may_start (Some c) m.moment es ≡ true
          → Starts past (m.moment ∷ []) m.moment (started_at (Some c) m.moment es)) same
          (λ lets. (
            ((lets-next m.moment cell past es h lets, by), tt),
            (
              stands-start m.moment cell past es h,
              all-last (λ s. s ≤ m.moment) past m.moment by (omega arith),
            ),
          )) may

      by_test : (b : Bool) → is_cell cell other ≡ b
          → Starts past (map (λ (m : Made). m.moment) (cond b (m ∷ []) [])) m.moment
          (started_at (Some other) m.moment es)
      by_test true e = of_own (same-cell cell other e)
      by_test false e =
          none-starts past m.moment (started_at (Some other) m.moment es)
          (stands-other m.moment m.moment cell other past es e h) by

  starts-issue : (past : List ℕ) (number : ℕ) (i : Item) (s : State) → next_issued s ≡ Some number
      → item_at number s ≡ Some i → Goes past s
      → LetAfter cell past (starts_of cell (made_of (Some i) s))
      × Goes (past ++ starts_of cell (made_of (Some i) s)) (issue i s)
  starts-issue past number i s next there h =
      let passes : may_be_issued s i ≡ true = issued-passes number i s h.0.0.0.1.queued next there in
      let may : may_start i.start s.moment s.starts ≡ true =
      third (nat_le i.due s.moment) (are_free i.cells (issue_entries s)) (may_start i.start s.moment s.starts) passes
      in
      let m : Made = record { call = s.calls + 1; item = i; run = live_run i.run s; moment = s.moment } in
      let k : Starts past (own i.start m) s.moment (started_at i.start s.moment s.starts) =
      one-starts past i.start m s.starts h.1.0 h.1.1 may in
      let asked : Starts past (own (start_of m.run) m) s.moment (started_at i.start s.moment s.starts) =
      subst (λ (o : Option Cell). Starts past (own o m) s.moment (started_at i.start s.moment s.starts))
      (asks-start number i s there h.0) k in
      (asked.0, (whole-issue number i s next there h.0, asked.1))
    where
      third : (a b c : Bool) → (a && (b && c)) ≡ true → c ≡ true
      third true true c e = e
      third true false c e = absurd (cc)
      third false b c e = absurd (cc)

  -- ## Settling

  abbrev Comes : List ℕ → List Made → State → Type 0
  Comes past calls s = LetAfter cell past (starts_of cell calls) × Goes (past ++ starts_of cell calls) s

  starts-both : (xs ys : List Made) → starts_of cell (xs ++ ys) ≡ starts_of cell xs ++ starts_of cell ys
  starts-both [] ys = refl
  starts-both (x ∷ xs) ys = by_test (is_start cell (start_of x.run)) (starts-both xs ys)
    where
      by_test : (b : Bool) → starts_of cell (xs ++ ys) ≡ starts_of cell xs ++ starts_of cell ys
          → map (λ (m : Made). m.moment)
          (cond b (x ∷ filter (λ (m : Made). is_start cell (start_of m.run)) (xs ++ ys))
          (filter (λ (m : Made). is_start cell (start_of m.run)) (xs ++ ys)))
          ≡ map (λ (m : Made). m.moment)
          (cond b (x ∷ filter (λ (m : Made). is_start cell (start_of m.run)) xs)
          (filter (λ (m : Made). is_start cell (start_of m.run)) xs)) ++ starts_of cell ys
      by_test true more = ap (λ ms. x.moment ∷ ms) more
      by_test false more = more

  comes-none : (past : List ℕ) (s : State) → Goes past s → Comes past [] s
  comes-none past s h = (tt, subst (λ b. Goes b s) (sym (append-nil past)) h)

  comes-both : (past : List ℕ) (xs ys : List Made) (t : State) → LetAfter cell past (starts_of cell xs)
      → Comes (past ++ starts_of cell xs) ys t → Comes past (xs ++ ys) t
  comes-both past xs ys t h k =
      subst (λ ms. LetAfter cell past ms × Goes (past ++ ms) t) (sym (starts-both xs ys)) (
        let-both cell past (starts_of cell xs) (starts_of cell ys) h k.0,
        subst (λ b. Goes b t) (append_assoc past (starts_of cell xs) (starts_of cell ys)) k.1,
      )

  comes-issue_of : (past : List ℕ) (number : ℕ) (run : Option Run) (i : Item) (a : Settled)
      → next_issued a.state ≡ Some number → item_at number a.state ≡ Some i → Goes past a.state
      → Comes past (made_of (Some i) a.state) (issue_of run i a).state
  comes-issue_of past number None i a next there h = starts-issue past number i a.state next there h
  comes-issue_of past number (Some r) i a next there h = starts-issue past number i a.state next there h

  comes-found : (past : List ℕ) (number : ℕ) (found : Option Item) (a : Settled)
      → next_issued a.state ≡ Some number → item_at number a.state ≡ found → Goes past a.state
      → Comes past (made_of found a.state) (issue_found found a).state
  comes-found past number None a next there h = comes-none past a.state h
  comes-found past number (Some i) a next there h =
      comes-issue_of past number (live_run i.run a.state) i a next there h

  comes-by : (n : ℕ) (past : List ℕ) (a : Settled) → Goes past a.state
      → Comes past (made_by n a) (settle_by n a).state
  unfolding made_by settle_by
  comes-by zero past a h = comes-none past a.state h
  comes-by (suc n) past a h =
      (elim (next_issued a.state) as (λ o. next_issued a.state ≡ o → Comes past (elim o as (λ _. List Made) [
        | None ↦ []
        | Some number ↦
            made_of (item_at number a.state) a.state ++ made_by n (issue_found (item_at number a.state) a)
      ]) (elim o as (λ _. Settled)
      [ None ↦ a | Some number ↦ settle_by n (issue_found (item_at number a.state) a) ]).state) [
        | None ↦ λ e. comes-none past a.state h
        | Some number ↦ λ e.
            let k : Comes past (made_of (item_at number a.state) a.state)
            (issue_found (item_at number a.state) a).state =
            comes-found past number (item_at number a.state) a e refl h in
            comes-both past (made_of (item_at number a.state) a.state)
            (made_by n (issue_found (item_at number a.state) a))
            (settle_by n (issue_found (item_at number a.state) a)).state k.0
            (comes-by n (past ++ starts_of cell (made_of (item_at number a.state) a.state))
            (issue_found (item_at number a.state) a) k.1)
      ]) refl

  -- ## A step

  follows-advanced : (past : List ℕ) (t : ℕ) (s : State) → s.moment ≤ t → Follows past (clock s)
      → Follows past (clock (advance t s).state)
  unfolding advance
  follows-advanced past t s on h =
      let same = clock-fired most t (record { state = s; hangs = [] }) in (
        stands-later s.moment t cell past (all_fired t s).starts on
            (subst (λ es. Stands s.moment cell past es) (sym same.1) h.0),
        by-after s.moment t past on h.1,
      )

  goes-acted : (past : List ℕ) (s : State) (input : Input) → Goes past s → Goes past (acted_on s input)
  goes-acted past s input h =
      let t : ℕ = moment_at (reading input) s in
      let counted : State = count_input s in (
        whole-acted s input h.0,
        clock-acted (Follows past) input (advance t counted).state
            (follows-advanced past t counted (goes-on s.moment (min (reading input) last_moment)) h.1),
      )

  goes-tidied : (past : List ℕ) (s : State) → Follows past (clock s) → Follows past (clock (tidied s))
  unfolding tidied
  goes-tidied past s h = h

  comes-step : (past : List ℕ) (s : State) (input : Input) → Goes past s
      → Comes past (made_in s input) (step s input).state
  unfolding step
  comes-step past s input h =
      let start : Settled = record { state = acted_on s input; outs = [] } in
      let k : Comes past (made_in s input) (settle start).state =
      comes-by (length (acted_on s input).items) past start (goes-acted past s input h) in (
        k.0,
        (
          whole-tidied (settle start).state k.1.0,
          goes-tidied (past ++ starts_of cell (made_in s input)) (settle start).state k.1.1,
        ),
      )

  -- ## Histories

  comes-after : (inputs : List Input) (past : List ℕ) (s : State) → Goes past s
      → Comes past (made_after s inputs) (state_after s inputs)
  comes-after [] past s h = comes-none past s h
  comes-after (input ∷ inputs) past s h =
      let k : Comes past (made_in s input) (step s input).state = comes-step past s input h in
      comes-both past (made_in s input) (made_after (step s input).state inputs) (state_after s (input ∷ inputs)) k.0
      (comes-after inputs (past ++ starts_of cell (made_in s input)) (step s input).state k.1)

  comes-fold : (limits : Limits) (inputs : List Input) → Comes [] (made limits inputs) (fold limits inputs)
  comes-fold limits inputs =
      comes-after inputs [] (empty limits)
      (whole-empty limits, (stands-none 0 cell, tt))

pub let-fold : (limits : Limits) (inputs : List Input) (cell : Cell) → AreLet cell (starts limits inputs cell)
let-fold limits inputs cell = are-let cell (starts limits inputs cell) (comes-fold cell limits inputs).0

pub pace-fold : (limits : Limits) (inputs : List Input) (cell : Cell) → KeepsPace cell (starts limits inputs cell)
pace-fold limits inputs cell = keeps-pace cell (starts limits inputs cell) (comes-fold cell limits inputs).0

pub tells-fold : (limits : Limits) (inputs : List Input) (cell : Cell)
    → TellsOf (fold limits inputs) cell (starts limits inputs cell)
tells-fold limits inputs cell = (comes-fold cell limits inputs).1.1.0.tells
