-- Where settling has ended no item may be issued: each item that is issued leaves the queue.
use Rattle.std.proofs.Common.{◌≡◌, ℕ, zero, suc, ◌<◌, ◌≤◌, Bool, true, false, cond, List, [], ◌∷◌, map, length, Option, Some, None, IsSomeAnd, option_map, refl, sym, subst, arith, eq-eqb, eqb-true, is_gt}
use Rattle.std.specs.List.{list_any}
use Rattle.kinds.specs.Queue.{admits, has_number, is_admissible, item_cmp, least, lesser, number_of, without_number}
use Rattle.kinds.specs.declared.input.Input.{Input}
use Rattle.kinds.specs.Inputs.{reading}
use Rattle.kinds.specs.declared.out.Out.{Out}
use Rattle.kinds.specs.declared.out.Out.TheVariants.{Hang}
use Rattle.kinds.specs.declared.store.Item.{Item}
use Rattle.run_model.specs.Advance.{Advanced, advance}
use Rattle.run_model.specs.Machine.{Stepped, act, count_input, settled_after, step}
use Rattle.run_model.specs.Settle.{Settled, issue_found, issue_of, item_at, next_issued, settle_by}
use Rattle.run_model.specs.State.{State, Run, issue_entries, live_run, moment_at, tidied}
use Rattle.run_model.proofs.SettlingLists.{any-found, fewer-left, or-left, or-right}

-- ## The least item is one of the queue

abbrev IsThere : List Item → Option Item → Type 0
IsThere items None = Unit {0}
IsThere items (Some i) = list_any (has_number i.number) items ≡ true

behind : (i : Item) (items : List Item) (found : Option Item) → IsThere items found → IsThere (i ∷ items) found
behind i items None h = tt
behind i items (Some j) h = or-right (has_number j.number i) (list_any (has_number j.number) items) h

first-there : (i : Item) (items : List Item) → IsThere (i ∷ items) (Some i)
first-there i items =
    or-left (has_number i.number i) (list_any (has_number i.number) items) (eq-eqb i.number i.number refl)

lesser-there : (i : Item) (items : List Item) (found : Option Item) → IsThere items found
    → IsThere (i ∷ items) (lesser i found)
lesser-there i items None h = first-there i items
lesser-there i items (Some j) h =
    elim (is_gt (item_cmp i j)) as (λ b. IsThere (i ∷ items) (cond b (Some j) (Some i)))
    [ true ↦ behind i items (Some j) h | false ↦ first-there i items ]

least-there : (passes : Item → Bool) (items : List Item) → IsThere items (least passes items)
unfolding least
least-there passes [] = tt
least-there passes (i ∷ items) =
    elim (passes i) as (λ b. IsThere (i ∷ items) (cond b (lesser i (least passes items)) (least passes items))) [
      | true ↦ lesser-there i items (least passes items) (least-there passes items)
      | false ↦ behind i items (least passes items) (least-there passes items)
    ]

number-there : (items : List Item) (found : Option Item) (number : ℕ) → IsThere items found
    → option_map number_of found ≡ Some number → list_any (has_number number) items ≡ true
number-there items None number h e = absurd (cc)
number-there items (Some i) number h e =
    let same : i.number ≡ number = cc in subst (λ n. list_any (has_number n) items ≡ true) same h

pub none-in-empty : (passes : Item → Bool) (items : List Item) → length items ≤ 0
    → option_map number_of (least passes items) ≡ None
unfolding least
none-in-empty passes [] h = refl
none-in-empty passes (i ∷ items) h = absurd (omega (arith, h))

-- ## It leaves the queue

left-queue : (run : Option Run) (i : Item) (t : Settled)
    → (issue_of run i t).state.items ≡ without_number i.number t.state.items
left-queue None i t = refl
left-queue (Some r) i t = refl

falls-with : (number : ℕ) (i : Item) (run : Option Run) (t : Settled) → has_number number i ≡ true
    → list_any (has_number number) t.state.items ≡ true
    → length (issue_of run i t).state.items < length t.state.items
falls-with number i run t e there =
    subst (λ items. length items < length t.state.items) (sym (left-queue run i t))
    (fewer-left (has_number i.number) t.state.items
    (subst (λ n. list_any (has_number n) t.state.items ≡ true) (eqb-true number i.number e) there))

falls-found : (number : ℕ) (found : Option Item) (t : Settled)
    → IsSomeAnd found (λ i. has_number number i ≡ true) → list_any (has_number number) t.state.items ≡ true
    → length (issue_found found t).state.items < length t.state.items
falls-found number None t h there = absurd h
falls-found number (Some i) t h there = falls-with number i (live_run i.run t.state) t h there

abbrev pub may_be_issued : State → Item → Bool
may_be_issued s = is_admissible (admits (issue_entries s) s.starts s.moment) s.moment

pub falls : (number : ℕ) (t : Settled) → next_issued t.state ≡ Some number
    → length (issue_found (item_at number t.state) t).state.items < length t.state.items
falls number t e =
    let passes = may_be_issued t.state in
    let there = number-there t.state.items (least passes t.state.items) number
    (least-there passes t.state.items) e in
    falls-found number (item_at number t.state) t (any-found (has_number number) t.state.items there) there

-- ## Settling rests

abbrev Rests : ℕ → Type 0
Rests n = (t : Settled) → length t.state.items ≤ n → next_issued (settle_by n t).state ≡ None

rests-on : (n : ℕ) (t : Settled) (next : Option ℕ) → next_issued t.state ≡ next
    → length t.state.items ≤ suc n → Rests n
    → next_issued (elim next as (λ _. Settled)
    [ None ↦ t | Some number ↦ settle_by n (issue_found (item_at number t.state) t) ]).state ≡ None
rests-on n t None e within more = e
rests-on n t (Some number) e within more =
    let less = falls number t e in more (issue_found (item_at number t.state) t) (omega (arith, less, within))

rests-by : (n : ℕ) (t : Settled) → length t.state.items ≤ n → next_issued (settle_by n t).state ≡ None
unfolding settle_by
rests-by zero t within = none-in-empty (may_be_issued t.state) t.state.items within
rests-by (suc n) t within = rests-on n t (next_issued t.state) refl within (rests-by n)

-- what goes at the end of a step is no item, no open call and no start
rests-tidied : (s : State) → next_issued s ≡ None → next_issued (tidied s) ≡ None
unfolding tidied
rests-tidied s h = h

rests-after : (before : List Out) (acted : Stepped) → next_issued (settled_after before acted).state ≡ None
rests-after before acted =
    let start : Settled = record { state = acted.state; outs = [] } in
    rests-tidied (settle_by (length acted.state.items) start).state
    (rests-by (length acted.state.items) start (omega arith))

pub rests-step : (s : State) (input : Input) → next_issued (step s input).state ≡ None
unfolding step
rests-step s input =
    let a : Advanced = advance (moment_at (reading input) s) (count_input s) in
    rests-after (map (λ call. Hang call) a.hangs) (act input a.state)
