-- The calls of a history are numbered one after the other, and those that are said are among them.
use Rattle.std.proofs.Common.{◌≡◌, inl, ℕ, zero, suc, ◌+◌, ◌==◌, List, [], ◌∷◌, ◌++◌, map, length, Option, Some, None, refl, ap, ◌∙◌, subst, append_assoc, arith, eqb-true}
use Rattle.std.specs.List.{AllByRecursion}
use Rattle.kinds.specs.Inputs.{reading}
use Rattle.kinds.specs.declared.input.Input.{Input}
use Rattle.kinds.specs.declared.input.Input.TheVariants.{Events, Register, Reply, CallFailed, Tick, Cancel, Reopened}
use Rattle.kinds.specs.declared.limits.Limits.{Limits}
use Rattle.kinds.specs.declared.out.Out.{Out}
use Rattle.kinds.specs.declared.out.Out.TheVariants as out
use Rattle.kinds.specs.declared.store.Item.{Item}
use Rattle.functions.specs.declared.entry.FunctionEntry.{FunctionEntry}
use Rattle.lists.proofs.Elements.{all-weaker}
use Rattle.run_model.specs.Advance.{Advanced, advance, most}
use Rattle.run_model.specs.Laws.{IsIn}
use Rattle.run_model.specs.Machine.{act, count_input, fold, state_after, step}
use Rattle.run_model.specs.Settle.{Settled, call_found, issue_found, issue_of, item_at, next_issued, settle, settle_by}
use Rattle.run_model.specs.State.{State, Run, empty, function_at, live_run, moment_at, tidied}
use Rattle.run_model.proofs.Members.{in-back, in-front}
use Rattle.run_model.proofs.SettlingLists.{all-append, found-passes}
use Rattle.soundness.specs.Starts.{AreNumberedFrom, IsMade, Made, acted_on, made, made_after, made_by, made_in, made_of}
use Rattle.soundness.proofs.Untouched.{clock-acted, clock-fired}

-- ## How many there are

calls-of : (run : Option Run) (i : Item) (a : Settled) → (issue_of run i a).state.calls ≡ a.state.calls + 1
calls-of None i a = refl
calls-of (Some r) i a = refl

calls-found : (found : Option Item) (a : Settled)
    → (issue_found found a).state.calls ≡ a.state.calls + length (made_of found a.state)
calls-found None a = omega arith
calls-found (Some i) a = calls-of (live_run i.run a.state) i a

length-both : {X : Type 0} (xs ys : List X) → length (xs ++ ys) ≡ length xs + length ys
length-both [] ys = omega arith
length-both (x ∷ xs) ys = let more = length-both xs ys in omega (arith, more)

added : (a b c m n k : ℕ) → b ≡ a + m → c ≡ b + n → k ≡ m + n → c ≡ a + k
added a b c m n k e f g = omega (arith, e, f, g)

calls-by : (n : ℕ) (a : Settled) → (settle_by n a).state.calls ≡ a.state.calls + length (made_by n a)
unfolding made_by settle_by
calls-by zero a = omega arith
calls-by (suc n) a =
    elim (next_issued a.state) as (λ o. (elim o as (λ _. Settled)
    [ None ↦ a | Some number ↦ settle_by n (issue_found (item_at number a.state) a) ]).state.calls
    ≡ a.state.calls + length (elim o as (λ _. List Made) [
      | None ↦ []
      | Some number ↦
          made_of (item_at number a.state) a.state ++ made_by n (issue_found (item_at number a.state) a)
    ])) [
      | None ↦ omega arith
      | Some number ↦
          let found : Option Item = item_at number a.state in
          added a.state.calls (issue_found found a).state.calls (settle_by n (issue_found found a)).state.calls
          (length (made_of found a.state)) (length (made_by n (issue_found found a)))
          (length (made_of found a.state ++ made_by n (issue_found found a))) (calls-found found a)
          (calls-by n (issue_found found a))
          (length-both (made_of found a.state) (made_by n (issue_found found a)))
    ]

calls-advanced : (t : ℕ) (s : State) → (advance t s).state.calls ≡ s.calls
unfolding advance
calls-advanced t s = (clock-fired most t (record { state = s; hangs = [] })).0

calls-acted : (s : State) (input : Input) → (acted_on s input).calls ≡ s.calls
calls-acted s input =
    let t : ℕ = moment_at (reading input) s in
    clock-acted (λ c. c.calls ≡ s.calls) input (advance t (count_input s)).state (calls-advanced t (count_input s))

calls-tidied : (s : State) → (tidied s).calls ≡ s.calls
unfolding tidied
calls-tidied s = refl

calls-step : (s : State) (input : Input) → (step s input).state.calls ≡ s.calls + length (made_in s input)
unfolding step
calls-step s input =
    let start : Settled = record { state = acted_on s input; outs = [] } in
    calls-tidied (settle start).state ∙ calls-by (length (acted_on s input).items) start
    ∙ ap (λ n. n + length (made_in s input)) (calls-acted s input)

calls-after : (inputs : List Input) (s : State)
    → (state_after s inputs).calls ≡ s.calls + length (made_after s inputs)
calls-after [] s = omega arith
calls-after (input ∷ inputs) s =
    let t : State = (step s input).state in
    added s.calls t.calls (state_after t inputs).calls (length (made_in s input)) (length (made_after t inputs))
    (length (made_in s input ++ made_after t inputs)) (calls-step s input) (calls-after inputs t)
    (length-both (made_in s input) (made_after t inputs))

pub calls-fold : (limits : Limits) (inputs : List Input) → (fold limits inputs).calls ≡ length (made limits inputs)
calls-fold limits inputs = let all = calls-after inputs (empty limits) in omega (arith, all)

-- ## Their numbers

numbered-both : (count : ℕ) (xs ys : List Made) → AreNumberedFrom count xs
    → AreNumberedFrom (count + length xs) ys → AreNumberedFrom count (xs ++ ys)
numbered-both count [] ys h k = subst (λ n. AreNumberedFrom n ys) (zero-more count) k
  where
    zero-more : (n : ℕ) → n + 0 ≡ n
    zero-more n = omega arith
numbered-both count (x ∷ xs) ys h k =
    (h.0, numbered-both (count + 1) xs ys h.1 (subst (λ n. AreNumberedFrom n ys) (one-more count (length xs)) k))
  where
    one-more : (n m : ℕ) → n + suc m ≡ (n + 1) + m
    one-more n m = omega arith

numbered-of : (found : Option Item) (s : State) → AreNumberedFrom s.calls (made_of found s)
numbered-of None s = tt
numbered-of (Some i) s = (refl, tt)

numbered-by : (n : ℕ) (a : Settled) → AreNumberedFrom a.state.calls (made_by n a)
unfolding made_by
numbered-by zero a = tt
numbered-by (suc n) a =
    elim (next_issued a.state) as (λ o. AreNumberedFrom a.state.calls (elim o as (λ _. List Made) [
      | None ↦ []
      | Some number ↦
          made_of (item_at number a.state) a.state ++ made_by n (issue_found (item_at number a.state) a)
    ])) [
      | None ↦ tt
      | Some number ↦
          let found : Option Item = item_at number a.state in
          numbered-both a.state.calls (made_of found a.state) (made_by n (issue_found found a))
          (numbered-of found a.state)
          (subst (λ c. AreNumberedFrom c (made_by n (issue_found found a))) (calls-found found a)
          (numbered-by n (issue_found found a)))
    ]

numbered-in : (s : State) (input : Input) → AreNumberedFrom s.calls (made_in s input)
numbered-in s input =
    subst (λ c. AreNumberedFrom c (made_in s input)) (calls-acted s input)
    (numbered-by (length (acted_on s input).items) (record { state = acted_on s input; outs = [] }))

numbered-after : (inputs : List Input) (s : State) → AreNumberedFrom s.calls (made_after s inputs)
numbered-after [] s = tt
numbered-after (input ∷ inputs) s =
    numbered-both s.calls (made_in s input) (made_after (step s input).state inputs) (numbered-in s input)
    (subst (λ c. AreNumberedFrom c (made_after (step s input).state inputs)) (calls-step s input)
    (numbered-after inputs (step s input).state))

pub numbered-made : (limits : Limits) (inputs : List Input) → AreNumberedFrom 0 (made limits inputs)
numbered-made limits inputs = numbered-after inputs (empty limits)

-- ## What is said

abbrev AreMade : List Made → List Out → Type 0
AreMade calls outs = AllByRecursion (IsMade calls) outs

-- more calls are made, before and after
made-among : (calls more : List Made) → ((m : Made) → IsIn m calls → IsIn m more) → (o : Out) → IsMade calls o
    → IsMade more o
made-among calls more there (out.Call call function target run attempt steps events host port path body) h =
    (h.0, (there h.0 h.1.0, h.1.1))
made-among calls more there (out.Answer status body) h = tt
made-among calls more there (out.Hang call) h = tt

all-among : (calls more : List Made) → ((m : Made) → IsIn m calls → IsIn m more) → (outs : List Out)
    → AreMade calls outs → AreMade more outs
all-among calls more there outs h =
    all-weaker (IsMade calls) (IsMade more) outs (made-among calls more there) h

said-found : (f : Option FunctionEntry) (r : Run) (i : Item) (s : State) → live_run i.run s ≡ Some r
    → AreMade (made_of (Some i) s) (call_found f r i (s.calls + 1) s)
said-found None r i s live = tt
said-found (Some f) r i s live = (
  (
    record { call = s.calls + 1; item = i; run = live_run i.run s; moment = s.moment },
    (
      inl refl,
      (
        refl,
        (eqb-true i.run r.number (found-passes (λ (q : Run). i.run == q.number) s.live r live), (refl, refl)),
      ),
    ),
  ),
  tt,
)

said-of : (before : List Made) (run : Option Run) (i : Item) (a : Settled) → live_run i.run a.state ≡ run
    → AreMade before a.outs → AreMade (before ++ made_of (Some i) a.state) (issue_of run i a).outs
said-of before None i a live h =
    all-among before (before ++ made_of (Some i) a.state) (λ m. in-front m before (made_of (Some i) a.state)) a.outs h
said-of before (Some r) i a live h =
    let own : List Made = made_of (Some i) a.state in
    let said : List Out =
    call_found (function_at r.version a.state) r i (a.state.calls + 1) a.state in
    all-append (IsMade (before ++ own)) a.outs said
    (all-among before (before ++ own) (λ m. in-front m before own) a.outs h)
    (all-among own (before ++ own) (λ m. in-back m before own) said
    (said-found (function_at r.version a.state) r i a.state live))

said-issued : (before : List Made) (found : Option Item) (a : Settled) → AreMade before a.outs
    → AreMade (before ++ made_of found a.state) (issue_found found a).outs
said-issued before None a h =
    all-among before (before ++ []) (λ m. in-front m before []) a.outs h
said-issued before (Some i) a h = said-of before (live_run i.run a.state) i a refl h

said-by : (n : ℕ) (before : List Made) (a : Settled) → AreMade before a.outs
    → AreMade (before ++ made_by n a) (settle_by n a).outs
unfolding made_by settle_by
said-by zero before a h = all-among before (before ++ []) (λ m. in-front m before []) a.outs h
said-by (suc n) before a h =
    elim (next_issued a.state) as (λ o. AreMade (before ++ elim o as (λ _. List Made) [
      | None ↦ []
      | Some number ↦
          made_of (item_at number a.state) a.state ++ made_by n (issue_found (item_at number a.state) a)
    ]) (elim o as (λ _. Settled)
    [ None ↦ a | Some number ↦ settle_by n (issue_found (item_at number a.state) a) ]).outs) [
      | None ↦ all-among before (before ++ []) (λ m. in-front m before []) a.outs h
      | Some number ↦
          let found : Option Item = item_at number a.state in
          subst (λ ms. AreMade ms (settle_by n (issue_found found a)).outs)
          (append_assoc before (made_of found a.state) (made_by n (issue_found found a)))
          (said-by n (before ++ made_of found a.state) (issue_found found a) (said-issued before found a h))
    ]

hangs-said : (calls : List Made) (ns : List ℕ) → AreMade calls (map (λ call. out.Hang call) ns)
hangs-said calls [] = tt
hangs-said calls (n ∷ ns) = (tt, hangs-said calls ns)

answers-said : (calls : List Made) (input : Input) (s : State) → AreMade calls (act input s).outs
unfolding act
answers-said calls (Events at events) s = (tt, tt)
answers-said calls (Register at app) s = (tt, tt)
answers-said calls (Reply at call reply) s = tt
answers-said calls (CallFailed at call) s = tt
answers-said calls (Tick at) s = tt
answers-said calls (Cancel at run) s = (tt, tt)
answers-said calls (Reopened at) s = tt

pub said-made : (s : State) (input : Input) → AreMade (made_in s input) (step s input).outs
unfolding step
said-made s input =
    let a : Advanced = advance (moment_at (reading input) s) (count_input s) in
    let hangs : List Out = map (λ call. out.Hang call) a.hangs in
    let start : Settled = record { state = acted_on s input; outs = [] } in
    let calls : List Made = made_in s input in
    all-append (IsMade calls) (hangs ++ (act input a.state).outs) (settle start).outs
    (all-append (IsMade calls) hangs (act input a.state).outs (hangs-said calls a.hangs)
    (answers-said calls input a.state))
    (said-by (length (acted_on s input).items) [] start tt)
