-- What holds of each thing that is said in a step, against the state at its end: it holds of a call when it is made,
-- and stays while others are made.
use Rattle.std.proofs.Common.{◌≡◌, ℕ, zero, suc, ◌+◌, List, [], ◌∷◌, ◌++◌, map, length, Option, Some, None, refl}
use Rattle.std.specs.List.{AllByRecursion}
use Rattle.kinds.specs.Inputs.{reading}
use Rattle.kinds.specs.declared.input.Input.{Input}
use Rattle.kinds.specs.declared.input.Input.TheVariants.{Events, Register, Reply, CallFailed, Tick, Cancel, Reopened}
use Rattle.kinds.specs.declared.out.Out.{Out}
use Rattle.kinds.specs.declared.out.Out.TheVariants as out
use Rattle.kinds.specs.declared.store.Item.{Item}
use Rattle.functions.specs.declared.entry.FunctionEntry.{FunctionEntry}
use Rattle.lists.proofs.Elements.{all-weaker}
use Rattle.run_model.specs.Advance.{Advanced, advance}
use Rattle.run_model.specs.Machine.{Stepped, act, count_input, settled_after, step}
use Rattle.run_model.specs.Settle.{Settled, call_found, issue, issue_found, issue_of, item_at, next_issued, settle_by}
use Rattle.run_model.specs.State.{State, Run, function_at, live_run, moment_at, tidied}
use Rattle.run_model.proofs.SettlingLists.{all-append}

-- the states in which calls are made, and what is to hold of what is said
pub record Says (Good : State → Type 0) (Holds : State → Out → Type 0) : Type 0 where
  pub goes_on : (number : ℕ) (i : Item) (s : State) → item_at number s ≡ Some i → Good s → Good (issue i s)
  pub calls : (number : ℕ) (i : Item) (r : Run) (f : Option FunctionEntry) (s : State)
      → item_at number s ≡ Some i → live_run i.run s ≡ Some r → Good s
      → AllByRecursion (Holds (issue i s)) (call_found f r i (s.calls + 1) s)
  pub stays : (i : Item) (s : State) (o : Out) → Holds s o → Holds (issue i s) o
  pub tidies : (s : State) (o : Out) → Holds s o → Holds (tidied s) o
  pub hangs : (s : State) (call : ℕ) → Holds s (out.Hang call)
  pub answers : (s : State) (status : ℕ) (body : List ℕ) → Holds s (out.Answer status body)

module _ (Good : State → Type 0) (Holds : State → Out → Type 0) (says : Says Good Holds) where
  -- ## Settling

  abbrev AreSaid : Settled → Type 0
  AreSaid t = Good t.state × AllByRecursion (Holds t.state) t.outs

  said-before : (i : Item) (t : Settled) → AreSaid t → AllByRecursion (Holds (issue i t.state)) t.outs
  said-before i t h =
      all-weaker (Holds t.state) (Holds (issue i t.state)) t.outs (says.stays i t.state) h.1

  said-of : (number : ℕ) (run : Option Run) (i : Item) (t : Settled) → item_at number t.state ≡ Some i
      → live_run i.run t.state ≡ run → AreSaid t → AreSaid (issue_of run i t)
  said-of number None i t there e h = (says.goes_on number i t.state there h.0, said-before i t h)
  said-of number (Some r) i t there e h = (
    says.goes_on number i t.state there h.0,
    all-append (Holds (issue i t.state)) t.outs
        (call_found (function_at r.version t.state) r i (t.state.calls + 1) t.state) (said-before i t h)
        (says.calls number i r (function_at r.version t.state) t.state there e h.0),
  )

  said-found : (number : ℕ) (found : Option Item) (t : Settled) → item_at number t.state ≡ found → AreSaid t
      → AreSaid (issue_found found t)
  said-found number None t there h = h
  said-found number (Some i) t there h = said-of number (live_run i.run t.state) i t there refl h

  said-on : (n : ℕ) (t : Settled) (next : Option ℕ) → AreSaid t
      → ((u : Settled) → AreSaid u → AreSaid (settle_by n u))
      → AreSaid (elim next as (λ _. Settled)
      [ None ↦ t | Some number ↦ settle_by n (issue_found (item_at number t.state) t) ])
  said-on n t None h more = h
  said-on n t (Some number) h more =
      more (issue_found (item_at number t.state) t) (said-found number (item_at number t.state) t refl h)

  said-by : (n : ℕ) (t : Settled) → AreSaid t → AreSaid (settle_by n t)
  unfolding settle_by
  said-by zero t h = h
  said-by (suc n) t h = said-on n t (next_issued t.state) h (said-by n)

  -- ## A step

  hangs-said : (s : State) (calls : List ℕ) → AllByRecursion (Holds s) (map (λ call. out.Hang call) calls)
  hangs-said s [] = tt
  hangs-said s (call ∷ calls) = (says.hangs s call, hangs-said s calls)

  answers-said : (t : State) (input : Input) (s : State) → AllByRecursion (Holds t) (act input s).outs
  unfolding act
  answers-said t (Events at events) s = (says.answers t _ _, tt)
  answers-said t (Register at app) s = (says.answers t _ _, tt)
  answers-said t (Reply at call reply) s = tt
  answers-said t (CallFailed at call) s = tt
  answers-said t (Tick at) s = tt
  answers-said t (Cancel at run) s = (says.answers t _ _, tt)
  answers-said t (Reopened at) s = tt

  said-after : (calls : List ℕ) (input : Input) (s : State) → Good (act input s).state
      → AllByRecursion (Holds (settled_after (map (λ call. out.Hang call) calls) (act input s)).state)
      (settled_after (map (λ call. out.Hang call) calls) (act input s)).outs
  said-after calls input s good =
      let acted : Stepped = act input s in
      let start : Settled = record { state = acted.state; outs = [] } in
      let settled : Settled = settle_by (length acted.state.items) start in
      let said : AreSaid settled = said-by (length acted.state.items) start (good, tt) in
      let hangs : List Out = map (λ call. out.Hang call) calls in
      let kept : State = tidied settled.state in
      all-append (Holds kept) (hangs ++ acted.outs) settled.outs
      (all-append (Holds kept) hangs acted.outs (hangs-said kept calls) (answers-said kept input s))
      (all-weaker (Holds settled.state) (Holds kept) settled.outs (says.tidies settled.state) said.1)

  pub said-step : (s : State) (input : Input)
      → Good (act input (advance (moment_at (reading input) s) (count_input s)).state).state
      → AllByRecursion (Holds (step s input).state) (step s input).outs
  unfolding step
  said-step s input good =
      let a : Advanced = advance (moment_at (reading input) s) (count_input s) in
      said-after a.hangs input a.state good
