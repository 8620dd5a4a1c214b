-- A step, one part after the other.
use Rattle.std.proofs.Common.{◌≡◌, ℕ, zero, suc, ◌+◌, ◌<◌, ◌≤◌, ◌^◌, Bool, true, false, List, [], ◌∷◌, ◌++◌, map, length, max, min, nat_le, Option, Some, None, Result, Ok, Err, OnOk, refl, sym, ap, ◌∙◌, arith, subst}
use Rattle.std.proofs.lemmas.Bool.Decides.{nat_tests}
use Rattle.std.proofs.lemmas.List.{append-nil, append_assoc}
use Rattle.kinds.specs.Inputs.{reading}
use Rattle.kinds.specs.Moments.{last_moment}
use Rattle.kinds.specs.Answer.{ids_answer}
use Rattle.kinds.specs.RunSteps.{is_recorded}
use Rattle.kinds.specs.declared.event.EventIn.{EventIn}
use Rattle.kinds.specs.declared.input.Input.{Input}
use Rattle.kinds.specs.declared.input.Input.TheVariants.{Events, Register, Reply, CallFailed, Tick, Cancel, Reopened}
use Rattle.kinds.specs.declared.out.Out.{Out}
use Rattle.kinds.specs.declared.refusal.Refusal.TheVariants.{NumbersSpent}
use Rattle.kinds.specs.declared.store.Item.{Item}
use Rattle.lists.proofs.Keyed.{cond_none}
use Rattle.run_model.specs.Advance.{Advanced, advance}
use Rattle.run_model.specs.Events.{add_event, event_with}
use Rattle.run_model.specs.Machine.{Accepts, act, count_input, refusal_by_kind, requeue_all, requeue_found, spent, step}
use Rattle.run_model.specs.Making.{queue}
use Rattle.run_model.specs.Recording.{at_once, change_run}
use Rattle.run_model.specs.Replies.{want}
use Rattle.run_model.specs.Requests.{cancel_found, on_events, remember}
use Rattle.run_model.specs.Settle.{Settled, call_found, issue_found, issue_of, item_at, next_issued, settle, settle_by}
use Rattle.run_model.specs.State.{State, Run, Issue, function_at, greatest, live_run, moment_at, tidied}
use Rattle.run_model.specs.Fit.{HasOwnNumbers}
use Rattle.run_model.proofs.Apart.{Beside, apart-step, apart-steps}
use Rattle.run_model.proofs.FitCounts.{fit-rest}
use Rattle.run_model.proofs.FitSteps.{moment-within}
use Rattle.run_model.proofs.Kept.{Keeps, kept-discover}
use Rattle.run_model.proofs.KeptEvents.{kept-cancel_found, kept-on_events}
use Rattle.run_model.proofs.KeptSteps.{goes-on, kept-act, kept-advance}
use Rattle.run_model.proofs.KeptReplies.{KeepsCalls, dropping, kept-on_call_failed, kept-on_reply}
use Rattle.machine.specs.Advance.{hang}
use Rattle.machine.specs.Held.{Becomes, IsHeld}
use Rattle.machine.specs.View.{state_of}
use Rattle.machine.specs.Words.{answering, cancel_at, with_outs}
use Rattle.machine.specs.declared.parts.Parts.{Parts}
use Rattle.machine.proofs.Staying.{keeps-seen}

-- ## The input counts

pub held-counted : (m : Parts) → IsHeld m
    → Becomes (count_input (state_of m)) m (record m { counts = record m.counts { inputs = m.counts.inputs + 1 } })
held-counted m h = record {
  state = refl;
  held = record {
    fit = fit-rest (m.counts.inputs + 1) m.admission.starts m.ended (state_of m) h.fit;
    wants = h.wants;
    events = h.events;
    versions = h.versions;
    ends = h.ends;
    clock = h.clock;
  };
  clock = refl;
}

few-counted : (s : State) (input : Input) → Accepts s input → nat_le spent (greatest s) ≡ false
few-counted s input accepted =
    (cond_none (nat_le spent (greatest s)) (NumbersSpent (greatest s)) (refusal_by_kind s input) accepted).0

pub room-counted : (s : State) (input : Input) → Accepts s input → s.inputs < 2 ^ 61
room-counted s input accepted =
    low s.inputs s.events (max s.runs s.calls) (max s.entries s.versions) (few-counted s input accepted)
  where
    low : (a b c d : ℕ) → nat_le (2 ^ 61) (max (max (max a b) c) d) ≡ false → a < 2 ^ 61
    low a b c d h = grind (arith, nat_tests, h)

-- ## Settling

abbrev said_before : List Out → Settled → Settled
said_before outs t = record t { outs = outs ++ t.outs }

before-of : (outs : List Out) (run : Option Run) (i : Item) (t : Settled)
    → issue_of run i (said_before outs t) ≡ said_before outs (issue_of run i t)
before-of outs None i t = refl
before-of outs (Some r) i t =
    ap (λ os. with_outs os (issue_of (Some r) i t).state)
    (append_assoc outs t.outs (call_found (function_at r.version t.state) r i (t.state.calls + 1) t.state))

before-found : (outs : List Out) (found : Option Item) (t : Settled)
    → issue_found found (said_before outs t) ≡ said_before outs (issue_found found t)
before-found outs None t = refl
before-found outs (Some i) t = before-of outs (live_run i.run t.state) i t

abbrev turned : (Settled → Settled) → Settled → Option ℕ → Settled
turned more t next = elim next as (λ _. Settled) [ None ↦ t | Some number ↦ more (issue_found (item_at number t.state) t) ]

before-turn : (outs : List Out) (n : ℕ) (t : Settled) (next : Option ℕ)
    → ((u : Settled) → settle_by n (said_before outs u) ≡ said_before outs (settle_by n u))
    → turned (settle_by n) (said_before outs t) next ≡ said_before outs (turned (settle_by n) t next)
before-turn outs n t None more = refl
before-turn outs n t (Some number) more =
    ap (settle_by n) (before-found outs (item_at number t.state) t) ∙ more (issue_found (item_at number t.state) t)

before-by : (outs : List Out) (n : ℕ) (t : Settled)
    → settle_by n (said_before outs t) ≡ said_before outs (settle_by n t)
unfolding settle_by
before-by outs zero t = refl
before-by outs (suc n) t = before-turn outs n t (next_issued t.state) (before-by outs n)

settle-before : (outs : List Out) (s : State)
    → settle (with_outs outs s) ≡ said_before outs (settle (with_outs [] s))
settle-before outs s =
    ap (λ os. settle (with_outs os s)) (sym (append-nil outs)) ∙ before-by outs (length s.items) (with_outs [] s)

-- ## The moment stays

moment-of : (run : Option Run) (i : Item) (t : Settled) → (issue_of run i t).state.moment ≡ t.state.moment
moment-of None i t = refl
moment-of (Some r) i t = refl

moment-found : (found : Option Item) (t : Settled) → (issue_found found t).state.moment ≡ t.state.moment
moment-found None t = refl
moment-found (Some i) t = moment-of (live_run i.run t.state) i t

moment-turn : (n : ℕ) (t : Settled) (next : Option ℕ)
    → ((u : Settled) → (settle_by n u).state.moment ≡ u.state.moment)
    → (turned (settle_by n) t next).state.moment ≡ t.state.moment
moment-turn n t None more = refl
moment-turn n t (Some number) more =
    more (issue_found (item_at number t.state) t) ∙ moment-found (item_at number t.state) t

moment-settled : (n : ℕ) (t : Settled) → (settle_by n t).state.moment ≡ t.state.moment
unfolding settle_by
moment-settled zero t = refl
moment-settled (suc n) t = moment-turn n t (next_issued t.state) (moment-settled n)

abbrev At : ℕ → State → Type 0
At t s = s.moment ≡ t

at-accepted : (t : ℕ) (event : EventIn) (id : Option (List ℕ)) (s : State) → At t s
    → At t (add_event (event_with event s) (remember id s))
at-accepted t event None s h = h
at-accepted t event (Some id) s h = h

keeps-at : (t : ℕ) → Keeps (At t)
keeps-at t = keeps-seen (λ functions texts events moment. moment ≡ t) (at-accepted t)

calls-at : (t : ℕ) → KeepsCalls (λ is s. At t s)
calls-at t = dropping (λ is s. At t s) (record {
  runs = λ is. keeps-at t;
  closes = λ i s there h. h;
  reopens = λ s h. h;
  drops = λ i is s h. h;
  retries = λ i is a r s live new h. h;
  requeues = λ i is r s live new h. h;
})

moment-requeued : (i : Item) (found : Option Run) (s : State) → (requeue_found i found s).moment ≡ s.moment
moment-requeued i None s = refl
moment-requeued i (Some r) s = by_test (is_recorded i.target r.steps)
  where
    by_test : (b : Bool) → (elim b as (λ _. State) [
      | true ↦ change_run r.number want s
      | false ↦ queue (record i { due = s.moment }) s
    ]).moment ≡ s.moment
    by_test true = refl
    by_test false = refl

moment-requeue_all : (is : List Issue) (s : State) → (requeue_all is s).moment ≡ s.moment
moment-requeue_all [] s = refl
moment-requeue_all (i ∷ is) s =
    moment-requeue_all is (requeue_found i.item (live_run i.item.run s) s)
    ∙ moment-requeued i.item (live_run i.item.run s) s

pub act-moment : (input : Input) (s : State) → (act input s).state.moment ≡ s.moment
unfolding act
act-moment (Events at events) s = kept-on_events (At s.moment) (keeps-at s.moment) events (answering s) refl
act-moment (Register at app) s = refl
act-moment (Reply at call reply) s =
    kept-on_reply (λ is u. At s.moment u) (calls-at s.moment) call reply s refl
act-moment (CallFailed at call) s = kept-on_call_failed (λ is u. At s.moment u) (calls-at s.moment) call s refl
act-moment (Tick at) s = refl
act-moment (Cancel at run) s =
    kept-cancel_found (At s.moment) (keeps-at s.moment) run (live_run run s) s refl refl
act-moment (Reopened at) s =
    kept-discover (At s.moment) (keeps-at s.moment) (requeue_all s.issues (record s { issues = [] }))
    (moment-requeue_all s.issues (record s { issues = [] }))

-- after the input has acted, and after calls were made, the clock stands where it did
pub clock-acted : (input : Input) (m new : Parts) → Becomes (act input (state_of m)).state m new
    → m.admission.moment ≡ m.moment → new.admission.moment ≡ new.moment
clock-acted input m new b now =
    b.clock ∙ now ∙ sym (ap (λ (s : State). s.moment) b.state ∙ act-moment input (state_of m))

pub clock-settled : (outs : List Out) (m new : Parts) → Becomes (settle (with_outs outs (state_of m))).state m new
    → m.admission.moment ≡ m.moment → new.admission.moment ≡ new.moment
clock-settled outs m new b now =
    b.clock ∙ now
    ∙ sym (ap (λ (s : State). s.moment) b.state
    ∙ moment-settled (length m.admission.items) (with_outs outs (state_of m)))

-- ## Items have numbers of their own

pub advanced-apart : (t : ℕ) (s u : State) → t ≤ last_moment → s.moment ≤ t → u ≡ (advance t s).state
    → HasOwnNumbers s → HasOwnNumbers u
advanced-apart t s u low on e h = subst HasOwnNumbers (sym e)
    (kept-advance last_moment (λ input. Unit {0}) Beside (apart-steps last_moment) t s low on h)

pub acted-apart : (input : Input) (s u : State) → u ≡ (act input s).state → HasOwnNumbers s → HasOwnNumbers u
acted-apart input s u e h = subst HasOwnNumbers (sym e)
    (kept-act last_moment (λ _. Unit {0}) Beside (apart-steps last_moment) input s tt h)

-- ## All parts

module _ (s : State) (input : Input) (advanced acted settled_state end : State) (hung said all : List Out) where
  abbrev whole : Advanced
  whole = advance (moment_at (reading input) s) (count_input s)

  pub step-state : advanced ≡ whole.state → acted ≡ (act input advanced).state
      → settled_state ≡ (settle (with_outs said acted)).state → end ≡ tidied settled_state → end ≡ (step s input).state
  unfolding step
  step-state a b c d =
      d ∙ ap tidied (c ∙ ap (λ (t : Settled). t.state) (settle-before said acted)
      ∙ ap (λ u. (settle (with_outs [] u)).state) (b ∙ ap (λ u. (act input u).state) a))

  pub step-outs : advanced ≡ whole.state → acted ≡ (act input advanced).state → hung ≡ map hang whole.hangs
      → said ≡ hung ++ (act input advanced).outs → all ≡ (settle (with_outs said acted)).outs
      → all ≡ (step s input).outs
  unfolding step
  step-outs a b c d e =
      e ∙ ap (λ (t : Settled). t.outs) (settle-before said acted)
      ∙ ap (λ os. os ++ (settle (with_outs [] acted)).outs)
      (d ∙ ap (λ os. os ++ (act input advanced).outs) c ∙ ap (λ u. map hang whole.hangs ++ (act input u).outs) a)
      ∙ ap (λ u. map hang whole.hangs ++ (act input whole.state).outs ++ (settle (with_outs [] u)).outs)
      (b ∙ ap (λ u. (act input u).state) a)

-- the input's moment
pub moment-is : (s : State) (input : Input) (at low moment : ℕ) → at ≡ reading input → low ≡ min at last_moment
    → moment ≡ max s.moment low → moment ≡ moment_at (reading input) s
moment-is s input at low moment a b c = c ∙ ap (max s.moment) (b ∙ ap (λ x. min x last_moment) a)

module _ (m counted : Parts) (input : Input) (moment : ℕ) (is : moment ≡ moment_at (reading input) (state_of m))
    (count : Becomes (count_input (state_of m)) m counted) where
  goes_to : m.moment ≤ moment
  goes_to = subst (λ t. m.moment ≤ t) (sym is) (goes-on m.moment (min (reading input) last_moment))

  pub counted-later : m.admission.moment ≡ m.moment → counted.admission.moment ≤ moment
  counted-later now =
      subst (λ t. t ≤ moment) (sym (count.clock ∙ now)) goes_to

  pub counted-near : IsHeld m → moment ≤ last_moment
  counted-near h = subst (λ t. t ≤ last_moment) (sym is) (moment-within (reading input) (state_of m) h.fit)

  pub counted-apart : HasOwnNumbers (state_of m) → HasOwnNumbers (state_of counted)
  counted-apart h = subst HasOwnNumbers (sym count.state) h

  module _ (advanced : Parts) (arrives : state_of advanced ≡ (advance moment (state_of counted)).state) where
    pub then-apart : IsHeld m → HasOwnNumbers (state_of m) → HasOwnNumbers (state_of advanced)
    then-apart h apart = advanced-apart moment (state_of counted) (state_of advanced) (counted-near h)
        (subst (λ t. t ≤ moment) (sym (ap (λ (s : State). s.moment) count.state)) goes_to) arrives
        (counted-apart apart)

    whole-is : advance moment (state_of counted)
        ≡ advance (moment_at (reading input) (state_of m)) (count_input (state_of m))
    whole-is = ap (λ t. advance t (state_of counted)) is
        ∙ ap (advance (moment_at (reading input) (state_of m))) count.state

    pub whole-step : (acted settled_parts end : Parts) (hung said all : List Out)
        → hung ≡ map hang (advance moment (state_of counted)).hangs
        → state_of acted ≡ (act input (state_of advanced)).state
        → said ≡ hung ++ (act input (state_of advanced)).outs
        → state_of settled_parts ≡ (settle (with_outs said (state_of acted))).state
        → all ≡ (settle (with_outs said (state_of acted))).outs → state_of end ≡ tidied (state_of settled_parts)
        → (state_of end ≡ (step (state_of m) input).state) × (all ≡ (step (state_of m) input).outs)
    whole-step acted settled_parts end hung said all a b c d e f =
        let first = arrives ∙ ap (λ (x : Advanced). x.state) whole-is in (
          step-state (state_of m) input (state_of advanced) (state_of acted) (state_of settled_parts) (state_of end)
              hung said all first b d f,
          step-outs (state_of m) input (state_of advanced) (state_of acted) (state_of settled_parts) (state_of end)
              hung said all first b (a ∙ ap (λ (x : Advanced). map hang x.hangs) whole-is) c e,
        )

pub step-apart : (m end : Parts) (input : Input) → state_of end ≡ (step (state_of m) input).state
    → HasOwnNumbers (state_of m) → HasOwnNumbers (state_of end)
step-apart m end input e h = subst HasOwnNumbers (sym e) (apart-step (state_of m) input h)

-- ## Cancellations

pub cancel-found : (found : Option Run) (s : State) → cancel_at at_once found s ≡ cancel_found found s
cancel-found None s = refl
cancel-found (Some r) s = refl

pub on-any : {A E : Type 0} (r : Result A E) (P : Type 0) → P → OnOk r P
on-any (Ok a) P p = p
on-any (Err e) P p = tt

pub events-outs : (at : ℕ) (events given : List EventIn) (s : State) (input : Input) → given ≡ events
    → input ≡ Events at events → ids_answer (on_events given (answering s)).numbers ∷ [] ≡ (act input s).outs
unfolding act
events-outs at events given s input same is =
    ap (λ es. ids_answer (on_events es (answering s)).numbers ∷ []) same ∙ ap (λ i. (act i s).outs) (sym is)
