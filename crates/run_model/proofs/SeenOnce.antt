-- Remembered ids: no two are equal, and each is of an event that was numbered, within the last day.
use Rattle.std.proofs.Common.{◌≡◌, ◌≢◌, ℕ, ◌+◌, ◌<◌, ◌≤◌, Bool, true, false, not, List, [], ◌∷◌, ◌++◌, filter, max, min, Option, Some, None, refl, sym, ap, subst, nat_lt, bytes_eq, arith}
use Rattle.std.specs.List.{AllByRecursion}
use Rattle.kinds.specs.Inputs.{reading}
use Rattle.kinds.specs.Moments.{last_moment}
use Rattle.kinds.specs.Seen.{has_id, insert_seen, is_remembered, note_seen, without_id}
use Rattle.kinds.specs.declared.event.EventIn.{EventIn}
use Rattle.kinds.specs.declared.input.Input.{Input}
use Rattle.kinds.specs.declared.limits.Limits.{Limits}
use Rattle.kinds.specs.declared.seen.SeenEntry.{SeenEntry}
use Rattle.lists.proofs.Elements.{all-both, all-filter, all-last, all-weaker, filter-passes}
use Rattle.lists.proofs.Texts.{bytes_self}
use Rattle.run_model.specs.Advance.{advance, most}
use Rattle.run_model.specs.Events.{add_event, event_with}
use Rattle.run_model.specs.Machine.{act, count_input, fold, state_after, step}
use Rattle.run_model.specs.Requests.{remember}
use Rattle.run_model.specs.Settle.{settle}
use Rattle.run_model.specs.Sound.{ArePairwise, IsSeen, RemembersOnce, StandsApart}
use Rattle.run_model.specs.State.{State, empty, moment_at, tidied}
use Rattle.run_model.proofs.Apart.{pairs-last}
use Rattle.run_model.proofs.FitWindows.{not-true, pairs-filter}
use Rattle.run_model.proofs.Kept.{Keeps, freely}
use Rattle.run_model.proofs.KeptReplies.{KeepsCalls, dropping}
use Rattle.run_model.proofs.KeptSteps.{KeepsActs, KeepsSteps, acted, acted-settled, all_fired, goes-on, is-due, kept-fire_by}

-- ## An id that is noted

-- an entry above all others in number comes last
insert-above : (entry : SeenEntry) (es : List SeenEntry)
    → AllByRecursion (λ (e : SeenEntry). e.number < entry.number) es → insert_seen entry es ≡ es ++ entry ∷ []
insert-above entry [] h = refl
insert-above entry (e ∷ es) h =
    let below : nat_lt entry.number e.number ≡ false = grind (arith, h.0) in
    rw below (ap (λ rest. e ∷ rest) (insert-above entry es h.1))

-- what isn't of an id has another
other-id : (id : List ℕ) (e : SeenEntry) → not (has_id id e) ≡ true → e.id ≢ id
other-id id e h same =
    let own : bytes_eq id e.id ≡ true = subst (λ i. bytes_eq id i ≡ true) (sym same) (bytes_self id) in
    let no : bytes_eq id e.id ≡ false = not-true (has_id id e) h in
    cc

-- so many events were numbered, and this holds of each entry
pub record Seen (Q : SeenEntry → Type 0) (events : ℕ) (seen : List SeenEntry) : Type 0 where
  pub numbered : AllByRecursion (λ (e : SeenEntry). e.number ≤ events) seen
  pub each : AllByRecursion Q seen
  pub order : ArePairwise StandsApart seen

module _ (Q : SeenEntry → Type 0) (events : ℕ) (seen : List SeenEntry) (h : Seen Q events seen) where
  seen-more : Seen Q (events + 1) seen
  seen-more = record {
    numbered = all-weaker (λ (e : SeenEntry). e.number ≤ events) (λ (e : SeenEntry). e.number ≤ events + 1) seen
        (λ e (low : e.number ≤ events). omega (arith, low)) h.numbered;
    each = h.each;
    order = h.order;
  }

  seen-fewer : (P : SeenEntry → Type 0) (test : SeenEntry → Bool) → ((e : SeenEntry) → Q e → test e ≡ true → P e)
      → Seen P events (filter test seen)
  seen-fewer P test now = record {
    numbered = all-filter (λ (e : SeenEntry). e.number ≤ events) test seen h.numbered;
    each = all-both Q (λ e. test e ≡ true) P (filter test seen) (λ e k passes. now e k passes)
        (all-filter Q test seen h.each) (filter-passes test seen);
    order = pairs-filter StandsApart test seen h.order;
  }

  seen-noted : (entry : SeenEntry) → entry.number ≡ events + 1 → Q entry
      → Seen Q (events + 1) (note_seen entry seen)
  seen-noted entry next own =
      let others : List SeenEntry = without_id entry.id seen in
      let low : AllByRecursion (λ (e : SeenEntry). e.number ≤ events) others =
      all-filter (λ (e : SeenEntry). e.number ≤ events) (λ e. not (has_id entry.id e)) seen h.numbered in
      let below : AllByRecursion (λ (e : SeenEntry). e.number < entry.number) others =
      all-weaker (λ (e : SeenEntry). e.number ≤ events) (λ (e : SeenEntry). e.number < entry.number) others
      (λ e (k : e.number ≤ events). omega (arith, k, next)) low in
      let apart : AllByRecursion (λ (e : SeenEntry). StandsApart e entry) others =
      all-both (λ (e : SeenEntry). e.number < entry.number) (λ e. not (has_id entry.id e) ≡ true)
      (λ (e : SeenEntry). StandsApart e entry) others (λ e k other. (k, other-id entry.id e other)) below
      (filter-passes (λ e. not (has_id entry.id e)) seen) in
      subst (λ es. Seen Q (events + 1) es) (sym (insert-above entry others below)) (record {
        numbered = all-last (λ (e : SeenEntry). e.number ≤ events + 1) others entry
            (all-weaker (λ (e : SeenEntry). e.number ≤ events) (λ (e : SeenEntry). e.number ≤ events + 1) others
            (λ e (k : e.number ≤ events). omega (arith, k)) low) (omega (arith, next));
        each = all-last Q others entry (all-filter Q (λ e. not (has_id entry.id e)) seen h.each) own;
        order = pairs-last StandsApart others entry
            (pairs-filter StandsApart (λ e. not (has_id entry.id e)) seen h.order) apart;
      })

-- ## The changes

-- what holds of the moment makes what holds of each entry that is noted then
module _ (M : ℕ → Type 0) (Q : SeenEntry → Type 0)
    (noted : (id : List ℕ) (number m : ℕ) → M m → Q (record { id = id; number = number; moment = m })) where
  abbrev pub Remembers : State → Type 0
  Remembers s = M s.moment × Seen Q s.events s.seen

  remembers-accepted : (event : EventIn) (id : Option (List ℕ)) (s : State) → Remembers s
      → Remembers (add_event (event_with event s) (remember id s))
  remembers-accepted event None s h = (h.0, seen-more Q s.events s.seen h.1)
  remembers-accepted event (Some id) s h = (
    h.0,
    seen-noted Q s.events s.seen h.1 (record { id = id; number = s.events + 1; moment = s.moment }) refl
        (noted id (s.events + 1) s.moment h.0),
  )

  keeps-remembers : Keeps Remembers
  keeps-remembers = freely Remembers (record {
    accepts = λ event id s new h. remembers-accepted event id s h;
    starts = λ f event parent s there given h. h;
    fills = λ f r value event s may full h. h;
    fires = λ f w s there stands h. h;
    joins = λ f r value event s may full h. h;
    windows_go = λ number s h. h;
    rules = λ r event c s there e h. h;
    finds_out = λ r s there h. h;
    wants = λ r s live h. h;
    plans = λ r name s live new h. h;
    sleeps = λ r name t s live new h. h;
    waits = λ r name event t cond s live new h. h;
    pends = λ r name s live new h. h;
    invokes = λ r name child t s there h. h;
    ends = λ r status s live h. h;
  }) (record {
    records = λ run name result s h. h;
    sleeps_go = λ test s h. h;
    waits_go = λ test s h. h;
    invocations_go = λ test s h. h;
    rules_go = λ test s h. h;
  })

  remembers-calls : KeepsCalls (λ is s. Remembers s)
  remembers-calls = dropping (λ is s. Remembers s) (record {
    runs = λ is. keeps-remembers;
    closes = λ i s there h. h;
    reopens = λ s h. h;
    drops = λ i is s h. h;
    retries = λ i is a r s live new h. h;
    requeues = λ i is r s live new h. h;
  })

  remembers-tidied : (s : State) → Remembers s → Remembers (tidied s)
  unfolding tidied
  remembers-tidied s h = h

  remembers-acts : KeepsActs (λ input. Unit {0}) (λ is s. Remembers s)
  remembers-acts = record {
    calls = remembers-calls;
    issues = λ number i s next there h. h;
    registers = λ at app s asked h. h;
    tidies = remembers-tidied;
  }

-- ## A step

module _ (t : ℕ) where
  -- on the way to the moment
  abbrev IsBy : SeenEntry → Type 0
  IsBy e = e.moment ≤ t

  -- at the moment
  abbrev pub IsNow : SeenEntry → Type 0
  IsNow e = (e.moment ≤ t) × (is_remembered t e ≡ true)

  abbrev pub IsAt : ℕ → Type 0
  IsAt m = m ≡ t

  by-noted : (id : List ℕ) (number m : ℕ) → m ≤ t → IsBy (record { id = id; number = number; moment = m })
  by-noted id number m h = h

  pub now-noted : (id : List ℕ) (number m : ℕ) → IsAt m → IsNow (record { id = id; number = number; moment = m })
  now-noted id number m h = (omega (arith, h), grind (arith, h))

  by-steps : KeepsSteps t (λ input. Unit {0}) (λ is s. Remembers (λ m. m ≤ t) IsBy by-noted s)
  by-steps = record {
    calls = remembers-calls (λ m. m ≤ t) IsBy by-noted;
    counts = λ s h. h;
    moves = λ u next s low e h. (omega (arith, low, (is-due u s next e).0), h.1);
    arrives = λ u s low on before h.
        (low, seen-fewer IsBy _ _ h.1 IsBy (is_remembered u) (λ e k passes. k));
    issues = λ number i s next there h. h;
    registers = λ at app s asked h. h;
    tidies = remembers-tidied (λ m. m ≤ t) IsBy by-noted;
  }

  by-advanced : (s : State) → s.moment ≤ t → Remembers (λ m. m ≤ t) IsBy by-noted s
      → Remembers IsAt IsNow now-noted (advance t s).state
  unfolding advance
  by-advanced s on h =
      let a : State = all_fired t s in
      let k : Remembers (λ m. m ≤ t) IsBy by-noted a =
      kept-fire_by t (λ input. Unit {0}) (λ is s. Remembers (λ m. m ≤ t) IsBy by-noted s) by-steps most t
      (record { state = s; hangs = [] }) (omega arith) h in
      (refl, seen-fewer IsBy a.events a.seen k.1 IsNow (is_remembered t) (λ e low passes. (low, passes)))

  now-acted : (input : Input) (s : State) → Remembers IsAt IsNow now-noted s
      → Remembers IsAt IsNow now-noted (tidied (settle (record { state = (act input s).state; outs = [] })).state)
  now-acted input s h =
      acted-settled (λ input. Unit {0}) (λ is s. Remembers IsAt IsNow now-noted s)
      (remembers-acts IsAt IsNow now-noted) (act input s).state
      (acted (λ input. Unit {0}) (λ is s. Remembers IsAt IsNow now-noted s) (remembers-acts IsAt IsNow now-noted) input
      s tt h)

-- so it is after an input, and its moment is the state's
now-step : (s : State) (input : Input) → Remembers (λ m. m ≡ s.moment) (IsNow s.moment) (now-noted s.moment) s
    → Remembers (λ m. m ≡ moment_at (reading input) s) (IsNow (moment_at (reading input) s))
    (now-noted (moment_at (reading input) s)) (step s input).state
unfolding step
now-step s input h =
    let t : ℕ = moment_at (reading input) s in
    let on : s.moment ≤ t = goes-on s.moment (min (reading input) last_moment) in
    now-acted t input (advance t (count_input s)).state
    (by-advanced t (count_input s) on (
      on,
      record {
        numbered = h.1.numbered;
        each = all-weaker (IsNow s.moment) (IsBy t) s.seen (λ e k. let low = k.0 in omega (arith, on, low)) h.1.each;
        order = h.1.order;
      },
    ))

abbrev pub HasSeen : State → Type 0
HasSeen s = Remembers (λ m. m ≡ s.moment) (IsNow s.moment) (now-noted s.moment) s

pub seen-step : (s : State) (input : Input) → HasSeen s → HasSeen (step s input).state
seen-step s input h =
    let t : ℕ = moment_at (reading input) s in
    let k = now-step s input h in
    (refl, subst (λ m. Seen (IsNow m) (step s input).state.events (step s input).state.seen) (sym k.0) k.1)

seen-after : (inputs : List Input) (s : State) → HasSeen s → HasSeen (state_after s inputs)
seen-after [] s h = h
seen-after (input ∷ inputs) s h = seen-after inputs (step s input).state (seen-step s input h)

pub seen-empty : (limits : Limits) → HasSeen (empty limits)
seen-empty limits = (refl, record { numbered = tt; each = tt; order = tt })

pub seen-fold : (limits : Limits) (inputs : List Input) → RemembersOnce (fold limits inputs)
seen-fold limits inputs =
    let s : State = fold limits inputs in
    let h : HasSeen s = seen-after inputs (empty limits) (seen-empty limits) in
    record {
      entries = all-both (λ (e : SeenEntry). e.number ≤ s.events) (IsNow s.moment) (IsSeen s) s.seen
          (λ e low now. record { numbered = low; dated = now.0; remembered = now.1 }) h.1.numbered h.1.each;
      apart = h.1.order;
    }

-- the moment is the last input's, where that isn't before
pub moment-step : (s : State) (input : Input) → HasSeen s → (step s input).state.moment ≡ moment_at (reading input) s
moment-step s input h = (now-step s input h).0

moment-after : (inputs : List Input) (s : State) → HasSeen s → s.moment ≤ last_moment
    → (state_after s inputs).moment ≤ last_moment
moment-after [] s h low = low
moment-after (input ∷ inputs) s h low =
    moment-after inputs (step s input).state (seen-step s input h)
    (subst (λ m. m ≤ last_moment) (sym (moment-step s input h)) (lower s.moment (reading input) last_moment low))
  where
    lower : (a b most : ℕ) → a ≤ most → max a (min b most) ≤ most
    lower a b most c = grind (arith, c)

pub moment-fold : (limits : Limits) (inputs : List Input) → (fold limits inputs).moment ≤ last_moment
moment-fold limits inputs =
    moment-after inputs (empty limits) (seen-empty limits) (omega arith)
