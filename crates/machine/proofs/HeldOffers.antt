-- What becomes of an event that is offered to a function, and the parts after it opened or joined a window.
use Rattle.std.proofs.Common.{◌≡◌, ℕ, suc, ◌+◌, ◌<◌, ◌≤◌, ◌==◌, ◌⊎◌, inl, inr, Bool, true, false, not, ◌||◌, cond, List, [], ◌∷◌, ◌++◌, take, drop, find, length, get_or, slice_get, Option, Some, None, is_some, option_map, refl, sym, ap, ◌∙◌, arith, subst, drop-cons, add-one, eq-eqb, eqb-true}
use Rattle.std.specs.List.{AllByRecursion, list_any}
use Rattle.std.proofs.lemmas.List.{take-append-drop}
use Rattle.std.proofs.lemmas.Option.{slice_get_cases}
use Rattle.awaited.specs.declared.placed.Placed.{Placed}
use Rattle.awaited.specs.declared.placed.Placed.TheVariants as placed
use Rattle.functions.specs.declared.entry.FunctionEntry.{FunctionEntry}
use Rattle.event_keys.specs.Expressions.{key_value}
use Rattle.kinds.specs.Windows as windows
use Rattle.kinds.specs.Windows.{IsRule, after_event, has_room, is_full, is_of, joined}
use Rattle.kinds.specs.declared.event.Event.{Event}
use Rattle.kinds.specs.declared.window.Window.{Window}
use Rattle.kinds.specs.declared.window.WindowRule.{WindowRule}
use Rattle.lists.proofs.Elements.{all-weaker}
use Rattle.lists.proofs.Keyed.{cond_none}
use Rattle.run_model.specs.Events.{in_window, is_triggered, key_of, offer, offer_by, offer_to, offer_to_all, window_of, window_rule_of, with_window}
use Rattle.run_model.specs.Fit.{AreGiven, IsFit}
use Rattle.run_model.specs.Laws.{IsIn}
use Rattle.run_model.specs.Making.{make_run}
use Rattle.run_model.specs.State.{State, Run, EventText, function_at, is_in, text_of}
use Rattle.run_model.proofs.FitUses.{new-window, rule-in-range, window-has-room}
use Rattle.run_model.proofs.FitWindows.{after-given, fit-joined, fit-windows_left, full-keeps, is-before, with_after}
use Rattle.run_model.proofs.Kept.{IsFunction, MayJoin, window_after, with_offer}
use Rattle.run_model.proofs.KeptEvents.{kept-offer}
use Rattle.run_model.proofs.Members.{in-back, in-found, in-front}
use Rattle.run_model.proofs.SettlingLists.{found-passes, same-some}
use Rattle.machine.specs.Held.{AreEventsRight, AreVersionsRight, Becomes, IsEventRight, IsHeld, is_version_in_use}
use Rattle.machine.specs.Numbers.{AreJoined, IsJoined, Keeps, has_number}
use Rattle.machine.specs.Offers.{IsOffer, IsOfferAt, IsOfferRight, IsRuleOf, after_join, events_in, gather_at, joined_at, last_entry, offer_of, placed_at, take_offer, value_by, without_key}
use Rattle.machine.specs.Offers as offers
use Rattle.machine.specs.View.{state_of}
use Rattle.machine.specs.Words.{event_at, make_at}
use Rattle.machine.specs.declared.offers.Offer.{Offer}
use Rattle.machine.specs.declared.offers.Offer.TheVariants as offered
use Rattle.machine.specs.declared.parts.Parts.{Parts}
use Rattle.machine.proofs.HeldEvents.{untouched}
use Rattle.machine.proofs.HeldMaking.{some-mapped}
use Rattle.machine.proofs.HeldWords.{becomes-then}
use Rattle.machine.proofs.WindowsAfter.{after-events, after-value, after-version, any-standing, before-not-in, before-version, count-by, found-of, keyless-after, keyless-in, keyless-room, keyless-rule, keyless-with, not-in, other-version}
use Rattle.machine.proofs.Staying.{Stays, keeps-stays, same-event}

-- ## What an event is offered as

module _ (f : FunctionEntry) (event : Event) where
  pub offered-nothing : is_triggered event f ≡ false → IsOffer f event offered.Nothing
  offered-nothing e = sym (ap (λ b. elim b as (λ _. Offer)
      [ true ↦ offers.offer_by f (window_rule_of f.function) event.text | false ↦ offered.Nothing ]) e)

  triggered : is_triggered event f ≡ true → offer_of f event ≡ offers.offer_by f (window_rule_of f.function) event.text
  triggered e = ap (λ b. elim b as (λ _. Offer)
      [ true ↦ offers.offer_by f (window_rule_of f.function) event.text | false ↦ offered.Nothing ]) e

  run-by : (r : Option WindowRule) → None ≡ option_map without_key r
      → offered.Run f.version ≡ offers.offer_by f r event.text
  run-by None h = refl
  run-by (Some r) h = cc

  pub offered-run : is_triggered event f ≡ true → None ≡ option_map without_key (window_rule_of f.function)
      → IsOffer f event (offered.Run f.version)
  offered-run e h = run-by (window_rule_of f.function) h ∙ sym (triggered e)

  window-by : (r : Option WindowRule) (k : WindowRule) (value : List ℕ) → Some k ≡ option_map without_key r
      → value ≡ value_by r event.text → offered.Window f.version k value ≡ offers.offer_by f r event.text
  window-by None k value h is = cc
  window-by (Some r) k value h is =
      ap (λ x. offered.Window f.version x value) (same-some k (without_key r) h)
      ∙ ap (λ x. offered.Window f.version (without_key r) x) is

  pub offered-window : (k : WindowRule) (value : List ℕ) → is_triggered event f ≡ true
      → Some k ≡ option_map without_key (window_rule_of f.function)
      → value ≡ value_by (window_rule_of f.function) event.text → IsOffer f event (offered.Window f.version k value)
  offered-window k value e h is = window-by (window_rule_of f.function) k value h is ∙ sym (triggered e)

-- ## What an offer does

-- a function by its version is the function
pub own-function : (f : FunctionEntry) (s : State) → IsFit s → IsFunction f s → function_at f.version s ≡ Some f
own-function f s h there = by_found (function_at f.version s) refl
  where
    by_version : FunctionEntry → Bool
    by_version g = f.version == g.version

    none-there : (fs : List FunctionEntry) → IsIn f fs → find by_version fs ≡ None → ⊥
    none-there [] here e = here
    none-there (g ∷ gs) (inl same) e =
        let parts = cond_none (by_version g) g (find by_version gs) e in
        let clash : true ≡ false =
        sym (eq-eqb f.version g.version (ap (λ (k : FunctionEntry). k.version) (sym same))) ∙ parts.0 in cc
    none-there (g ∷ gs) (inr here) e =
        none-there gs here (cond_none (by_version g) g (find by_version gs) e).1

    by_found : (found : Option FunctionEntry) → function_at f.version s ≡ found → function_at f.version s ≡ Some f
    by_found None e = absurd (none-there (s.functions ++ s.retired) there e)
    by_found (Some g) e =
        let at : f.version ≡ g.version =
        eqb-true f.version g.version (found-passes by_version (s.functions ++ s.retired) g e) in
        e ∙ ap Some (sym (h.functions_fit.one f g there
        (in-found by_version (s.functions ++ s.retired) g e) at))

gathered : (f : FunctionEntry) (r : WindowRule) (value : List ℕ) (event : Event) (s : State)
    → gather_at (Some f) (without_key r) value event.number s ≡ offer_by f r value event s
gathered f r value event s =
    let before : Option Window = window_of f.version value s in
    ap (λ w. in_window f (without_key r) before w s)
    (keyless-after r f.version value event.number s.moment (s.entries + 1) before)
    ∙ keyless-in f r before (after_event r f.version value event.number s.moment (s.entries + 1) before) s

offer-by : (f : FunctionEntry) (event : Event) (s : State) → function_at f.version s ≡ Some f
    → (r : Option WindowRule) → take_offer (offers.offer_by f r event.text) event.number s ≡ offer_to f r event s
offer-by f event s found None = ap (λ o. make_at o (event.number ∷ []) None s) found
offer-by f event s found (Some r) =
    ap (λ o. gather_at o (without_key r) (key_value (key_of r) event.text) event.number s) found
    ∙ gathered f r (key_value (key_of r) event.text) event s

-- to take what an event is offered as is to offer it
taken-by : (f : FunctionEntry) (event : Event) (s : State) → function_at f.version s ≡ Some f → (b : Bool)
    → take_offer (elim b as (λ _. Offer)
    [ true ↦ offers.offer_by f (window_rule_of f.function) event.text | false ↦ offered.Nothing ]) event.number s
    ≡ elim b as (λ _. State) [ true ↦ offer_to f (window_rule_of f.function) event s | false ↦ s ]
taken-by f event s found true = offer-by f event s found (window_rule_of f.function)
taken-by f event s found false = refl

pub taken-offer : (f : FunctionEntry) (event : Event) (s : State) → function_at f.version s ≡ Some f
    → take_offer (offer_of f event) event.number s ≡ offer f event s
taken-offer f event s found = taken-by f event s found (is_triggered event f)

right-by : (f : FunctionEntry) (event : Event) (s : State) → function_at f.version s ≡ Some f → (b : Bool)
    (r : Option WindowRule) → r ≡ window_rule_of f.function
    → IsOfferRight s (elim b as (λ _. Offer) [ true ↦ offers.offer_by f r event.text | false ↦ offered.Nothing ])
right-by f event s found true None e = tt
right-by f event s found true (Some r) e =
    subst (λ o. IsRuleOf o (without_key r)) (sym found) (ap (option_map without_key) e)
right-by f event s found false r e = tt

pub right-offer : (f : FunctionEntry) (event : Event) (s : State) → function_at f.version s ≡ Some f
    → IsOfferRight s (offer_of f event)
right-offer f event s found = right-by f event s found (is_triggered event f) (window_rule_of f.function) refl

-- ## The current functions, one after the other

-- a function at a place, and those behind it
record IsPlace (fs : List FunctionEntry) (i : ℕ) : Type 0 where
  pub f : FunctionEntry
  pub got : slice_get fs i ≡ Some f
  pub left : drop i fs ≡ f ∷ drop (i + 1) fs
  pub there : IsIn f fs

at-place : (fs : List FunctionEntry) (i : ℕ) → i < length fs → IsPlace fs i
at-place fs i within = by_case (slice_get_cases fs i).1
  where
    by_case : ((x : FunctionEntry) × (i < length fs) × (slice_get fs i ≡ Some x) × (get_or fs i x ≡ x))
        ⊎ ((length fs ≤ i) × (slice_get fs i ≡ None)) → IsPlace fs i
    by_case (inl p) =
        let left : drop i fs ≡ p.0 ∷ drop (i + 1) fs =
        drop-cons fs i p.0 within ∙ ap (λ x. x ∷ drop (suc i) fs) p.3
        ∙ ap (λ n. p.0 ∷ drop n fs) (sym (add-one i)) in
        record {
          f = p.0;
          got = p.2;
          left = left;
          there = subst (IsIn p.0) (take-append-drop i fs)
              (in-back p.0 (take i fs) (drop i fs) (subst (IsIn p.0) (sym left) (inl refl)));
        }
    by_case (inr p) = let past = p.0 in absurd (omega (arith, within, past))

-- the functions that are left, after the event was offered to some
pub record IsOffering (number : ℕ) (name : List ℕ) (left : List FunctionEntry) (first now : Parts) : Type 0 where
  pub same : offer_to_all left (event_at number name (state_of first)) (state_of now)
      ≡ offer_to_all first.versions.current (event_at number name (state_of first)) (state_of first)
  pub held : IsHeld now
  pub clock : now.admission.moment ≡ first.admission.moment
  pub stays : Stays first.versions.current number (text_of number (state_of first)) (state_of now)

-- the event is offered as what it is to the function at a place, which is there
record IsNextOffer (i : ℕ) (e : Event) (fs : List FunctionEntry) (now : Parts) (o : Offer) : Type 0 where
  pub f : FunctionEntry
  pub is : o ≡ offer_of f e
  pub own : function_at f.version (state_of now) ≡ Some f
  pub left : drop i fs ≡ f ∷ drop (i + 1) fs
  pub there : IsFunction f (state_of now)

module _ (number : ℕ) (name : List ℕ) (i : ℕ) (first now : Parts) (o : Offer)
    (within : i < length first.versions.current)
    (t : IsOffering number name (drop i first.versions.current) first now)
    (offered_at : IsOfferAt (slice_get now.versions.current i) (event_at number name (state_of now)) o) where
  next-offer : IsNextOffer i (event_at number name (state_of first)) first.versions.current now o
  next-offer =
      let fs : List FunctionEntry = first.versions.current in
      let place : IsPlace fs i = at-place fs i within in
      let there : IsFunction place.f (state_of now) =
      in-front place.f now.versions.current now.versions.retired (subst (IsIn place.f) (sym t.stays.0) place.there) in
      record {
        f = place.f;
        is = subst (λ e. IsOffer place.f e o)
            (same-event number name (text_of number (state_of first)) (state_of now) t.stays.1)
            (subst (λ x. IsOfferAt x (event_at number name (state_of now)) o)
            (ap (λ gs. slice_get gs i) t.stays.0 ∙ place.got) offered_at);
        own = own-function place.f (state_of now) t.held.fit there;
        left = place.left;
        there = there;
      }

  pub offering-right : IsOfferRight (state_of now) o
  offering-right =
      let e : Event = event_at number name (state_of first) in
      subst (IsOfferRight (state_of now)) (sym next-offer.is)
      (right-offer next-offer.f e (state_of now) next-offer.own)

  pub offering-on : (new : Parts) → Becomes (take_offer o number (state_of now)) now new
      → IsOffering number name (drop (i + 1) first.versions.current) first new
  offering-on new b =
      let fs : List FunctionEntry = first.versions.current in
      let e : Event = event_at number name (state_of first) in
      let f : FunctionEntry = next-offer.f in
      let P : State → Type 0 = Stays fs number (text_of number (state_of first)) in
      let became : state_of new ≡ offer f e (state_of now) =
      b.state ∙ ap (λ x. take_offer x number (state_of now)) next-offer.is
      ∙ taken-offer f e (state_of now) next-offer.own in
      record {
        same = ap (offer_to_all (drop (i + 1) fs) e) became
            ∙ ap (λ gs. offer_to_all gs e (state_of now)) (sym next-offer.left) ∙ t.same;
        held = b.held;
        clock = b.clock ∙ t.clock;
        stays = subst P (sym became)
            (kept-offer P (keeps-stays fs number (text_of number (state_of first))) f e (state_of now) next-offer.there
            t.stays.2 t.stays);
      }

-- ## A window of a function that is there

record IsJoining (m : Parts) (version : ℕ) (r : WindowRule) : Type 0 where
  pub f : FunctionEntry
  pub own : function_at version (state_of m) ≡ Some f
  pub version_is : version ≡ f.version
  pub base : WindowRule
  pub base_is : window_rule_of f.function ≡ Some base
  pub rule_is : r ≡ without_key base

joining : (m : Parts) (version : ℕ) (r : WindowRule) → IsRuleOf (function_at version (state_of m)) r
    → IsJoining m version r
joining m version r h = by_found (function_at version (state_of m)) refl h
  where
    by_found : (found : Option FunctionEntry) → function_at version (state_of m) ≡ found → IsRuleOf found r
        → IsJoining m version r
    by_found None e right = absurd right
    by_found (Some f) e right =
        let base = some-mapped without_key (window_rule_of f.function) r right in
        record {
          f = f;
          own = e;
          version_is = eqb-true version f.version
              (found-passes (λ (g : FunctionEntry). version == g.version)
              (m.versions.current ++ m.versions.retired) f e);
          base = base.0;
          base_is = base.1;
          rule_is = base.2;
        }

may-join : (m : Parts) (version : ℕ) (r : WindowRule) (event : ℕ) (j : IsJoining m version r)
    → event ≤ m.counts.events → MayJoin j.f j.base event (state_of m)
may-join m version r event j given = record {
  there = in-found (λ (g : FunctionEntry). version == g.version) (m.versions.current ++ m.versions.retired) j.f j.own;
  rule = j.base_is;
  given = given;
}

module _ (m : Parts) (version : ℕ) (r : WindowRule) (value : List ℕ) (event : ℕ)
    (right : IsRuleOf (function_at version (state_of m)) r) (given : event ≤ m.counts.events) (h : IsHeld m) where
  -- what the windows ask
  pub join-fresh : find (windows.has_number (m.counts.entries + 1)) m.windows ≡ None
  join-fresh = new-window (state_of m) h.fit

  pub join-room : has_room r (find (is_of version value) m.windows) ≡ true
  join-room =
      let j = joining m version r right in
      ap (λ x. has_room x (find (is_of version value) m.windows)) j.rule_is
      ∙ keyless-room j.base (find (is_of version value) m.windows)
      ∙ ap (λ v. has_room j.base (find (is_of v value) m.windows)) j.version_is
      ∙ window-has-room (state_of m) h.fit j.f j.base value event (may-join m version r event j given)

  pub join-rule : IsRule r
  join-rule =
      let j = joining m version r right in
      subst IsRule (sym j.rule_is)
      (keyless-rule j.base (rule-in-range (state_of m) h.fit j.f j.base
      (may-join m version r event j given).there j.base_is))

-- ## The parts after an event joined a window

fit-closed : (f : FunctionEntry) (r : WindowRule) (value : List ℕ) (event : ℕ) (s : State)
    → is_full r (window_after f r value event s) ≡ true → IsFit s → IsFit (with_offer f r value event s)
fit-closed f r value event s e h =
    let w : Window = window_after f r value event s in
    let there : Bool = is_some (window_of f.version value s) in
    subst (λ b. IsFit (with_after b there w s)) (sym e)
    (full-keeps there w s
    (fit-windows_left (λ v. not (is_of (windows.version_of w) (windows.value_of w) v)) s h))

fit-offer : (f : FunctionEntry) (r : WindowRule) (value : List ℕ) (event : ℕ) (s : State) → MayJoin f r event s
    → IsFit s → IsFit (with_offer f r value event s)
fit-offer f r value event s may h = by_test (is_full r (window_after f r value event s)) refl
  where
    by_test : (b : Bool) → is_full r (window_after f r value event s) ≡ b → IsFit (with_offer f r value event s)
    by_test true e = fit-closed f r value event s e h
    by_test false e = fit-joined f r value event s may e h

module _ (m : Parts) (version : ℕ) (r : WindowRule) (value : List ℕ) (event : ℕ)
    (right : IsRuleOf (function_at version (state_of m)) r) (given : event ≤ m.counts.events) (h : IsHeld m) where
  j : IsJoining m version r
  j = joining m version r right

  base-after : after_join version r value event (state_of m) ≡ window_after j.f j.base value event (state_of m)
  base-after =
      let s = state_of m in
      ap (λ x. after_join version x value event s) j.rule_is
      ∙ keyless-after j.base version value event s.moment (s.entries + 1) (window_of version value s)
      ∙ ap (λ v. after_event j.base v value event s.moment (s.entries + 1) (window_of v value s)) j.version_is

  base-joined : joined_at version r value event (state_of m) ≡ with_offer j.f j.base value event (state_of m)
  base-joined =
      let s = state_of m in
      ap (λ w. with_window r (window_of version value s) w s) base-after
      ∙ ap (λ x. with_window x (window_of version value s) (window_after j.f j.base value event s) s) j.rule_is
      ∙ keyless-with j.base (window_of version value s) (window_after j.f j.base value event s) s
      ∙ ap (λ v. with_window j.base (window_of v value s) (window_after j.f j.base value event s) s) j.version_is

  fit-join : IsFit (joined_at version r value event (state_of m))
  fit-join = subst IsFit (sym base-joined)
      (fit-offer j.f j.base value event (state_of m) (may-join m version r event j given) h.fit)

  module _ (touched : List ℕ) (event_there : has_number touched event ≡ true)
      (events_there : AllByRecursion (λ k. has_number touched k ≡ true)
      (events_in (find (is_of version value) m.windows)))
      (kept : Keeps m.loose.events touched) where
    same-named : (n : ℕ) → has_number touched n ≡ false
        → list_any (λ w. is_in n (windows.events_of w)) (joined_at version r value event (state_of m)).windows
        ≡ list_any (λ w. is_in n (windows.events_of w)) m.windows
    same-named n left =
        let before = find (is_of version value) m.windows in
        any-standing (λ w. is_in n (windows.events_of w)) r version value
        (after_join version r value event (state_of m)) m.windows
        (after-version r version value event m.moment (m.counts.entries + 1) before (found-of version value m.windows))
        (after-value r version value event m.moment (m.counts.entries + 1) before (found-of version value m.windows))
        h.fit.windows_fit.apart (before-not-in touched n before events_there left)
        (not-in touched n (windows.events_of (after_join version r value event (state_of m)))
        (after-events (λ k. has_number touched k ≡ true) r version value event m.moment (m.counts.entries + 1) before
        event_there events_there) left)

    events-joined : AreEventsRight m.runs.live m.runs.closing (joined_at version r value event (state_of m)).windows
        m.texts.texts m.texts.counted touched
    events-joined =
        let ws = (joined_at version r value event (state_of m)).windows in
        let live = m.runs.live in
        record {
          each = all-weaker
              (λ (e : EventText). has_number m.loose.events e.number ≡ false
              → IsEventRight live m.runs.closing m.windows m.texts.counted e.number)
              (λ (e : EventText). has_number touched e.number ≡ false
              → IsEventRight live m.runs.closing ws m.texts.counted e.number)
              m.texts.texts
              (λ e was left. record {
                counted = (was (untouched m.loose.events touched e.number kept left)).counted
                    ∙ ap (λ b. list_any (λ (x : Run). is_in e.number x.events) live || b)
                    (sym (same-named e.number left));
                named = ap (λ b. (list_any (λ (x : Run). is_in e.number x.events) live || b)
                    || list_any (λ (x : Run). is_in e.number x.events) m.runs.closing) (same-named e.number left)
                    ∙ (was (untouched m.loose.events touched e.number kept left)).named;
              }) h.events.each;
        }

  module _ (touched : List ℕ) (joined : IsJoined version m.loose.versions touched) where
    same-used : (v : ℕ) → has_number touched v ≡ false
        → list_any (λ w. v == windows.version_of w) (joined_at version r value event (state_of m)).windows
        ≡ list_any (λ w. v == windows.version_of w) m.windows
    same-used v left =
        let before = find (is_of version value) m.windows in
        let differ : (v == version) ≡ false = other-version touched version v joined.there left in
        let at : windows.version_of (after_join version r value event (state_of m)) ≡ version =
        after-version r version value event m.moment (m.counts.entries + 1) before (found-of version value m.windows) in
        any-standing (λ w. v == windows.version_of w) r version value (after_join version r value event (state_of m))
        m.windows at
        (after-value r version value event m.moment (m.counts.entries + 1) before (found-of version value m.windows))
        h.fit.windows_fit.apart (before-version version v value before differ (found-of version value m.windows))
        (ap (λ n. v == n) at ∙ differ)

    versions-joined : AreVersionsRight m.runs.live m.runs.closing
        (joined_at version r value event (state_of m)).windows m.versions.retired touched
    versions-joined =
        let ws = (joined_at version r value event (state_of m)).windows in
        record {
          each = all-weaker
              (λ (e : FunctionEntry). has_number m.loose.versions e.version ≡ false
              → is_version_in_use m.runs.live m.runs.closing m.windows e.version ≡ true)
              (λ (e : FunctionEntry). has_number touched e.version ≡ false
              → is_version_in_use m.runs.live m.runs.closing ws e.version ≡ true)
              m.versions.retired
              (λ e was left.
              ap (λ b. list_any (λ (x : Run). e.version == x.version) m.runs.live
              || list_any (λ (x : Run). e.version == x.version) m.runs.closing || b) (same-used e.version left)
              ∙ was (untouched m.loose.versions touched e.version joined.kept left)) h.versions.each;
        }

  pub held-joined : (entries : ℕ) (versions one events : List ℕ) (p : Placed) (ws : List Window)
      → IsJoined version m.loose.versions versions → IsJoined event m.loose.events one
      → AreJoined (events_in (find (is_of version value) m.windows)) one events
      → p ≡ placed_at version r value event (state_of m)
      → ws ≡ (joined_at version r value event (state_of m)).windows
      → entries ≡ last_entry p m.counts.entries (m.counts.entries + 1)
      → Becomes (joined_at version r value event (state_of m)) m
      (record m {
        counts = record m.counts { entries = entries };
        loose = record m.loose { versions = versions; events = events };
        windows = ws;
      })
  held-joined entries versions one events p ws a b c is stand counted =
      let s = state_of m in
      let before = find (is_of version value) m.windows in
      let w = after_join version r value event s in
      let entries_is : entries ≡ (joined_at version r value event s).entries =
      counted ∙ ap (λ x. last_entry x s.entries (s.entries + 1)) is
      ∙ count-by (is_full r w) (is_some before) (windows.events_of w) s.entries (s.entries + 1) in
      subst (λ n. Becomes (joined_at version r value event s) m
      (record m {
        counts = record m.counts { entries = n };
        loose = record m.loose { versions = versions; events = events };
        windows = ws;
      })) (sym entries_is)
      (subst (λ (vs : List Window). Becomes (joined_at version r value event s) m
      (record m {
        counts = record m.counts { entries = (joined_at version r value event s).entries };
        loose = record m.loose { versions = versions; events = events };
        windows = vs;
      })) (sym stand)
      (record {
        state = refl;
        held = record {
          fit = fit-join;
          wants = h.wants;
          events = events-joined events (c.kept event b.there) c.there (λ n there. c.kept n (b.kept n there));
          versions = versions-joined versions a;
          ends = h.ends;
          clock = h.clock;
        };
        clock = refl;
      }))

  -- ## A window that waits, or makes its run

  is-open : (full there : Bool) (events : List ℕ) (p : Placed)
      → p ≡ cond full (placed.Full events there) (cond there placed.Joined placed.Opened)
      → ((es : List ℕ) (was : Bool) → p ≡ placed.Full es was → ⊥) → full ≡ false
  is-open true there events p is never = absurd (never events there is)
  is-open false there events p is never = refl

  gather-by : (b : Bool) → is_full r (after_join version r value event (state_of m)) ≡ b
      → gather_at (function_at version (state_of m)) r value event (state_of m)
      ≡ elim b as (λ _. State) [
        | true ↦ make_run j.f (windows.events_of (after_join version r value event (state_of m))) None
            (joined_at version r value event (state_of m))
        | false ↦ joined_at version r value event (state_of m)
      ]
  gather-by b e =
      let s = state_of m in
      ap (λ o. gather_at o r value event s) j.own
      ∙ ap (λ v. in_window j.f r (window_of v value s) (after_join v r value event s) s) (sym j.version_is)
      ∙ ap (λ x. elim x as (λ _. State) [
        | true ↦ make_run j.f (windows.events_of (after_join version r value event s)) None
            (joined_at version r value event s)
        | false ↦ joined_at version r value event s
      ]) e

  pub gathered-waits : (new : Parts) (p : Placed) → p ≡ placed_at version r value event (state_of m)
      → ((es : List ℕ) (was : Bool) → p ≡ placed.Full es was → ⊥)
      → Becomes (joined_at version r value event (state_of m)) m new
      → Becomes (gather_at (function_at version (state_of m)) r value event (state_of m)) m new
  gathered-waits new p is never b =
      let s = state_of m in
      let w = after_join version r value event s in
      subst (λ t. Becomes t m new) (sym (gather-by false
      (is-open (is_full r w) (is_some (window_of version value s)) (windows.events_of w) p is never))) b

  full-by : (full there : Bool) (events es : List ℕ) (was : Bool)
      → placed.Full es was ≡ cond full (placed.Full events there) (cond there placed.Joined placed.Opened)
      → (full ≡ true) × (es ≡ events)
  full-by true there events es was is = (refl, cc)
  full-by false true events es was is = cc
  full-by false false events es was is = cc

  module _ (one : Parts) (es : List ℕ) (was : Bool)
      (is : placed.Full es was ≡ placed_at version r value event (state_of m))
      (b : Becomes (joined_at version r value event (state_of m)) m one) where
    full : (is_full r (after_join version r value event (state_of m)) ≡ true)
        × (es ≡ windows.events_of (after_join version r value event (state_of m)))
    full =
        let w = after_join version r value event (state_of m) in
        full-by (is_full r w) (is_some (window_of version value (state_of m))) (windows.events_of w) es was is

    pub full-given : AreGiven one.counts.events es
    full-given =
        let s = state_of m in
        let may = may-join m version r event j given in
        subst (AreGiven one.counts.events) (sym (full.1 ∙ ap windows.events_of base-after))
        (subst (λ n. AreGiven n (windows.events_of (window_after j.f j.base value event s)))
        (sym (ap (λ (t : State). t.events) b.state))
        (after-given j.f j.base value event s (window_of j.f.version value s) given
        (is-before j.f j.base value event s may h.fit)))

    pub gathered-full : (new : Parts)
        → Becomes (make_at (function_at version (state_of one)) es None (state_of one)) one new
        → Becomes (gather_at (function_at version (state_of m)) r value event (state_of m)) m new
    gathered-full new made =
        let s = state_of m in
        let t = joined_at version r value event s in
        let own : function_at version (state_of one) ≡ Some j.f =
        ap (function_at version) b.state ∙ j.own in
        subst (λ x. Becomes x m new) (sym (gather-by true full.0))
        (becomes-then (make_run j.f (windows.events_of (after_join version r value event s)) None) t m one new b
        (subst (λ ns. Becomes (make_run j.f ns None (state_of one)) one new) full.1
        (subst (λ o. Becomes (make_at o es None (state_of one)) one new) own made)))
