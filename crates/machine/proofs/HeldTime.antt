-- The parts as time goes on, and as what is awaited goes.
use Rattle.std.proofs.Common.{◌≡◌, ℕ, ◌≤◌, ◌==◌, Bool, true, false, not, cond, ◌||◌, List, [], ◌∷◌, find, Some, None, refl, sym, ap, ◌∙◌, subst, eqb-true}
use Rattle.std.specs.List.{AllByRecursion, list_any}
use Rattle.admission.specs.Admission.{Admission}
use Rattle.awaited.specs.Entries.{invocation_number, sleep_number}
use Rattle.functions.specs.declared.entry.FunctionEntry.{FunctionEntry}
use Rattle.kinds.specs.Cells.{later_starts}
use Rattle.kinds.specs.Moments.{last_moment}
use Rattle.kinds.specs.Seen.{remembered}
use Rattle.kinds.specs.Stores.{rule_number}
use Rattle.kinds.specs.Windows as windows
use Rattle.kinds.specs.declared.seen.SeenEntry.{SeenEntry}
use Rattle.kinds.specs.declared.store.Rule.{Rule}
use Rattle.kinds.specs.declared.window.Window.{Window}
use Rattle.lists.proofs.Elements.{all-weaker}
use Rattle.lists.proofs.Keyed.{filter_none}
use Rattle.lists.specs.Entries.{AreApart, without}
use Rattle.run_model.specs.Advance.{without_invocation, without_rule, without_sleep, without_window}
use Rattle.run_model.specs.State.{Run, EventText, Invocation, Sleep, at_moment, is_in}
use Rattle.run_model.proofs.FitCounts.{fit-moment}
use Rattle.run_model.proofs.FitRuns.{fit-invocations, fit-rules, fit-sleeps}
use Rattle.run_model.proofs.FitSteps.{fit-arrived}
use Rattle.run_model.proofs.FitWindows.{fit-windows_left}
use Rattle.machine.specs.Advance.{Arrives, moved}
use Rattle.machine.specs.Held.{AreEndsRight, AreEventsRight, AreVersionsRight, Becomes, IsEventRight, IsHeld, is_event_used, is_version_in_use}
use Rattle.machine.specs.Numbers.{AreJoined, IsJoined, IsTouched, has_number}
use Rattle.machine.specs.View.{state_of}
use Rattle.machine.specs.declared.loose.Loose.{Loose}
use Rattle.machine.specs.declared.parts.Parts.{Parts}
use Rattle.machine.proofs.HeldEvents.{untouched}

-- ## The clock

pub held-moved : (m : Parts) (t : ℕ) → t ≤ last_moment → IsHeld m
    → Becomes (moved t (state_of m)) m (record m { moment = t })
held-moved m t low h = record {
  state = refl;
  held = record {
    fit = fit-moment t (state_of m) low h.fit;
    wants = h.wants;
    events = h.events;
    versions = h.versions;
    ends = h.ends;
    clock = h.clock;
  };
  clock = refl;
}

pub held-arrived : (m : Parts) (t : ℕ) (seen : List SeenEntry) (a : Admission) → seen ≡ remembered t m.seen
    → a ≡ record m.admission { starts = later_starts t m.admission.starts; moment = t } → t ≤ last_moment → IsHeld m
    → Arrives (at_moment t (state_of m)) (record m { moment = t; seen = seen; admission = a })
held-arrived m t seen a forgot passed low h =
    subst (λ (es : List SeenEntry). Arrives (at_moment t (state_of m)) (record m { moment = t; seen = es; admission = a }))
    (sym forgot)
    (subst (λ (b : Admission). Arrives (at_moment t (state_of m))
    (record m { moment = t; seen = remembered t m.seen; admission = b })) (sym passed)
    (record {
      state = refl;
      held = record {
        fit = fit-arrived t (state_of m) low h.fit;
        wants = h.wants;
        events = h.events;
        versions = h.versions;
        ends = h.ends;
        clock = low;
      };
      now = refl;
    }))

-- ## What no name and no call speaks of

pub held-sleeps : (m : Parts) (number : ℕ) (sleeps : List Sleep) → sleeps ≡ without sleep_number number m.sleeps
    → IsHeld m → Becomes (without_sleep number (state_of m)) m (record m { sleeps = sleeps })
held-sleeps m number sleeps left h =
    subst (λ (es : List Sleep). Becomes (without_sleep number (state_of m)) m (record m { sleeps = es })) (sym left)
    (record {
      state = refl;
      held = record {
        fit = fit-sleeps (λ (e : Sleep). not (number == e.number)) (state_of m) h.fit;
        wants = h.wants;
        events = h.events;
        versions = h.versions;
        ends = h.ends;
        clock = h.clock;
      };
      clock = refl;
    })

pub held-invocations : (m : Parts) (number : ℕ) (invocations : List Invocation)
    → invocations ≡ without invocation_number number m.invocations → IsHeld m
    → Becomes (without_invocation number (state_of m)) m (record m { invocations = invocations })
held-invocations m number invocations left h =
    subst (λ (es : List Invocation). Becomes (without_invocation number (state_of m)) m (record m { invocations = es }))
    (sym left)
    (record {
      state = refl;
      held = record {
        fit = fit-invocations (λ (e : Invocation). not (number == e.number)) (state_of m) h.fit;
        wants = h.wants;
        events = h.events;
        versions = h.versions;
        ends = h.ends;
        clock = h.clock;
      };
      clock = refl;
    })

pub held-rules : (m : Parts) (number : ℕ) (rules : List Rule) → rules ≡ without rule_number number m.rules → IsHeld m
    → Becomes (without_rule number (state_of m)) m (record m { rules = rules })
held-rules m number rules left h =
    subst (λ (es : List Rule). Becomes (without_rule number (state_of m)) m (record m { rules = es })) (sym left)
    (record {
      state = refl;
      held = record {
        fit = fit-rules (λ (e : Rule). not (number == e.number)) (state_of m) h.fit;
        wants = h.wants;
        events = h.events;
        versions = h.versions;
        ends = h.ends;
        clock = h.clock;
      };
      clock = refl;
    })

-- ## A window goes

or-same : (a b : Bool) → a ≡ false → (a || b) ≡ b
or-same true b h = cc
or-same false b h = refl

-- what isn't true of the window that goes is true of as many of the others
any-left : (p : Window → Bool) (number : ℕ) (w : Window) (ws : List Window) → AreApart windows.number_of ws
    → find (windows.has_number number) ws ≡ Some w → p w ≡ false
    → list_any p (windows.without_number number ws) ≡ list_any p ws
any-left p number w [] apart found fails = cc
any-left p number w (v ∷ vs) apart found fails =
    by_test (windows.has_number number v) refl found (λ k. any-left p number w vs apart.1 k fails)
  where
    by_test : (b : Bool) → windows.has_number number v ≡ b
        → cond b (Some v) (find (windows.has_number number) vs) ≡ Some w
        → (find (windows.has_number number) vs ≡ Some w
        → list_any p (windows.without_number number vs) ≡ list_any p vs)
        → list_any p (cond (not b) (v ∷ windows.without_number number vs) (windows.without_number number vs))
        ≡ (p v || list_any p vs)
    by_test true here is more =
        let own : v ≡ w = cc in
        let same : number ≡ windows.number_of v = eqb-true number (windows.number_of v) here in
        ap (list_any p) (filter_none (windows.has_number number) vs
        (ap (λ n. find (windows.has_number n) vs) same ∙ apart.0))
        ∙ sym (or-same (p v) (list_any p vs) (ap p own ∙ fails))
    by_test false there is more = ap (λ b. p v || b) (more is)

in-touched : (n : ℕ) (ns new : List ℕ) → is_in n ns ≡ true → AllByRecursion (λ k. has_number new k ≡ true) ns
    → has_number new n ≡ true
in-touched n [] new h all = cc
in-touched n (k ∷ ns) new h all = by_test (n == k) refl h (λ there. in-touched n ns new there all.1)
  where
    by_test : (b : Bool) → (n == k) ≡ b → (b || is_in n ns) ≡ true → (is_in n ns ≡ true → has_number new n ≡ true)
        → has_number new n ≡ true
    by_test true same h more = subst (λ j. has_number new j ≡ true) (sym (eqb-true n k same)) all.0
    by_test false other h more = more h

-- what is touched from now on isn't left
not-touched : (b : Bool) (n : ℕ) (ns new : List ℕ) → is_in n ns ≡ b
    → AllByRecursion (λ k. has_number new k ≡ true) ns → has_number new n ≡ false → b ≡ false
not-touched false n ns new e there left = refl
not-touched true n ns new e there left =
    let clash : true ≡ false = sym (in-touched n ns new e there) ∙ left in cc

module _ (number : ℕ) (w : Window) (ws : List Window) (apart : AreApart windows.number_of ws)
    (found : find (windows.has_number number) ws ≡ Some w) where
  used-left : (event : ℕ) (live : List Run) → is_in event (windows.events_of w) ≡ false
      → is_event_used live (windows.without_number number ws) event ≡ is_event_used live ws event
  used-left event live fails =
      ap (λ b. list_any (λ (r : Run). is_in event r.events) live || b)
      (any-left (λ v. is_in event (windows.events_of v)) number w ws apart found fails)

  events-left : (live closing : List Run) (texts : List EventText) (used old new : List ℕ)
      → AreJoined (windows.events_of w) old new → AreEventsRight live closing ws texts used old
      → AreEventsRight live closing (windows.without_number number ws) texts used new
  events-left live closing texts used old new joined h = record {
    each = all-weaker
        (λ (e : EventText). has_number old e.number ≡ false → IsEventRight live closing ws used e.number)
        (λ (e : EventText). has_number new e.number ≡ false
        → IsEventRight live closing (windows.without_number number ws) used e.number) texts
        (λ e right left.
        let before : IsEventRight live closing ws used e.number =
        right (untouched old new e.number joined.kept left) in
        let same : is_event_used live (windows.without_number number ws) e.number ≡ is_event_used live ws e.number =
        used-left e.number live
        (not-touched (is_in e.number (windows.events_of w)) e.number (windows.events_of w) new refl joined.there left) in
        record {
          counted = before.counted ∙ sym same;
          named = ap (λ b. b || list_any (λ (r : Run). is_in e.number r.events) closing) same ∙ before.named;
        }) h.each;
  }

  versions-left : (live closing : List Run) (retired : List FunctionEntry) (old new : List ℕ)
      → IsJoined (windows.version_of w) old new → AreVersionsRight live closing ws retired old
      → AreVersionsRight live closing (windows.without_number number ws) retired new
  versions-left live closing retired old new joined h = record {
    each = all-weaker
        (λ (f : FunctionEntry). has_number old f.version ≡ false → is_version_in_use live closing ws f.version ≡ true)
        (λ (f : FunctionEntry). has_number new f.version ≡ false
        → is_version_in_use live closing (windows.without_number number ws) f.version ≡ true) retired
        (λ f right left.
        ap (λ b. list_any (λ (r : Run). f.version == r.version) live
        || list_any (λ (r : Run). f.version == r.version) closing || b)
        (any-left (λ v. f.version == windows.version_of v) number w ws apart found
        (other (f.version == windows.version_of w) f refl left))
        ∙ right (untouched old new f.version joined.kept left)) h.each;
  }
    where
      other : (b : Bool) (f : FunctionEntry) → (f.version == windows.version_of w) ≡ b
          → has_number new f.version ≡ false → b ≡ false
      other false f e left = refl
      other true f e left =
          let clash : true ≡ false = sym joined.there
          ∙ ap (has_number new) (sym (eqb-true f.version (windows.version_of w) e)) ∙ left in cc

pub held-window : (m : Parts) (number : ℕ) (w : Window) (ws : List Window) (loose : Loose)
    → find (windows.has_number number) m.windows ≡ Some w → ws ≡ windows.without_number number m.windows
    → IsTouched (windows.version_of w) (windows.events_of w) m.loose loose → AreApart windows.number_of m.windows
    → IsHeld m → Becomes (without_window number (state_of m)) m (record m { windows = ws; loose = loose })
held-window m number w ws loose found left touched apart h =
    subst (λ (vs : List Window). Becomes (without_window number (state_of m)) m
    (record m { windows = vs; loose = loose })) (sym left)
    (record {
      state = refl;
      held = record {
        fit = fit-windows_left (λ v. not (windows.has_number number v)) (state_of m) h.fit;
        wants = h.wants;
        events = events-left number w m.windows apart found m.runs.live m.runs.closing m.texts.texts m.texts.counted
            m.loose.events loose.events touched.events h.events;
        versions = versions-left number w m.windows apart found m.runs.live m.runs.closing m.versions.retired
            m.loose.versions loose.versions touched.versions h.versions;
        ends = subst (AreEndsRight m.counts.runs m.runs.live m.runs.closing m.ended m.admission.issues)
            (sym touched.runs) h.ends;
        clock = h.clock;
      };
      clock = refl;
    })

pub held-no-window : (m : Parts) (number : ℕ) (ws : List Window) → find (windows.has_number number) m.windows ≡ None
    → ws ≡ windows.without_number number m.windows → IsHeld m
    → Becomes (without_window number (state_of m)) m (record m { windows = ws })
held-no-window m number ws none left h =
    let same : windows.without_number number m.windows ≡ m.windows =
    filter_none (windows.has_number number) m.windows none in
    subst (λ (vs : List Window). Becomes (without_window number (state_of m)) m (record m { windows = vs }))
    (sym (left ∙ same)) (record {
      state = ap (λ (vs : List Window). record (state_of m) { windows = vs }) (sym same);
      held = h;
      clock = refl;
    })
