-- The parts after runs that were touched are looked at: those whose calls have ended go.
use Rattle.std.proofs.Common.{◌≡◌, ℕ, ◌-◌, ◌<◌, ◌≤◌, ◌==◌, Bool, true, false, not, cond, ◌||◌, List, [], ◌++◌, filter, find, take, drop, length, slice_get, Option, Some, None, IfSome, refl, sym, ap, ap₂, ◌∙◌, arith, subst, eqb-true}
use Rattle.std.specs.List.{AllByRecursion, list_any}
use Rattle.std.proofs.lemmas.Bool.{cond-false}
use Rattle.std.proofs.lemmas.List.{take-append-drop}
use Rattle.functions.specs.declared.entry.FunctionEntry.{FunctionEntry}
use Rattle.kinds.specs.Windows as windows
use Rattle.kinds.specs.declared.window.Window.{Window}
use Rattle.lists.proofs.Elements.{all-both, all-filter, all-weaker, filter-passes}
use Rattle.lists.specs.Entries.{AreApart, has, without}
use Rattle.runs.specs.Ended.{ended_number, is_another, last_or}
use Rattle.runs.specs.Runs.{RunLists, is_in, run_at, run_number}
use Rattle.run_model.specs.Fit.{IsFit, IsRunFit}
use Rattle.run_model.specs.State.{State, Run, Issue, EventText, EndedRun, has_open_call, without_closed}
use Rattle.run_model.proofs.Apart.{all-none, none-all}
use Rattle.run_model.proofs.FitCounts.{fit-closing, fit-rest}
use Rattle.run_model.proofs.Tidied.{filter-all}
use Rattle.machine.specs.Held.{AreEndsRight, AreEventsRight, AreVersionsRight, Becomes, IsClosing, IsEventRight, IsHeld, is_event_used, is_version_in_use}
use Rattle.machine.specs.Numbers.{IsRest, IsTaken, IsTouched, Keeps, has_number}
use Rattle.machine.specs.Tidy.{IsLooked, IsTidied, forget_run, forget_unless, look_at_run, touched_runs}
use Rattle.machine.specs.View.{state_of}
use Rattle.machine.specs.declared.loose.Loose.{Loose}
use Rattle.machine.specs.declared.parts.Parts.{Parts}
use Rattle.machine.proofs.HeldEvents.{untouched}
use Rattle.machine.proofs.HeldRecording.{as-lists}
use Rattle.machine.proofs.HeldRuns.{none-in, not-same}
use Rattle.machine.proofs.Joined.{at-number}
use Rattle.machine.proofs.Lists.{all-apart, all-last_or, all-of, any-left, filter-over, front-left, last-over}

-- ## Numbers that are taken out

pub apart-taken : (k : ℕ) (old new : List ℕ) → IsTaken k old new
    → (n : ℕ) → (k == n) ≡ false → has_number new n ≡ false → has_number old n ≡ false
apart-taken k old new taken n differ left =
    sym (cond-false (k == n) false (has_number old n) differ)
    ∙ ap (λ b. cond b false (has_number old n)) (sym (at-number k n)) ∙ sym (taken.left n) ∙ left

pub shorter : (k : ℕ) (old new : List ℕ) → IsTaken k old new → length new < length old
shorter k old new taken = let more = ap length taken.first in omega (arith, more)

-- the least was looked at, and is taken out
pub taken-first : (k : ℕ) (o : Option ℕ) (old before new : List ℕ) → Some k ≡ slice_get old 0 → before ≡ old
    → IsRest o before new → IsTaken k old new
taken-first k None old before new first same rest =
    let none : old ≡ [] = sym same ∙ rest.0 in
    let clash : Some k ≡ None = first ∙ ap (λ ns. slice_get ns 0) none in cc
taken-first k (Some n) old before new first same rest =
    let taken : IsTaken n old new = subst (λ ns. IsTaken n ns new) same rest in
    let is : Some k ≡ Some n = first ∙ ap (λ ns. slice_get ns 0) taken.first in
    let at : n ≡ k = cc in
    subst (λ j. IsTaken j old new) at taken

pub tidied-then : (word : State → State) (a b c : Parts) → IsTidied word a b → IsTidied word b c
    → IsTidied word a c
tidied-then word a b c first next =
    record { same = next.same ∙ first.same; held = next.held; clock = next.clock ∙ first.clock }

pub tidied-same : (word : State → State) (m : Parts) → IsHeld m → IsTidied word m m
tidied-same word m h = record { same = refl; held = h; clock = refl }

-- ## A run that goes

-- its version and its events are touched
pub record IsLoosened (loose : Loose) (r : Run) : Type 0 where
  pub events : AllByRecursion (λ n. has_number loose.events n ≡ true) r.events
  pub version : has_number loose.versions r.version ≡ true

abbrev AreLoosened : ℕ → Loose → List Run → Type 0
AreLoosened run loose closing = AllByRecursion (λ (r : Run). (run == r.number) ≡ true → IsLoosened loose r) closing

pub by-not : (b : Bool) → not b ≡ false → b ≡ true
by-not true h = refl
by-not false h = cc

events-forgot : (run : ℕ) (loose : Loose) (live closing : List Run) (ws : List Window) (texts : List EventText)
    (used old : List ℕ) → Keeps old loose.events → AreLoosened run loose closing
    → AreEventsRight live closing ws texts used old
    → AreEventsRight live (without run_number run closing) ws texts used loose.events
events-forgot run loose live closing ws texts used old kept loosened h = record {
  each = all-weaker
      (λ (e : EventText). has_number old e.number ≡ false → IsEventRight live closing ws used e.number)
      (λ (e : EventText). has_number loose.events e.number ≡ false
      → IsEventRight live (without run_number run closing) ws used e.number)
      texts (λ e right left. forgot e.number left (right (untouched old loose.events e.number kept left))) h.each;
}
  where
    forgot : (event : ℕ) → has_number loose.events event ≡ false → IsEventRight live closing ws used event
        → IsEventRight live (without run_number run closing) ws used event
    forgot event left right = record {
      counted = right.counted;
      named = ap (λ b. is_event_used live ws event || b)
          (any-left (λ (r : Run). is_in event r.events) (λ (r : Run). not (run == r.number)) closing
          (all-weaker (λ (r : Run). (run == r.number) ≡ true → IsLoosened loose r)
          (λ (r : Run). not (run == r.number) ≡ false → is_in event r.events ≡ false) closing
          (λ r gone other. none-in loose.events event r.events left (gone (by-not (run == r.number) other)).events)
          loosened)) ∙ right.named;
    }

versions-forgot : (run : ℕ) (loose : Loose) (live closing : List Run) (ws : List Window)
    (retired : List FunctionEntry) (old : List ℕ) → Keeps old loose.versions → AreLoosened run loose closing
    → AreVersionsRight live closing ws retired old
    → AreVersionsRight live (without run_number run closing) ws retired loose.versions
versions-forgot run loose live closing ws retired old kept loosened h = record {
  each = all-weaker
      (λ (f : FunctionEntry). has_number old f.version ≡ false
      → is_version_in_use live closing ws f.version ≡ true)
      (λ (f : FunctionEntry). has_number loose.versions f.version ≡ false
      → is_version_in_use live (without run_number run closing) ws f.version ≡ true)
      retired
      (λ f right left. forgot f.version left (right (untouched old loose.versions f.version kept left))) h.each;
}
  where
    forgot : (version : ℕ) → has_number loose.versions version ≡ false
        → is_version_in_use live closing ws version ≡ true
        → is_version_in_use live (without run_number run closing) ws version ≡ true
    forgot version left right =
        ap (λ b. list_any (λ (r : Run). version == r.version) live || b
        || list_any (λ w. version == windows.version_of w) ws)
        (any-left (λ (r : Run). version == r.version) (λ (r : Run). not (run == r.number)) closing
        (all-weaker (λ (r : Run). (run == r.number) ≡ true → IsLoosened loose r)
        (λ (r : Run). not (run == r.number) ≡ false → (version == r.version) ≡ false) closing
        (λ r gone other.
        not-same loose.versions version r.version left (gone (by-not (run == r.number) other)).version) loosened))
        ∙ right

ends-forgot : (run runs : ℕ) (live closing : List Run) (ended : List EndedRun) (issues : List Issue)
    (touched : List ℕ) → AreEndsRight runs live closing ended issues touched
    → AreEndsRight runs live (without run_number run closing) (last_or (is_another run) 1000 ended) issues touched
ends-forgot run runs live closing ended issues touched h = record {
  closing_open = all-filter (λ (r : Run). IsClosing issues touched r.number) (λ (r : Run). not (run == r.number))
      closing h.closing_open;
  ended_open = subst (AllByRecursion (λ (e : EndedRun). IsClosing issues touched e.run))
      (sym (front-left (is_another run) 1000 ended))
      (all-filter (λ (e : EndedRun). IsClosing issues touched e.run) (is_another run)
      (take (length ended - 1000) ended) h.ended_open);
  given = all-last_or (λ (e : EndedRun). e.run ≤ runs) (is_another run) 1000 ended h.given;
  once = all-weaker (λ (r : Run). find (has ended_number r.number) ended ≡ None)
      (λ (r : Run). find (has ended_number r.number) (last_or (is_another run) 1000 ended) ≡ None) live
      (λ r none. all-none (has ended_number r.number) (last_or (is_another run) 1000 ended)
      (all-last_or (λ e. has ended_number r.number e ≡ false) (is_another run) 1000 ended
      (none-all (has ended_number r.number) ended none))) h.once;
  own_calls = h.own_calls;
}

fit-forgot : (run : ℕ) (s : State) → IsFit s → IsFit (forget_run run s)
fit-forgot run s h =
    let closing : List Run = without run_number run s.closing in
    fit-rest s.inputs s.starts (last_or (is_another run) 1000 s.ended) (record s { closing = closing })
    (fit-closing closing s
    (all-filter (IsRunFit s.runs s.events s.versions) (λ (r : Run). not (run == r.number)) s.closing
    h.closing_fit) h)

held-forgot : (m : Parts) (run : ℕ) (loose : Loose) → loose.runs ≡ m.loose.runs
    → Keeps m.loose.events loose.events → Keeps m.loose.versions loose.versions
    → AreLoosened run loose m.runs.closing → IsHeld m
    → Becomes (forget_run run (state_of m)) m (record m {
      ended = last_or (is_another run) 1000 m.ended;
      runs = record { live = m.runs.live; closing = without run_number run m.runs.closing };
      loose = loose;
    })
held-forgot m run loose same events versions loosened h = record {
  state = refl;
  held = record {
    fit = fit-forgot run (state_of m) h.fit;
    wants = h.wants;
    events = events-forgot run loose m.runs.live m.runs.closing m.windows m.texts.texts m.texts.counted
        m.loose.events events loosened h.events;
    versions = versions-forgot run loose m.runs.live m.runs.closing m.windows m.versions.retired m.loose.versions
        versions loosened h.versions;
    ends = subst (λ ns. AreEndsRight m.counts.runs m.runs.live (without run_number run m.runs.closing)
        (last_or (is_another run) 1000 m.ended) m.admission.issues ns) (sym same)
        (ends-forgot run m.counts.runs m.runs.live m.runs.closing m.ended m.admission.issues m.loose.runs h.ends);
    clock = h.clock;
  };
  clock = refl;
}

-- what the calls say of a run that goes
pub record IsClosed (run : ℕ) (found : Option Run) (old new : RunLists) : Type 0 where
  pub value : found ≡ run_at run old.closing
  pub live : new.live ≡ old.live
  pub closing : new.closing ≡ without run_number run old.closing
  pub apart : AreApart run_number old.closing

held-closed : (m : Parts) (run : ℕ) (found : Option Run) (ended : List EndedRun) (rs : RunLists) (loose : Loose)
    → ended ≡ last_or (is_another run) 1000 m.ended → IsClosed run found m.runs rs
    → loose.runs ≡ m.loose.runs → Keeps m.loose.events loose.events → Keeps m.loose.versions loose.versions
    → IfSome found (IsLoosened loose) → IsHeld m
    → Becomes (forget_run run (state_of m)) m (record m { ended = ended; runs = rs; loose = loose })
held-closed m run found ended rs loose left closed same events versions loosened h =
    subst (λ (es : List EndedRun). Becomes (forget_run run (state_of m)) m
    (record m { ended = es; runs = rs; loose = loose })) (sym left)
    (subst (λ (l : RunLists). Becomes (forget_run run (state_of m)) m
    (record m { ended = last_or (is_another run) 1000 m.ended; runs = l; loose = loose }))
    (sym (as-lists rs m.runs.live (without run_number run m.runs.closing) closed.live closed.closing))
    (held-forgot m run loose same events versions
    (all-apart (IsLoosened loose) run_number run m.runs.closing closed.apart
    (subst (λ o. IfSome o (IsLoosened loose)) closed.value loosened)) h))

pub held-forget_some : (m : Parts) (run : ℕ) (r : Run) (version : ℕ) (events : List ℕ) (ended : List EndedRun)
    (rs : RunLists) (loose : Loose) → ended ≡ last_or (is_another run) 1000 m.ended
    → IsClosed run (Some r) m.runs rs → version ≡ r.version → events ≡ r.events
    → IsTouched version events m.loose loose → IsHeld m
    → Becomes (forget_run run (state_of m)) m (record m { ended = ended; runs = rs; loose = loose })
held-forget_some m run r version events ended rs loose left closed a b touched h =
    held-closed m run (Some r) ended rs loose left closed touched.runs touched.events.kept touched.versions.kept
    (record {
      events = subst (AllByRecursion (λ n. has_number loose.events n ≡ true)) b touched.events.there;
      version = ap (has_number loose.versions) (sym a) ∙ touched.versions.there;
    }) h

pub held-forget_none : (m : Parts) (run : ℕ) (ended : List EndedRun) (rs : RunLists)
    → ended ≡ last_or (is_another run) 1000 m.ended → IsClosed run None m.runs rs → IsHeld m
    → Becomes (forget_run run (state_of m)) m (record m { ended = ended; runs = rs })
held-forget_none m run ended rs left closed h =
    held-closed m run None ended rs m.loose left closed refl (λ n there. there) (λ n there. there) tt h

-- ## A run that was looked at

pub look-open : (m : Parts) (run : ℕ) → has_open_call m.admission.issues run ≡ true → IsHeld m
    → Becomes (look_at_run run (state_of m)) m m
look-open m run here h = record {
  state = ap (λ b. forget_unless b run (state_of m)) (sym here);
  held = h;
  clock = refl;
}

pub look-closed : (m d : Parts) (run : ℕ) → has_open_call m.admission.issues run ≡ false
    → Becomes (forget_run run (state_of m)) m d → Becomes (look_at_run run (state_of m)) m d
look-closed m d run none b =
    subst (λ s. Becomes s m d) (ap (λ b. forget_unless b run (state_of m)) (sym none)) b

-- it stays for its open call alone
record IsRunSettled (run : ℕ) (s : State) : Type 0 where
  closing : AllByRecursion (λ (r : Run). (run == r.number) ≡ true → has_open_call s.issues r.number ≡ true) s.closing
  ended : AllByRecursion (λ (e : EndedRun). (run == e.run) ≡ true → has_open_call s.issues e.run ≡ true)
      (take (length s.ended - 1000) s.ended)

not-both : (b : Bool) → not b ≡ true → b ≡ true → ⊥
not-both true h k = cc
not-both false h k = cc

its-call : (issues : List Issue) (run n : ℕ) → has_open_call issues run ≡ true → (run == n) ≡ true
    → has_open_call issues n ≡ true
its-call issues run n here same = ap (has_open_call issues) (sym (eqb-true run n same)) ∙ here

settled-run : (run : ℕ) (s : State) (b : Bool) → has_open_call s.issues run ≡ b
    → IsRunSettled run (forget_unless b run s)
settled-run run s true e = record {
  closing = all-of (λ (r : Run). (run == r.number) ≡ true → has_open_call s.issues r.number ≡ true) s.closing
      (λ r same. its-call s.issues run r.number e same);
  ended = all-of (λ (x : EndedRun). (run == x.run) ≡ true → has_open_call s.issues x.run ≡ true)
      (take (length s.ended - 1000) s.ended) (λ x same. its-call s.issues run x.run e same);
}
settled-run run s false e = record {
  closing = all-weaker (λ (r : Run). not (run == r.number) ≡ true)
      (λ (r : Run). (run == r.number) ≡ true → has_open_call s.issues r.number ≡ true)
      (without run_number run s.closing)
      (λ r other same. absurd (not-both (run == r.number) other same))
      (filter-passes (λ (r : Run). not (run == r.number)) s.closing);
  ended = subst (AllByRecursion (λ (x : EndedRun). (run == x.run) ≡ true → has_open_call s.issues x.run ≡ true))
      (sym (front-left (is_another run) 1000 s.ended))
      (all-weaker (λ x. is_another run x ≡ true)
      (λ (x : EndedRun). (run == x.run) ≡ true → has_open_call s.issues x.run ≡ true)
      (filter (is_another run) (take (length s.ended - 1000) s.ended))
      (λ x other same. absurd (not-both (run == x.run) other same))
      (filter-passes (is_another run) (take (length s.ended - 1000) s.ended)));
}

-- it goes with all whose calls have ended
closed-look : (run : ℕ) (s : State) (b : Bool) → has_open_call s.issues run ≡ b
    → without_closed (forget_unless b run s) ≡ without_closed s
closed-look run s true e = refl
closed-look run s false e =
    ap₂ (λ closing ended. record s { closing = closing; ended = ended })
    (filter-over (λ (r : Run). has_open_call s.issues r.number) (λ (r : Run). not (run == r.number)) s.closing
    (λ r gone. no-call r.number (by-not (run == r.number) gone)))
    (last-over (λ (x : EndedRun). has_open_call s.issues x.run) (is_another run) 1000 s.ended
    (λ x gone. no-call x.run (by-not (run == x.run) gone)))
  where
    no-call : (n : ℕ) → (run == n) ≡ true → has_open_call s.issues n ≡ false
    no-call n same = ap (has_open_call s.issues) (sym (eqb-true run n same)) ∙ e

closing-taken : (issues : List Issue) (k n : ℕ) (old new : List ℕ) → IsTaken k old new
    → ((k == n) ≡ true → has_open_call issues n ≡ true) → IsClosing issues old n → IsClosing issues new n
closing-taken issues k n old new taken settled right left = by_test (k == n) refl
  where
    by_test : (b : Bool) → (k == n) ≡ b → has_open_call issues n ≡ true
    by_test true e = settled e
    by_test false e = right (apart-taken k old new taken n e left)

ends-taken : (k runs : ℕ) (live closing : List Run) (ended : List EndedRun) (issues : List Issue)
    (old new : List ℕ) → IsTaken k old new
    → AllByRecursion (λ (r : Run). (k == r.number) ≡ true → has_open_call issues r.number ≡ true) closing
    → AllByRecursion (λ (e : EndedRun). (k == e.run) ≡ true → has_open_call issues e.run ≡ true)
    (take (length ended - 1000) ended)
    → AreEndsRight runs live closing ended issues old → AreEndsRight runs live closing ended issues new
ends-taken k runs live closing ended issues old new taken first second h = record {
  closing_open = all-both (λ (r : Run). (k == r.number) ≡ true → has_open_call issues r.number ≡ true)
      (λ (r : Run). IsClosing issues old r.number) (λ (r : Run). IsClosing issues new r.number) closing
      (λ r settled right. closing-taken issues k r.number old new taken settled right) first h.closing_open;
  ended_open = all-both (λ (e : EndedRun). (k == e.run) ≡ true → has_open_call issues e.run ≡ true)
      (λ (e : EndedRun). IsClosing issues old e.run) (λ (e : EndedRun). IsClosing issues new e.run)
      (take (length ended - 1000) ended)
      (λ e settled right. closing-taken issues k e.run old new taken settled right) second h.ended_open;
  given = h.given;
  once = h.once;
  own_calls = h.own_calls;
}

pub looked-run : (m d : Parts) (k : ℕ) (o : Option ℕ) (new : List ℕ) → Some k ≡ slice_get m.loose.runs 0
    → Becomes (look_at_run k (state_of m)) m d → d.loose.runs ≡ m.loose.runs → IsRest o d.loose.runs new
    → IsHeld m
    → IsLooked touched_runs without_closed true m (record d { loose = record d.loose { runs = new } })
looked-run m d k o new first b same rest h =
    let s = state_of m in
    let taken : IsTaken k m.loose.runs new = taken-first k o m.loose.runs d.loose.runs new first same rest in
    let settled : IsRunSettled k (state_of d) =
    subst (IsRunSettled k) (sym b.state) (settled-run k s (has_open_call s.issues k) refl) in (
      record {
        same = ap without_closed b.state ∙ closed-look k s (has_open_call s.issues k) refl;
        held = record {
          fit = b.held.fit;
          wants = b.held.wants;
          events = b.held.events;
          versions = b.held.versions;
          ends = ends-taken k d.counts.runs d.runs.live d.runs.closing d.ended d.admission.issues d.loose.runs new
              (subst (λ ns. IsTaken k ns new) (sym same) taken) settled.closing settled.ended b.held.ends;
          clock = b.held.clock;
        };
        clock = b.clock;
      },
      shorter k m.loose.runs new taken,
    )

-- ## Nothing is left to look at

pub last-looked : (part : Loose → List ℕ) (word : State → State) (m l new : Parts) (more : Bool) → more ≡ false
    → IsLooked part word more l new → IsTidied word m l → IsTidied word m new × (part new.loose ≡ [])
last-looked part word m l new more e told before =
    let done : IsLooked part word false l new = subst (λ b. IsLooked part word b l new) e told in (
      subst (IsTidied word m) (sym done.0) before,
      subst (λ (p : Parts). part p.loose ≡ []) (sym done.0) done.1,
    )

all-open : {X : Type 0} (number : X → ℕ) (issues : List Issue) (touched : List ℕ) (xs : List X) → touched ≡ []
    → AllByRecursion (λ x. IsClosing issues touched (number x)) xs
    → AllByRecursion (λ x. has_open_call issues (number x) ≡ true) xs
all-open number issues touched xs none h =
    all-weaker (λ x. IsClosing issues touched (number x)) (λ x. has_open_call issues (number x) ≡ true) xs
    (λ x right. right (ap (λ ns. has_number ns (number x)) none)) h

pub closed-done : (m : Parts) → m.loose.runs ≡ [] → IsHeld m → without_closed (state_of m) ≡ state_of m
closed-done m none h =
    let s = state_of m in
    ap₂ (λ closing ended. record s { closing = closing; ended = ended })
    (filter-all (λ (r : Run). has_open_call s.issues r.number) s.closing
    (all-open run_number s.issues m.loose.runs s.closing none h.ends.closing_open))
    (ap (λ front. front ++ drop (length s.ended - 1000) s.ended)
    (filter-all (λ (e : EndedRun). has_open_call s.issues e.run) (take (length s.ended - 1000) s.ended)
    (all-open ended_number s.issues m.loose.runs (take (length s.ended - 1000) s.ended) none h.ends.ended_open))
    ∙ take-append-drop (length s.ended - 1000) s.ended)
