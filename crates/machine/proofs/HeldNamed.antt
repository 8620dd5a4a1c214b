-- The parts after events and functions that were touched are looked at: those that nothing names go.
use Rattle.std.proofs.Common.{◌≡◌, ℕ, ◌+◌, ◌<◌, ◌≤◌, ◌==◌, ◌^◌, Bool, true, false, not, cond, ◌&&◌, ◌||◌, List, [], ◌∷◌, filter, find, is_some, slice_get, Option, Some, None, IfSome, refl, sym, ap, ap₂, ◌∙◌, arith, subst, eqb-true}
use Rattle.std.specs.List.{AllByRecursion, list_any}
use Rattle.event_keys.specs.Buckets.{bucket_of}
use Rattle.event_texts.specs.Texts.{IsCounted, IsGone, Texts, bytes_of_texts, counted_bytes, counts, event_number, text_at}
use Rattle.functions.specs.declared.entry.FunctionEntry.{FunctionEntry}
use Rattle.kinds.specs.Seen.{weight_of}
use Rattle.kinds.specs.Windows as windows
use Rattle.kinds.specs.declared.store.Bucket.{Bucket}
use Rattle.kinds.specs.declared.window.Window.{Window}
use Rattle.lists.proofs.Elements.{all-both, all-filter, all-weaker, filter-passes}
use Rattle.lists.specs.Entries.{has}
use Rattle.runs.specs.Names.{is_named}
use Rattle.runs.specs.Runs.{RunLists, bytes_of_results, is_in}
use Rattle.run_model.specs.Fit.{IsBucketOf, IsFit, IsRuleFit, IsWaitFit}
use Rattle.run_model.specs.State as model
use Rattle.run_model.specs.State.{State, Run, EventText, kept, tidied, without_closed, without_unnamed}
use Rattle.run_model.proofs.FitCounts.{fit-functions, fit-texts}
use Rattle.run_model.proofs.FitEvents.{found-left}
use Rattle.run_model.proofs.FitSteps.{still-function}
use Rattle.run_model.proofs.Tidied.{filter-all}
use Rattle.machine.specs.Held.{AreEventsRight, AreVersionsRight, Becomes, IsAtRest, IsEventRight, IsHeld, is_event_named, is_event_used, is_version_in_use}
use Rattle.machine.specs.Numbers.{IsRest, IsTaken, has_number}
use Rattle.machine.specs.Tidy.{IsEventSettled, IsLooked, IsTidied, look_at_event, look_at_version, text_unless, touched_events, touched_versions, version_unless, without_text, without_version}
use Rattle.machine.specs.Versions.{Versions}
use Rattle.machine.specs.View.{state_of}
use Rattle.machine.specs.declared.loose.Loose.{Loose}
use Rattle.machine.specs.declared.parts.Parts.{Parts}
use Rattle.machine.proofs.HeldTidy.{apart-taken, by-not, closed-done, shorter, taken-first}
use Rattle.machine.proofs.Lists.{all-found_by, all-of, filter-alike, filter-over}

-- ## Events that are right

-- of the events all but one are as they were, and that one is right
events-by : (k : ℕ) (live closing : List Run) (ws : List Window) (texts : List EventText)
    (old new touched left : List ℕ)
    → AllByRecursion (λ (e : EventText). (k == e.number) ≡ true → IsEventRight live closing ws new k) texts
    → ((n : ℕ) → (k == n) ≡ false → has_number new n ≡ has_number old n)
    → ((n : ℕ) → (k == n) ≡ false → has_number left n ≡ false → has_number touched n ≡ false)
    → AreEventsRight live closing ws texts old touched → AreEventsRight live closing ws texts new left
events-by k live closing ws texts old new touched left own others apart h = record {
  each = all-both (λ (e : EventText). (k == e.number) ≡ true → IsEventRight live closing ws new k)
      (λ (e : EventText). has_number touched e.number ≡ false → IsEventRight live closing ws old e.number)
      (λ (e : EventText). has_number left e.number ≡ false → IsEventRight live closing ws new e.number) texts
      (λ e it right untouched. by_test e.number it right untouched (k == e.number) refl) own h.each;
}
  where
    by_test : (n : ℕ) → ((k == n) ≡ true → IsEventRight live closing ws new k)
        → (has_number touched n ≡ false → IsEventRight live closing ws old n) → has_number left n ≡ false
        → (b : Bool) → (k == n) ≡ b → IsEventRight live closing ws new n
    by_test n it right untouched true e = subst (IsEventRight live closing ws new) (eqb-true k n e) (it e)
    by_test n it right untouched false e =
        let was : IsEventRight live closing ws old n = right (apart n e untouched) in
        record { counted = others n e ∙ was.counted; named = was.named }

flips : (n m : ℕ) → (n == m) ≡ false → (m == n) ≡ false
flips n m h = grind (arith, h)

-- the call says whether the event counts
module _ (k : ℕ) (live closing : List Run) (ws : List Window) (value : Bool) (t u : Texts)
    (told : IsCounted k value t u) (used : is_event_used live ws k ≡ value)
    (named : is_event_named live closing ws k ≡ true) where
  right-by : (o : Option EventText) → text_at k t.texts ≡ o
      → IfSome o (λ _. IsEventRight live closing ws u.counted k)
  right-by None e = tt
  right-by (Some x) e = record {
    counted = told.here ∙ ap (λ b. value && b) (ap is_some e) ∙ both value ∙ sym used;
    named = named;
  }
    where
      both : (b : Bool) → (b && true) ≡ b
      both true = refl
      both false = refl

  event-settled : IfSome (text_at k u.texts) (λ _. IsEventRight live closing ws u.counted k)
  event-settled = subst (λ es. IfSome (text_at k es) (λ _. IsEventRight live closing ws u.counted k)) (sym told.texts)
      (right-by (text_at k t.texts) refl)

  events-told : (touched : List ℕ) → AreEventsRight live closing ws t.texts t.counted touched
      → AreEventsRight live closing ws t.texts u.counted touched
  events-told touched h =
      events-by k live closing ws t.texts t.counted u.counted touched touched
      (all-found_by (IsEventRight live closing ws u.counted k) (has event_number k) t.texts
      (right-by (text_at k t.texts) refl))
      (λ n differ. told.others n (flips k n differ)) (λ n differ left. left) h

used-named : (live closing : List Run) (ws : List Window) (k : ℕ) → is_event_used live ws k ≡ true
    → is_event_named live closing ws k ≡ true
used-named live closing ws k used = ap (λ b. b || list_any (λ (r : Run). is_in k r.events) closing) used

-- ## An event that stays

held-told : (m : Parts) (k : ℕ) (value : Bool) (texts : Texts) → IsCounted k value m.texts texts
    → is_event_used m.runs.live m.windows k ≡ value
    → is_event_named m.runs.live m.runs.closing m.windows k ≡ true → IsHeld m
    → Becomes (look_at_event k (state_of m)) m (record m { texts = texts })
held-told m k value texts told used named h =
    let s = state_of m in
    let u : Texts = record { texts = m.texts.texts; counted = texts.counted } in
    subst (λ (t : Texts). Becomes (look_at_event k s) m (record m { texts = t }))
    (ap (λ es. record { texts = es; counted = texts.counted }) (sym told.texts))
    (record {
      state = ap (λ b. text_unless b k s) (sym named);
      held = record {
        fit = h.fit;
        wants = h.wants;
        events = events-told k m.runs.live m.runs.closing m.windows value m.texts texts told used named
            m.loose.events h.events;
        versions = h.versions;
        ends = h.ends;
        clock = h.clock;
      };
      clock = refl;
    })

pub held-counted : (m : Parts) (k : ℕ) (texts : Texts) → is_event_used m.runs.live m.windows k ≡ true
    → IsCounted k true m.texts texts → IsHeld m
    → Becomes (look_at_event k (state_of m)) m (record m { texts = texts })
held-counted m k texts used told h =
    held-told m k true texts told used (used-named m.runs.live m.runs.closing m.windows k used) h

pub counted-settled : (m : Parts) (k : ℕ) (texts : Texts) → is_event_used m.runs.live m.windows k ≡ true
    → IsCounted k true m.texts texts → IsEventSettled k (record m { texts = texts })
counted-settled m k texts used told =
    event-settled k m.runs.live m.runs.closing m.windows true m.texts texts told used
    (used-named m.runs.live m.runs.closing m.windows k used)

-- where no live run and no window names it, a run that is there does exactly where an ended one does
named-by : (a b c : Bool) → (a || b) ≡ false → ((a || b) || c) ≡ (a || c)
named-by true b c h = cc
named-by false true c h = cc
named-by false false c h = refl

named-still : (runs : RunLists) (ws : List Window) (k : ℕ) → is_event_used runs.live ws k ≡ false
    → is_event_named runs.live runs.closing ws k ≡ is_named k runs
named-still runs ws k unused =
    named-by (list_any (λ (r : Run). is_in k r.events) runs.live)
    (list_any (λ w. is_in k (windows.events_of w)) ws) (list_any (λ (r : Run). is_in k r.events) runs.closing) unused

pub held-discounted : (m : Parts) (k : ℕ) (texts : Texts) → is_event_used m.runs.live m.windows k ≡ false
    → is_named k m.runs ≡ true → IsCounted k false m.texts texts → IsHeld m
    → Becomes (look_at_event k (state_of m)) m (record m { texts = texts })
held-discounted m k texts unused named told h =
    held-told m k false texts told unused (named-still m.runs m.windows k unused ∙ named) h

pub discounted-settled : (m : Parts) (k : ℕ) (texts : Texts) → is_event_used m.runs.live m.windows k ≡ false
    → is_named k m.runs ≡ true → IsCounted k false m.texts texts → IsEventSettled k (record m { texts = texts })
discounted-settled m k texts unused named told =
    event-settled k m.runs.live m.runs.closing m.windows false m.texts texts told unused
    (named-still m.runs m.windows k unused ∙ named)

-- ## An event that goes

-- an event that isn't there counts for none
pub uncounted : (k : ℕ) (old new : Texts) → IsCounted k false old new → has_number new.counted k ≡ false
uncounted k old new told = told.here

bucket-without : (k first : ℕ) (texts : List EventText) (cond : Option (List ℕ)) (bucket : Option Bucket)
    → IsBucketOf texts first cond bucket
    → IsBucketOf (filter (λ e. not (has event_number k e)) texts) first cond bucket
bucket-without k first texts cond bucket h =
    found-left (λ (e : EventText). bucket ≡ bucket_of cond e.text) (λ (e : EventText). first == e.number)
    (λ e. not (has event_number k e)) (not (k == first)) texts
    (λ (e : EventText) same. ap (λ n. not (k == n)) (sym (eqb-true first e.number same))) h

fit-without_text : (k : ℕ) (s : State) → IsFit s → IsFit (without_text k s)
fit-without_text k s h =
    let left : List EventText = filter (λ e. not (has event_number k e)) s.texts in
    fit-texts left s
    (all-filter (λ (e : EventText). e.number ≤ s.events) (λ e. not (has event_number k e)) s.texts
    h.events_fit.text_numbers)
    (record {
      each_wait = all-weaker (IsWaitFit s.events s.entries s.texts) (IsWaitFit s.events s.entries left) s.waits
          (λ w (fits : IsWaitFit s.events s.entries s.texts w). record {
            number = fits.number;
            first = fits.first;
            bucket = bucket-without k w.wait.first s.texts w.wait.cond w.wait.bucket fits.bucket;
          }) h.conditions_fit.each_wait;
      each_rule = all-weaker (IsRuleFit s.events s.entries s.texts) (IsRuleFit s.events s.entries left) s.rules
          (λ r (fits : IsRuleFit s.events s.entries s.texts r). record {
            number = fits.number;
            first = fits.first;
            bucket = bucket-without k r.first s.texts r.cond r.bucket fits.bucket;
          }) h.conditions_fit.each_rule;
    }) h

not-both : (b : Bool) → not b ≡ true → b ≡ true → ⊥
not-both true h k = cc
not-both false h k = cc

events-gone : (k : ℕ) (live closing : List Run) (ws : List Window) (t u : Texts) (touched : List ℕ)
    → IsCounted k false t u → AreEventsRight live closing ws t.texts t.counted touched
    → AreEventsRight live closing ws (filter (λ e. not (has event_number k e)) t.texts) u.counted touched
events-gone k live closing ws t u touched told h =
    let left : List EventText = filter (λ e. not (has event_number k e)) t.texts in
    events-by k live closing ws left t.counted u.counted touched touched
    (all-weaker (λ e. not (has event_number k e) ≡ true)
    (λ (e : EventText). (k == e.number) ≡ true → IsEventRight live closing ws u.counted k) left
    (λ e other same. absurd (not-both (k == e.number) other same))
    (filter-passes (λ e. not (has event_number k e)) t.texts))
    (λ n differ. told.others n (flips k n differ)) (λ n differ left. left)
    (record {
      each = all-filter
          (λ (e : EventText). has_number touched e.number ≡ false → IsEventRight live closing ws t.counted e.number)
          (λ e. not (has event_number k e)) t.texts h.each;
    })

gone-texts : (k : ℕ) (t u v : Texts) → IsCounted k false t u → IsGone k u v
    → v ≡ record { texts = filter (λ e. not (has event_number k e)) t.texts; counted = u.counted }
gone-texts k t u v told gone =
    subst (λ es. v ≡ record { texts = filter (λ e. not (has event_number k e)) es; counted = u.counted }) told.texts
    (by-parts v (filter (λ e. not (has event_number k e)) u.texts) u.counted gone.texts gone.counted)
  where
    by-parts : (w : Texts) (texts : List EventText) (counted : List ℕ) → w.texts ≡ texts → w.counted ≡ counted
        → w ≡ record { texts = texts; counted = counted }
    by-parts w texts counted a b =
        subst (λ es. w ≡ record { texts = es; counted = counted }) a
        (subst (λ ns. w ≡ record { texts = w.texts; counted = ns }) b refl)

pub held-gone : (m : Parts) (k : ℕ) (u texts : Texts) → is_event_used m.runs.live m.windows k ≡ false
    → is_named k m.runs ≡ false → IsCounted k false m.texts u → IsGone k u texts → IsHeld m
    → Becomes (look_at_event k (state_of m)) m (record m { texts = texts })
held-gone m k u texts unused unnamed told gone h =
    let s = state_of m in
    subst (λ (t : Texts). Becomes (look_at_event k s) m (record m { texts = t }))
    (sym (gone-texts k m.texts u texts told gone))
    (record {
      state = ap (λ b. text_unless b k s) (sym (named-still m.runs m.windows k unused ∙ unnamed));
      held = record {
        fit = fit-without_text k s h.fit;
        wants = h.wants;
        events = events-gone k m.runs.live m.runs.closing m.windows m.texts u m.loose.events told h.events;
        versions = h.versions;
        ends = h.ends;
        clock = h.clock;
      };
      clock = refl;
    })

left-by : {X : Type 0} (p : X → Bool) (x : X) (left : List X) (b : Bool) → p x ≡ b → find p left ≡ None
    → find p (cond (not b) (x ∷ left) left) ≡ None
left-by p x left true e none = none
left-by p x left false e none = ap (λ b. cond b (Some x) (find p left)) e ∙ none

none-left : {X : Type 0} (p : X → Bool) (xs : List X) → find p (filter (λ x. not (p x)) xs) ≡ None
none-left p [] = refl
none-left p (x ∷ xs) = left-by p x (filter (λ y. not (p y)) xs) (p x) refl (none-left p xs)

pub gone-settled : (m : Parts) (k : ℕ) (u texts : Texts) → IsGone k u texts
    → IsEventSettled k (record m { texts = texts })
gone-settled m k u texts gone =
    subst (λ o. IfSome o (λ _. IsEventRight m.runs.live m.runs.closing m.windows texts.counted k))
    (sym (ap (text_at k) gone.texts ∙ none-left (has event_number k) u.texts)) tt

-- ## An event that was looked at

unnamed-text : (k : ℕ) (s : State) (b : Bool) → is_event_named s.live s.closing s.windows k ≡ b
    → without_unnamed (text_unless b k s) ≡ without_unnamed s
unnamed-text k s true e = refl
unnamed-text k s false e =
    ap (λ texts. record s { texts = texts; retired = filter (model.is_version_named s) s.retired })
    (filter-over (model.is_named s) (λ x. not (has event_number k x)) s.texts
    (λ x gone. ap (is_event_named s.live s.closing s.windows)
    (sym (eqb-true k x.number (by-not (k == x.number) gone))) ∙ e))

pub looked-event : (m d : Parts) (k : ℕ) (o : Option ℕ) (new : List ℕ) → Some k ≡ slice_get m.loose.events 0
    → Becomes (look_at_event k (state_of m)) m d → IsEventSettled k d → d.loose ≡ m.loose
    → IsRest o d.loose.events new → IsHeld m
    → IsLooked touched_events without_unnamed true m (record d { loose = record d.loose { events = new } })
looked-event m d k o new first b settled same rest h =
    let s = state_of m in
    let events : d.loose.events ≡ m.loose.events = ap (λ (l : Loose). l.events) same in
    let taken : IsTaken k m.loose.events new = taken-first k o m.loose.events d.loose.events new first events rest in
    let own : IsTaken k d.loose.events new = subst (λ ns. IsTaken k ns new) (sym events) taken in (
      record {
        same = ap without_unnamed b.state
            ∙ unnamed-text k s (is_event_named s.live s.closing s.windows k) refl;
        held = record {
          fit = b.held.fit;
          wants = b.held.wants;
          events = events-by k d.runs.live d.runs.closing d.windows d.texts.texts d.texts.counted d.texts.counted
              d.loose.events new
              (all-found_by (IsEventRight d.runs.live d.runs.closing d.windows d.texts.counted k)
              (has event_number k) d.texts.texts settled)
              (λ n differ. refl) (apart-taken k d.loose.events new own) b.held.events;
          versions = b.held.versions;
          ends = b.held.ends;
          clock = b.held.clock;
        };
        clock = b.clock;
      },
      shorter k m.loose.events new taken,
    )

-- ## Functions

pub held-named_version : (m : Parts) (v : ℕ)
    → is_version_in_use m.runs.live m.runs.closing m.windows v ≡ true → IsHeld m
    → Becomes (look_at_version v (state_of m)) m m
held-named_version m v named h = record {
  state = ap (λ b. version_unless b v (state_of m)) (sym named);
  held = h;
  clock = refl;
}

fit-without_version : (v : ℕ) (s : State) → IsFit s → IsFit (without_version v s)
fit-without_version v s h =
    let test : FunctionEntry → Bool = λ f. not (v == f.version) in
    fit-functions s.versions s.functions (filter test s.retired) s (omega arith)
    (record {
      each = λ f there. h.functions_fit.each f (still-function f s.functions s.retired test there);
      one = λ f g a b same. h.functions_fit.one f g (still-function f s.functions s.retired test a)
          (still-function g s.functions s.retired test b) same;
    }) (λ f there. h.windows_fit.room f (still-function f s.functions s.retired test there)) h

versions-by-parts : (a b : Versions) → a.current ≡ b.current → a.retired ≡ b.retired → a ≡ b
versions-by-parts a b current retired =
    subst (λ fs. a ≡ record { current = fs; retired = b.retired }) current
    (subst (λ fs. a ≡ record { current = a.current; retired = fs }) retired refl)

pub held-forget_version : (m : Parts) (v : ℕ) (versions : Versions)
    → is_version_in_use m.runs.live m.runs.closing m.windows v ≡ false → versions.current ≡ m.versions.current
    → versions.retired ≡ filter (λ (f : FunctionEntry). not (v == f.version)) m.versions.retired → IsHeld m
    → Becomes (look_at_version v (state_of m)) m (record m { versions = versions })
held-forget_version m v versions unnamed current retired h =
    let s = state_of m in
    let test : FunctionEntry → Bool = λ f. not (v == f.version) in
    let left : Versions = record { current = m.versions.current; retired = filter test m.versions.retired } in
    subst (λ (vs : Versions). Becomes (look_at_version v s) m (record m { versions = vs }))
    (sym (versions-by-parts versions left current retired))
    (record {
      state = ap (λ b. version_unless b v s) (sym unnamed);
      held = record {
        fit = fit-without_version v s h.fit;
        wants = h.wants;
        events = h.events;
        versions = record {
          each = all-filter (λ (f : FunctionEntry). has_number m.loose.versions f.version ≡ false
              → is_version_in_use m.runs.live m.runs.closing m.windows f.version ≡ true) test m.versions.retired
              h.versions.each;
        };
        ends = h.ends;
        clock = h.clock;
      };
      clock = refl;
    })

unnamed-version : (v : ℕ) (s : State) (b : Bool) → is_version_in_use s.live s.closing s.windows v ≡ b
    → without_unnamed (version_unless b v s) ≡ without_unnamed s
unnamed-version v s true e = refl
unnamed-version v s false e =
    ap (λ retired. record s { texts = filter (model.is_named s) s.texts; retired = retired })
    (filter-over (model.is_version_named s) (λ (f : FunctionEntry). not (v == f.version)) s.retired
    (λ f gone. ap (is_version_in_use s.live s.closing s.windows)
    (sym (eqb-true v f.version (by-not (v == f.version) gone))) ∙ e))

-- the function stays where it is named
settled-version : (v : ℕ) (s : State) (b : Bool) → is_version_in_use s.live s.closing s.windows v ≡ b
    → AllByRecursion (λ (f : FunctionEntry). (v == f.version) ≡ true
    → is_version_in_use s.live s.closing s.windows f.version ≡ true) (version_unless b v s).retired
settled-version v s true e =
    all-of (λ (f : FunctionEntry). (v == f.version) ≡ true
    → is_version_in_use s.live s.closing s.windows f.version ≡ true) s.retired
    (λ f same. ap (is_version_in_use s.live s.closing s.windows) (sym (eqb-true v f.version same)) ∙ e)
settled-version v s false e =
    all-weaker (λ (f : FunctionEntry). not (v == f.version) ≡ true)
    (λ (f : FunctionEntry). (v == f.version) ≡ true
    → is_version_in_use s.live s.closing s.windows f.version ≡ true)
    (filter (λ (f : FunctionEntry). not (v == f.version)) s.retired)
    (λ f other same. absurd (not-both (v == f.version) other same))
    (filter-passes (λ (f : FunctionEntry). not (v == f.version)) s.retired)

-- what isn't of functions stays
same-runs : (v : ℕ) (s : State) (b : Bool)
    → is_version_in_use (version_unless b v s).live (version_unless b v s).closing (version_unless b v s).windows
    ≡ is_version_in_use s.live s.closing s.windows
same-runs v s true = refl
same-runs v s false = refl

versions-taken : (k : ℕ) (live closing : List Run) (ws : List Window) (retired : List FunctionEntry)
    (old new : List ℕ) → IsTaken k old new
    → AllByRecursion (λ (f : FunctionEntry). (k == f.version) ≡ true
    → is_version_in_use live closing ws f.version ≡ true) retired
    → AreVersionsRight live closing ws retired old → AreVersionsRight live closing ws retired new
versions-taken k live closing ws retired old new taken settled h = record {
  each = all-both
      (λ (f : FunctionEntry). (k == f.version) ≡ true → is_version_in_use live closing ws f.version ≡ true)
      (λ (f : FunctionEntry). has_number old f.version ≡ false
      → is_version_in_use live closing ws f.version ≡ true)
      (λ (f : FunctionEntry). has_number new f.version ≡ false
      → is_version_in_use live closing ws f.version ≡ true) retired
      (λ f own right left. by_test f.version own right left (k == f.version) refl) settled h.each;
}
  where
    by_test : (v : ℕ) → ((k == v) ≡ true → is_version_in_use live closing ws v ≡ true)
        → (has_number old v ≡ false → is_version_in_use live closing ws v ≡ true) → has_number new v ≡ false
        → (b : Bool) → (k == v) ≡ b → is_version_in_use live closing ws v ≡ true
    by_test v own right left true e = own e
    by_test v own right left false e = right (apart-taken k old new taken v e left)

pub looked-version : (m d : Parts) (k : ℕ) (o : Option ℕ) (new : List ℕ) → Some k ≡ slice_get m.loose.versions 0
    → Becomes (look_at_version k (state_of m)) m d → d.loose ≡ m.loose → IsRest o d.loose.versions new → IsHeld m
    → IsLooked touched_versions without_unnamed true m (record d { loose = record d.loose { versions = new } })
looked-version m d k o new first b same rest h =
    let s = state_of m in
    let in_use : Bool = is_version_in_use s.live s.closing s.windows k in
    let versions : d.loose.versions ≡ m.loose.versions = ap (λ (l : Loose). l.versions) same in
    let taken : IsTaken k m.loose.versions new =
    taken-first k o m.loose.versions d.loose.versions new first versions rest in (
      record {
        same = ap without_unnamed b.state ∙ unnamed-version k s in_use refl;
        held = record {
          fit = b.held.fit;
          wants = b.held.wants;
          events = b.held.events;
          versions = versions-taken k d.runs.live d.runs.closing d.windows d.versions.retired d.loose.versions new
              (subst (λ ns. IsTaken k ns new) (sym versions) taken) (settled-now in_use refl) b.held.versions;
          ends = b.held.ends;
          clock = b.held.clock;
        };
        clock = b.clock;
      },
      shorter k m.loose.versions new taken,
    )
  where
    IsSettled : State → Type 0
    IsSettled t = AllByRecursion (λ (f : FunctionEntry). (k == f.version) ≡ true
        → is_version_in_use t.live t.closing t.windows f.version ≡ true) t.retired

    settled-now : (c : Bool) → is_version_in_use (state_of m).live (state_of m).closing (state_of m).windows k ≡ c
        → IsSettled (state_of d)
    settled-now c e = subst IsSettled (sym b.state) (settled-unless c e)
      where
        settled-unless : (c : Bool)
            → is_version_in_use (state_of m).live (state_of m).closing (state_of m).windows k ≡ c
            → IsSettled (look_at_version k (state_of m))
        settled-unless c e = subst (λ b. IsSettled (version_unless b k (state_of m))) (sym e)
            (subst (λ test. AllByRecursion (λ (f : FunctionEntry). (k == f.version) ≡ true
            → test f.version ≡ true) (version_unless c k (state_of m)).retired) (sym (same-runs k (state_of m) c))
            (settled-version k (state_of m) c e))

-- ## Nothing is left to look at

pub unnamed-done : (m : Parts) → m.loose.events ≡ [] → m.loose.versions ≡ [] → IsHeld m
    → without_unnamed (state_of m) ≡ state_of m
unnamed-done m events versions h =
    let s = state_of m in
    ap₂ (λ texts retired. record s { texts = texts; retired = retired })
    (filter-all (model.is_named s) s.texts
    (all-weaker
    (λ (e : EventText). has_number m.loose.events e.number ≡ false
    → IsEventRight s.live s.closing s.windows m.texts.counted e.number)
    (λ (e : EventText). model.is_named s e ≡ true) s.texts
    (λ e right. (right (ap (λ ns. has_number ns e.number) events)).named) h.events.each))
    (filter-all (model.is_version_named s) s.retired
    (all-weaker
    (λ (f : FunctionEntry). has_number m.loose.versions f.version ≡ false
    → is_version_in_use s.live s.closing s.windows f.version ≡ true)
    (λ (f : FunctionEntry). model.is_version_named s f ≡ true) s.retired
    (λ f right. right (ap (λ ns. has_number ns f.version) versions)) h.versions.each))

-- ## What is kept

pub weighed-by : (m : Parts) → m.loose.events ≡ [] → IsHeld m
    → kept (state_of m) ≡ counted_bytes m.texts + bytes_of_results m.runs.live + weight_of m.seen
weighed-by m events h =
    ap (λ es. bytes_of_texts es + bytes_of_results m.runs.live + weight_of m.seen)
    (sym (filter-alike (counts m.texts.counted) (model.is_used (state_of m)) m.texts.texts
    (all-weaker
    (λ (e : EventText). has_number m.loose.events e.number ≡ false
    → IsEventRight m.runs.live m.runs.closing m.windows m.texts.counted e.number)
    (λ (e : EventText). counts m.texts.counted e ≡ model.is_used (state_of m) e) m.texts.texts
    (λ e right. (right (ap (λ ns. has_number ns e.number) events)).counted) h.events.each)))

module _ (m : Parts) (events results ids : ℕ) (a : events ≡ counted_bytes m.texts)
    (b : results ≡ bytes_of_results m.runs.live) (c : ids ≡ weight_of m.seen) where
  kept-sum : m.loose.events ≡ [] → IsHeld m → events + results + ids ≡ kept (state_of m)
  kept-sum none h =
      ap (λ n. n + results + ids) a ∙ ap (λ n. counted_bytes m.texts + n + ids) b
      ∙ ap (λ n. counted_bytes m.texts + bytes_of_results m.runs.live + n) c ∙ sym (weighed-by m none h)

  pub weighed-below : (named : ℕ) → named ≡ events + results → named + ids < 2 ^ 64 → m.loose.events ≡ []
      → IsHeld m → kept (state_of m) < 2 ^ 64
  weighed-below named is below none h =
      subst (λ k. k < 2 ^ 64) (ap (λ n. n + ids) is ∙ kept-sum none h) below

  pub kept-exact : IsAtRest m → events + results + ids ≡ kept (state_of m)
  kept-exact h = kept-sum h.loose.1 h.held

  pub kept-fits : IsAtRest m → events + results + ids < 2 ^ 64
  kept-fits h = subst (λ k. k < 2 ^ 64) (sym (kept-exact h)) h.weighed

-- ## At rest

pub tidy-state : (m a b d : Parts) → IsTidied without_closed m a → a.loose.runs ≡ []
    → IsTidied without_unnamed a b → IsTidied without_unnamed b d → d.loose.events ≡ [] → d.loose.versions ≡ []
    → state_of d ≡ tidied (state_of m)
unfolding tidied
tidy-state m a b d runs none events versions no_events no_versions =
    sym (unnamed-done d no_events no_versions versions.held) ∙ versions.same ∙ events.same
    ∙ ap without_unnamed (sym (closed-done a none runs.held) ∙ runs.same)

moment-tidied : (s : State) → (tidied s).moment ≡ s.moment
unfolding tidied
moment-tidied s = refl

pub tidy-rest : (m a b d : Parts) → IsTidied without_closed m a → a.loose.runs ≡ []
    → IsTidied without_unnamed a b → b.loose.runs ≡ a.loose.runs → b.loose.events ≡ []
    → IsTidied without_unnamed b d → d.loose.runs ≡ b.loose.runs → d.loose.events ≡ b.loose.events
    → d.loose.versions ≡ [] → m.admission.moment ≡ m.moment → kept (state_of d) < 2 ^ 64 → IsAtRest d
tidy-rest m a b d runs none events same no_events versions same2 same3 no_versions now weighed =
    let events_left : d.loose.events ≡ [] = same3 ∙ no_events in
    record {
      held = versions.held;
      loose = (same2 ∙ same ∙ none, events_left, no_versions);
      now = versions.clock ∙ events.clock ∙ runs.clock ∙ now
          ∙ sym (ap (λ (s : State). s.moment)
          (tidy-state m a b d runs none events versions events_left no_versions)
          ∙ moment-tidied (state_of m));
      weighed = weighed;
    }
