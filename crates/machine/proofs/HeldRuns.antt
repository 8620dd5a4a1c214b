-- The parts after a run is made: its rules, and the run with its first item.
use Rattle.std.proofs.Common.{◌≡◌, ℕ, ℤ, pos, negsuc, ◌+◌, ◌<◌, ◌≤◌, ◌==◌, Bool, true, false, ◌||◌, List, [], ◌∷◌, ◌++◌, map, find, Option, Some, None, unsigned_abs, option_map, to_z, of_z, w64, refl, sym, ap, ◌∙◌, arith, subst, eqb-true}
use Rattle.std.specs.List.{AllByRecursion, list_any}
use Rattle.std.specs.List.Sorted.{IsStrictlySortedBy}
use Rattle.std.specs.Ordering.{nat_cmp}
use Rattle.std.specs.declared.cmp.Ordering.TheVariants.{Less}
use Rattle.std.proofs.lemmas.Bool.Decides.{nat_tests}
use Rattle.std.proofs.lemmas.Int.{fits_signed_from_abs, ints, to_z-of_z}
use Rattle.admission.specs.Admission.{Admission}
use Rattle.event_keys.specs.Expressions.{most_shift}
use Rattle.event_texts.specs.Texts.{text_or_none}
use Rattle.functions.specs.declared.entry.FunctionEntry.{FunctionEntry}
use Rattle.kinds.specs.Moments.{last_moment}
use Rattle.kinds.specs.Queue.{insert_item}
use Rattle.kinds.specs.Windows as windows
use Rattle.kinds.specs.declared.function.CancelEntry.{CancelEntry}
use Rattle.kinds.specs.declared.store.Item.{Item}
use Rattle.kinds.specs.declared.store.Parent.{Parent}
use Rattle.kinds.specs.declared.store.Rule.{Rule}
use Rattle.kinds.specs.declared.window.Window.{Window}
use Rattle.lists.proofs.Elements.{all-last, all-weaker}
use Rattle.lists.specs.Entries.{has}
use Rattle.runs.specs.Ended.{ended_number}
use Rattle.runs.specs.Origin.{run_of}
use Rattle.runs.specs.Runs.{IsBounded, RunLists, is_in, run_number}
use Rattle.run_model.specs.Fit.{AreGiven, IsBucketOf, IsFit, IsRuleFit, IsRunFit}
use Rattle.run_model.specs.Making.{add_rules, first_of, make_run, new_item, queue_new, run_with, step_target}
use Rattle.run_model.specs.State.{State, Run, Issue, EventText, EndedRun, function_at, text_of}
use Rattle.run_model.proofs.FitCounts.{fit-conditions, fit-entries, fit-live, fit-runs}
use Rattle.run_model.proofs.FitRuns.{bucket-found, first-given, fit-new}
use Rattle.run_model.proofs.FitShifts.{shift-within}
use Rattle.run_model.proofs.FitUses.{none-next}
use Rattle.run_model.proofs.FitWindows.{fit-started}
use Rattle.run_model.proofs.Members.{in-all, in-found, in-last}
use Rattle.machine.specs.Held.{AreEndsRight, AreEventsRight, AreVersionsRight, AreWantsNoted, Becomes, IsEventRight, IsHeld, is_event_used, is_left, is_version_in_use}
use Rattle.machine.specs.Making.{AreDraftsFit, IsNewFit, add_draft, add_drafts, begin_run, draft_of, planned, rule_of}
use Rattle.machine.specs.Numbers.{AreJoined, IsJoined, IsTouched, has_number}
use Rattle.machine.specs.View.{state_of}
use Rattle.machine.specs.Words.{make_at}
use Rattle.machine.specs.declared.counts.Counts.{Counts}
use Rattle.machine.specs.declared.loose.Loose.{Loose}
use Rattle.machine.specs.declared.making.Draft.{Draft}
use Rattle.machine.specs.declared.making.Plan.{Plan}
use Rattle.machine.specs.declared.parts.Parts.{Parts}
use Rattle.machine.proofs.HeldEvents.{untouched}
use Rattle.machine.proofs.HeldMaking.{some-mapped, wants-queued}
use Rattle.machine.proofs.HeldRecording.{as-lists}
use Rattle.machine.proofs.HeldWords.{becomes-then}
use Rattle.machine.proofs.NextHeld.{got-item}

-- ## Rules

abbrev rule_by : ℕ → ℕ → Draft → ℕ → Rule
rule_by run first d number = record {
  number = number;
  run = run;
  first = first;
  name = d.name;
  cond = d.cond;
  due = d.due;
  bucket = d.bucket;
}

pub rules-below : (m : Parts) (number : ℕ) → number ≡ m.counts.entries + 1 → IsHeld m
    → AllByRecursion (λ (r : Rule). r.number < number) m.rules
rules-below m number next h =
    all-weaker (IsRuleFit m.counts.events m.counts.entries m.texts.texts) (λ (r : Rule). r.number < number) m.rules
    (λ r (fits : IsRuleFit m.counts.events m.counts.entries m.texts.texts r). omega (arith, next, fits.number))
    h.fit.conditions_fit.each_rule

fit-draft : (run first : ℕ) (d : Draft) (s : State) → first ≤ s.events → IsBucketOf s.texts first d.cond d.bucket
    → IsFit s → IsFit (add_draft run first d s)
fit-draft run first d s given bucket h =
    let fits : IsFit (record s { entries = s.entries + 1 }) = fit-entries s h in
    fit-conditions s.waits (s.rules ++ rule_of run first s d ∷ []) (record s { entries = s.entries + 1 })
    (record {
      each_wait = fits.conditions_fit.each_wait;
      each_rule = all-last (IsRuleFit s.events (s.entries + 1) s.texts) s.rules (rule_of run first s d)
          fits.conditions_fit.each_rule (record { number = omega arith; first = given; bucket = bucket });
    }) fits

pub held-add_rule : (m : Parts) (run first number : ℕ) (d : Draft) (counts : Counts) (rules : List Rule)
    → number ≡ m.counts.entries + 1 → counts ≡ record m.counts { entries = m.counts.entries + 1 }
    → rules ≡ m.rules ++ rule_by run first d number ∷ []
    → first ≤ m.counts.events → IsBucketOf m.texts.texts first d.cond d.bucket → IsHeld m
    → Becomes (add_draft run first d (state_of m)) m (record m { counts = counts; rules = rules })
held-add_rule m run first number d counts rules next counted added given bucket h =
    let s = state_of m in
    subst (λ (c : Counts). Becomes (add_draft run first d s) m (record m { counts = c; rules = rules })) (sym counted)
    (subst (λ (rs : List Rule). Becomes (add_draft run first d s) m
    (record m { counts = record m.counts { entries = m.counts.entries + 1 }; rules = rs }))
    (sym (added ∙ ap (λ n. m.rules ++ rule_by run first d n ∷ []) next))
    (record {
      state = refl;
      held = record {
        fit = fit-draft run first d s given bucket h.fit;
        wants = h.wants;
        events = h.events;
        versions = h.versions;
        ends = h.ends;
        clock = h.clock;
      };
      clock = refl;
    }))

-- what rules don't change
same-drafts : {X : Type 0} (g : State → X) (run first : ℕ)
    → ((d : Draft) (s : State) → g (add_draft run first d s) ≡ g s)
    → (ds : List Draft) (s : State) → g (add_drafts run first ds s) ≡ g s
same-drafts g run first same [] s = refl
same-drafts g run first same (d ∷ ds) s =
    same-drafts g run first same ds (add_draft run first d s) ∙ same d s

-- ## A run more

-- what doesn't pass is found no more often
any-last : {X : Type 0} (p : X → Bool) (xs : List X) (x : X) → p x ≡ false
    → list_any p (xs ++ x ∷ []) ≡ list_any p xs
any-last p [] x h = ap (λ b. b || false) h
any-last p (y ∷ ys) x h = ap (λ b. p y || b) (any-last p ys x h)

pub not-same : (touched : List ℕ) (k n : ℕ) → has_number touched k ≡ false → has_number touched n ≡ true
    → (k == n) ≡ false
not-same touched k n left there = by_test (k == n) refl
  where
    by_test : (b : Bool) → (k == n) ≡ b → b ≡ false
    by_test true e =
        let clash : true ≡ false = sym there ∙ ap (has_number touched) (sym (eqb-true k n e)) ∙ left in cc
    by_test false e = refl

pub none-in : (touched : List ℕ) (k : ℕ) (ns : List ℕ) → has_number touched k ≡ false
    → AllByRecursion (λ n. has_number touched n ≡ true) ns → is_in k ns ≡ false
none-in touched k [] left there = refl
none-in touched k (n ∷ ns) left there =
    ap (λ b. b || is_in k ns) (not-same touched k n left there.0) ∙ none-in touched k ns left there.1

events-begun : (r : Run) (live closing : List Run) (ws : List Window) (texts : List EventText)
    (used old new : List ℕ) → AreJoined r.events old new → AreEventsRight live closing ws texts used old
    → AreEventsRight (live ++ r ∷ []) closing ws texts used new
events-begun r live closing ws texts used old new joined h = record {
  each = all-weaker
      (λ (e : EventText). has_number old e.number ≡ false → IsEventRight live closing ws used e.number)
      (λ (e : EventText).
      has_number new e.number ≡ false → IsEventRight (live ++ r ∷ []) closing ws used e.number)
      texts (λ e right left. begun e.number left (right (untouched old new e.number joined.kept left))) h.each;
}
  where
    begun : (event : ℕ) → has_number new event ≡ false → IsEventRight live closing ws used event
        → IsEventRight (live ++ r ∷ []) closing ws used event
    begun event left right =
        let same : is_event_used (live ++ r ∷ []) ws event ≡ is_event_used live ws event =
        ap (λ b. b || list_any (λ w. is_in event (windows.events_of w)) ws)
        (any-last (λ (q : Run). is_in event q.events) live r (none-in new event r.events left joined.there)) in
        record {
          counted = right.counted ∙ sym same;
          named = ap (λ b. b || list_any (λ (q : Run). is_in event q.events) closing) same ∙ right.named;
        }

versions-begun : (r : Run) (live closing : List Run) (ws : List Window) (retired : List FunctionEntry)
    (old new : List ℕ) → IsJoined r.version old new → AreVersionsRight live closing ws retired old
    → AreVersionsRight (live ++ r ∷ []) closing ws retired new
versions-begun r live closing ws retired old new joined h = record {
  each = all-weaker
      (λ (f : FunctionEntry). has_number old f.version ≡ false
      → is_version_in_use live closing ws f.version ≡ true)
      (λ (f : FunctionEntry). has_number new f.version ≡ false
      → is_version_in_use (live ++ r ∷ []) closing ws f.version ≡ true)
      retired (λ f right left. begun f.version left (right (untouched old new f.version joined.kept left))) h.each;
}
  where
    begun : (version : ℕ) → has_number new version ≡ false → is_version_in_use live closing ws version ≡ true
        → is_version_in_use (live ++ r ∷ []) closing ws version ≡ true
    begun version left right =
        ap (λ b. b || list_any (λ (q : Run). version == q.version) closing
        || list_any (λ w. version == windows.version_of w) ws)
        (any-last (λ (q : Run). version == q.version) live r (not-same new version r.version left joined.there))
        ∙ right

ends-begun : (r : Run) (runs : ℕ) (live closing : List Run) (ended : List EndedRun) (issues : List Issue)
    (touched : List ℕ) → r.number ≡ runs + 1 → AreEndsRight runs live closing ended issues touched
    → AreEndsRight (runs + 1) (live ++ r ∷ []) closing ended issues touched
ends-begun r runs live closing ended issues touched next h = record {
  closing_open = h.closing_open;
  ended_open = h.ended_open;
  given = all-weaker (λ (e : EndedRun). e.run ≤ runs) (λ (e : EndedRun). e.run ≤ runs + 1) ended
      (λ e (low : e.run ≤ runs). omega (arith, low)) h.given;
  once = all-last (λ (q : Run). find (has ended_number q.number) ended ≡ None) live r h.once
      (ap (λ n. find (has ended_number n) ended) next ∙ none-next ended_number runs ended h.given);
  own_calls = h.own_calls;
}

is-less : (a b : ℕ) → a < b → nat_cmp a b ≡ Less
is-less a b h = grind (arith, nat_tests, h)

less-last : (n : ℕ) (r : Run) (rs : List Run) → n < r.number
    → AllByRecursion (λ k. nat_cmp n k ≡ Less) (map run_number rs)
    → AllByRecursion (λ k. nat_cmp n k ≡ Less) (map run_number (rs ++ r ∷ []))
less-last n r [] low h = (is-less n r.number low, tt)
less-last n r (q ∷ rs) low h = (h.0, less-last n r rs low h.1)

ordered-last : (r : Run) (rs : List Run) → AllByRecursion (λ (q : Run). q.number < r.number) rs
    → IsStrictlySortedBy nat_cmp (map run_number rs) → IsStrictlySortedBy nat_cmp (map run_number (rs ++ r ∷ []))
unfolding IsStrictlySortedBy
ordered-last r [] low h = (tt, tt)
ordered-last r (q ∷ rs) low h = (less-last q.number r rs low.0 h.0, ordered-last r rs low.1 h.1)

wants-begun : (r : Run) (s : State) (wanting : List ℕ) → AllByRecursion (λ (q : Run). q.number < r.number) s.live
    → AreWantsNoted s.live s.items s.issues wanting
    → AreWantsNoted (s.live ++ r ∷ []) (insert_item (new_item r step_target s) s.items) s.issues wanting
wants-begun r s wanting low h =
    let i : Item = new_item r step_target s in
    record {
      ordered = ordered-last r s.live low h.ordered;
      noted = all-last
          (λ q. is_left (insert_item i s.items) s.issues q ≡ true → has_number wanting q.number ≡ true) s.live r
          (wants-queued i s.live s.items s.issues wanting h).noted
          (λ left. let clash : true ≡ false = sym left ∙ got-item r s in cc);
    }

fit-begun : (r : Run) (s : State) → IsNewFit s r → IsFit s → IsFit (begin_run r s)
fit-begun r s new h =
    let more : IsFit (record s { runs = s.runs + 1 }) = fit-runs s h in
    fit-new r step_target (record s { runs = s.runs + 1; live = s.live ++ r ∷ [] }) new.start
    (fit-live (s.live ++ r ∷ []) (record s { runs = s.runs + 1 })
    (all-last (IsRunFit (s.runs + 1) s.events s.versions) s.live r more.live_fit new) more)

-- ## What the parts ask of a run that is made

bounded-by : (moment : ℕ) (shift : ℤ) → moment ≤ last_moment → unsigned_abs shift ≤ most_shift
    → IsBounded moment shift
bounded-by moment (pos n) early near =
    record { early = early; least = omega (arith, ints); most = omega (arith, ints, near) }
bounded-by moment (negsuc n) early near =
    record { early = early; least = omega (arith, ints, near); most = omega (arith, ints) }

pub bounded-new : (m : Parts) (r : Run) → IsNewFit (state_of m) r → IsBounded r.moment r.shift
bounded-new m r new = bounded-by r.moment r.shift new.moment new.shift

runs-below : (runs events versions number : ℕ) (rs : List Run) → number ≡ runs + 1
    → AllByRecursion (IsRunFit runs events versions) rs → AllByRecursion (λ (r : Run). r.number < number) rs
runs-below runs events versions number rs next h =
    all-weaker (IsRunFit runs events versions) (λ (r : Run). r.number < number) rs
    (λ r (fits : IsRunFit runs events versions r). omega (arith, next, fits.number)) h

pub live-below : (m : Parts) (number : ℕ) → number ≡ m.counts.runs + 1 → IsHeld m
    → AllByRecursion (λ (r : Run). r.number < number) m.runs.live
live-below m number next h =
    runs-below m.counts.runs m.counts.events m.counts.versions number m.runs.live next h.fit.live_fit

pub closing-below : (m : Parts) (number : ℕ) → number ≡ m.counts.runs + 1 → IsHeld m
    → AllByRecursion (λ (r : Run). r.number < number) m.runs.closing
closing-below m number next h =
    runs-below m.counts.runs m.counts.events m.counts.versions number m.runs.closing next h.fit.closing_fit

abbrev begun_counts : Counts → Counts
begun_counts c = record c { runs = c.runs + 1; entries = c.entries + 1 }

held-begun : (m : Parts) (r : Run) (loose : Loose) → r.number ≡ m.counts.runs + 1 → IsNewFit (state_of m) r
    → IsTouched r.version r.events m.loose loose → IsHeld m
    → Becomes (begin_run r (state_of m)) m (record m {
      counts = begun_counts m.counts;
      loose = loose;
      runs = record { live = m.runs.live ++ r ∷ []; closing = m.runs.closing };
      admission =
          record m.admission { items = insert_item (new_item r step_target (state_of m)) m.admission.items };
    })
held-begun m r loose next new touched h = record {
  state = refl;
  held = record {
    fit = fit-begun r (state_of m) new h.fit;
    wants = wants-begun r (state_of m) m.wanting (live-below m r.number next h) h.wants;
    events = events-begun r m.runs.live m.runs.closing m.windows m.texts.texts m.texts.counted m.loose.events
        loose.events touched.events h.events;
    versions = versions-begun r m.runs.live m.runs.closing m.windows m.versions.retired m.loose.versions
        loose.versions touched.versions h.versions;
    ends = subst
        (λ ns. AreEndsRight (m.counts.runs + 1) (m.runs.live ++ r ∷ []) m.runs.closing m.ended m.admission.issues ns)
        (sym touched.runs)
        (ends-begun r m.counts.runs m.runs.live m.runs.closing m.ended m.admission.issues m.loose.runs next h.ends);
    clock = h.clock;
  };
  clock = refl;
}

pub held-add_run : (m : Parts) (r : Run) (item : Item) (loose : Loose) (rs : RunLists) (a : Admission)
    → r.number ≡ m.counts.runs + 1 → IsNewFit (state_of m) r → item ≡ new_item r step_target (state_of m)
    → IsTouched r.version r.events m.loose loose
    → rs.live ≡ m.runs.live ++ r ∷ [] → rs.closing ≡ m.runs.closing
    → a ≡ record m.admission { items = insert_item item m.admission.items } → IsHeld m
    → Becomes (begin_run r (state_of m)) m (record m {
      counts = record m.counts { runs = r.number; entries = item.number };
      loose = loose;
      runs = rs;
      admission = a;
    })
held-add_run m r item loose rs a next new is touched live closing added h =
    let s = begin_run r (state_of m) in
    subst (λ (c : Counts). Becomes s m (record m { counts = c; loose = loose; runs = rs; admission = a }))
    (sym (ap (λ n. record m.counts { runs = n; entries = item.number }) next
    ∙ ap (λ (i : Item). record m.counts { runs = m.counts.runs + 1; entries = i.number }) is))
    (subst (λ (l : RunLists). Becomes s m
    (record m { counts = begun_counts m.counts; loose = loose; runs = l; admission = a }))
    (sym (as-lists rs (m.runs.live ++ r ∷ []) m.runs.closing live closing))
    (subst (λ (b : Admission). Becomes s m (record m {
      counts = begun_counts m.counts;
      loose = loose;
      runs = record { live = m.runs.live ++ r ∷ []; closing = m.runs.closing };
      admission = b;
    })) (sym (added ∙ ap (λ i. record m.admission { items = insert_item i m.admission.items }) is))
    (held-begun m r loose next new touched h)))

-- ## A run that is made

abbrev with_run : Run → State → State
with_run r s = record s { runs = s.runs + 1; live = s.live ++ r ∷ [] }

-- the run's rules are those of the drafts, whether it is there before or after
rules-beside : (r : Run) (first moment : ℕ) (event : List ℕ) (cs : List CancelEntry) (s : State)
    → s.moment ≡ moment
    → add_rules r first event cs (with_run r s)
    ≡ with_run r (add_drafts r.number first (map (draft_of moment event) cs) s)
rules-beside r first moment event [] s e = refl
rules-beside r first moment event (c ∷ cs) s e =
    subst (λ t. add_rules r first event (c ∷ cs) (with_run r s)
    ≡ with_run r (add_drafts r.number first (map (draft_of t event) (c ∷ cs)) s)) e
    (rules-beside r first s.moment event cs (add_draft r.number first (draft_of s.moment event c) s) refl)

abbrev pub origin_by : Plan → ℕ → ℕ → List ℕ → Option Parent → Run
origin_by plan number moment events parent = run_of (record {
  number = number;
  moment = moment;
  version = plan.version;
  events = events;
  cells = plan.cells;
  start = plan.start;
  shift = plan.shift;
  parent = parent;
})

made-of : (s : State) (f : FunctionEntry) (events : List ℕ) (parent : Option Parent)
    → begin_run (run_with f events (text_or_none (text_of (first_of events) s)) parent s)
    (add_drafts (s.runs + 1) (first_of events) (planned (first_of events) s f).rules s)
    ≡ make_run f events parent s
unfolding make_run
made-of s f events parent =
    let event = text_or_none (text_of (first_of events) s) in
    ap (queue_new (run_with f events event parent s) step_target)
    (sym (rules-beside (run_with f events event parent s) (first_of events) s.moment event f.function.cancels s refl))

abbrev pub IsPlan : Plan → ℕ → ℕ → State → Type 0
IsPlan plan version first s = Some plan ≡ option_map (planned first s) (function_at version s)

pub made-by : (s : State) (version number : ℕ) (events : List ℕ) (parent : Option Parent) (plan : Plan)
    → IsPlan plan version (first_of events) s → number ≡ s.runs + 1
    → begin_run (origin_by plan number s.moment events parent) (add_drafts number (first_of events) plan.rules s)
    ≡ make_at (function_at version s) events parent s
made-by s version number events parent plan is next =
    let first = first_of events in
    let found = some-mapped (planned first s) (function_at version s) plan is in
    subst (λ (p : Plan). begin_run (origin_by p number s.moment events parent) (add_drafts number first p.rules s)
    ≡ make_at (function_at version s) events parent s) (sym found.2)
    (subst (λ o. begin_run (origin_by (planned first s found.0) number s.moment events parent)
    (add_drafts number first (planned first s found.0).rules s) ≡ make_at o events parent s) (sym found.1)
    (subst (λ n. begin_run (origin_by (planned first s found.0) n s.moment events parent)
    (add_drafts n first (planned first s found.0).rules s) ≡ make_run found.0 events parent s) (sym next)
    (made-of s found.0 events parent)))

-- the drafts' buckets are those of their conditions
drafts-fit : (moment first : ℕ) (s : State) (cs : List CancelEntry)
    → AreDraftsFit s.texts first (map (draft_of moment (text_or_none (text_of first s))) cs)
drafts-fit moment first s [] = tt
drafts-fit moment first s (c ∷ cs) = (bucket-found c.cond (text_of first s), drafts-fit moment first s cs)

pub plan-drafts : (s : State) (version first : ℕ) (plan : Plan) → IsPlan plan version first s
    → AreDraftsFit s.texts first plan.rules
plan-drafts s version first plan is =
    let found = some-mapped (planned first s) (function_at version s) plan is in
    subst (λ (p : Plan). AreDraftsFit s.texts first p.rules) (sym found.2)
    (drafts-fit s.moment first s found.0.function.cancels)

plan-new : (s : State) (version number : ℕ) (events : List ℕ) (parent : Option Parent) (plan : Plan)
    → IsPlan plan version (first_of events) s → number ≡ s.runs + 1 → AreGiven s.events events → IsFit s
    → IsNewFit s (origin_by plan number s.moment events parent)
plan-new s version number events parent plan is next given h =
    let first = first_of events in
    let found = some-mapped (planned first s) (function_at version s) plan is in
    subst (λ (p : Plan). IsNewFit s (origin_by p number s.moment events parent)) (sym found.2)
    (subst (λ n. IsNewFit s (origin_by (planned first s found.0) n s.moment events parent)) (sym next)
    (in-all (IsRunFit (s.runs + 1) s.events s.versions)
    (run_with found.0 events (text_or_none (text_of first s)) parent s)
    (s.live ++ run_with found.0 events (text_or_none (text_of first s)) parent s ∷ [])
    (in-last (run_with found.0 events (text_or_none (text_of first s)) parent s) s.live)
    (fit-started found.0 events parent s
    (in-found (λ (f : FunctionEntry). version == f.version) (s.functions ++ s.retired) found.0 found.1) given
    h).live_fit))

-- after its rules
module _ (m n : Parts) (run first : ℕ) (ds : List Draft)
    (became : Becomes (add_drafts run first ds (state_of m)) m n) where
  pub drafts-runs : n.counts.runs ≡ m.counts.runs
  drafts-runs = ap (λ (s : State). s.runs) became.state
      ∙ same-drafts (λ (s : State). s.runs) run first (λ d s. refl) ds (state_of m)

  drafts-events : n.counts.events ≡ m.counts.events
  drafts-events = ap (λ (s : State). s.events) became.state
      ∙ same-drafts (λ (s : State). s.events) run first (λ d s. refl) ds (state_of m)

  drafts-versions : n.counts.versions ≡ m.counts.versions
  drafts-versions = ap (λ (s : State). s.versions) became.state
      ∙ same-drafts (λ (s : State). s.versions) run first (λ d s. refl) ds (state_of m)

  pub new-after : (r : Run) → IsNewFit (state_of m) r → IsNewFit (state_of n) r
  new-after r new =
      subst (λ k. IsRunFit (k + 1) n.counts.events n.counts.versions r) (sym drafts-runs)
      (subst (λ k. IsRunFit (m.counts.runs + 1) k n.counts.versions r) (sym drafts-events)
      (subst (λ k. IsRunFit (m.counts.runs + 1) m.counts.events k r) (sym drafts-versions) new))

-- what was looked up of a run that is made
pub record IsDecided (m : Parts) (version number first : ℕ) (events : List ℕ) (plan : Plan) : Type 0 where
  pub plan_is : IsPlan plan version first (state_of m)
  pub next : number ≡ m.counts.runs + 1
  pub first_is : first ≡ first_of events

-- a shift fits its type
shift-fits : (z : ℤ) → unsigned_abs z ≤ most_shift → to_z w64 (of_z w64 z) ≡ z
shift-fits z near = to_z-of_z w64 z (fits_signed_from_abs w64 z (omega (arith, near)))

plan-shift : (s : State) (version first : ℕ) (plan : Plan) → IsPlan plan version first s
    → unsigned_abs plan.shift ≤ most_shift
plan-shift s version first plan is =
    let found = some-mapped (planned first s) (function_at version s) plan is in
    subst (λ (p : Plan). unsigned_abs p.shift ≤ most_shift) (sym found.2)
    (shift-within found.0.function.priority (text_or_none (text_of first s)))

-- as it goes into the run
abbrev held_plan : Plan → Plan
held_plan p = record p { shift = to_z w64 (of_z w64 p.shift) }

module _ (m : Parts) (version number first : ℕ) (events : List ℕ) (plan : Plan)
    (d : IsDecided m version number first events plan) where
  same-plan : held_plan plan ≡ plan
  same-plan = ap (λ z. record plan { shift = z })
      (shift-fits plan.shift (plan-shift (state_of m) version first plan d.plan_is))

  pub decided-first : AreGiven m.counts.events events → first ≤ m.counts.events
  decided-first given = subst (λ n. n ≤ m.counts.events) (sym d.first_is) (first-given m.counts.events events given)

  pub decided-drafts : AreDraftsFit m.texts.texts first plan.rules
  decided-drafts = plan-drafts (state_of m) version first plan d.plan_is

  plan-of-first : IsPlan plan version (first_of events) (state_of m)
  plan-of-first = subst (λ n. IsPlan plan version n (state_of m)) d.first_is d.plan_is

  pub decided-next : (n : Parts) → Becomes (add_drafts number first plan.rules (state_of m)) m n
      → number ≡ n.counts.runs + 1
  decided-next n became = d.next ∙ ap (λ k. k + 1) (sym (drafts-runs m n number first plan.rules became))

  pub decided-fit : (n : Parts) (parent : Option Parent)
      → Becomes (add_drafts number first plan.rules (state_of m)) m n → AreGiven m.counts.events events → IsHeld m
      → IsNewFit (state_of n) (origin_by (held_plan plan) number m.moment events parent)
  decided-fit n parent became given h =
      subst (λ p. IsNewFit (state_of n) (origin_by p number m.moment events parent)) (sym same-plan)
      (new-after m n number first plan.rules became (origin_by plan number m.moment events parent)
      (plan-new (state_of m) version number events parent plan plan-of-first d.next given h.fit))

  pub held-make_run : (n new : Parts) (parent : Option Parent)
      → Becomes (add_drafts number first plan.rules (state_of m)) m n
      → Becomes (begin_run (origin_by (held_plan plan) number m.moment events parent) (state_of n)) n new
      → Becomes (make_at (function_at version (state_of m)) events parent (state_of m)) m new
  held-make_run n new parent ruled begun =
      let r : Run = origin_by (held_plan plan) number m.moment events parent in
      subst (λ s. Becomes s m new)
      (ap (λ k. begin_run r (add_drafts number k plan.rules (state_of m))) d.first_is
      ∙ ap (λ p. begin_run (origin_by p number m.moment events parent)
      (add_drafts number (first_of events) plan.rules (state_of m))) same-plan
      ∙ made-by (state_of m) version number events parent plan plan-of-first d.next)
      (becomes-then (begin_run r) (add_drafts number first plan.rules (state_of m)) m n new ruled begun)
