-- The parts after a run ends.
use Rattle.std.proofs.Common.{◌≡◌, ℕ, ◌+◌, ◌-◌, ◌<◌, ◌≤◌, ◌==◌, Bool, true, false, not, cond, ◌&&◌, ◌||◌, List, [], ◌∷◌, ◌++◌, map, filter, find, take, length, Option, Some, None, IfSome, nat_le, option_map, suc, zero, refl, sym, ap, ◌∙◌, arith, subst, eqb-true}
use Rattle.std.specs.List.{AllByRecursion, list_any, slice_get}
use Rattle.std.specs.List.Sorted.{IsStrictlySortedBy}
use Rattle.std.specs.Ordering.{is_lt, nat_cmp}
use Rattle.std.proofs.lemmas.Bool.Decides.{nat_tests}
use Rattle.std.proofs.lemmas.List.{length-append}
use Rattle.std.proofs.lemmas.List.Kept.{IsStrictlySortedBy-filter}
use Rattle.std.proofs.lemmas.Map.Keys.{sorted_head, sorted_tail}
use Rattle.admission.specs.Admission.{Admission}
use Rattle.functions.specs.declared.entry.FunctionEntry.{FunctionEntry}
use Rattle.kinds.specs.Queue.{has_run, without_run}
use Rattle.kinds.specs.Windows as windows
use Rattle.kinds.specs.declared.store.Item.{Item}
use Rattle.kinds.specs.declared.store.Rule.{Rule}
use Rattle.kinds.specs.declared.store.RunStatus.{RunStatus}
use Rattle.kinds.specs.declared.window.Window.{Window}
use Rattle.lists.proofs.Elements.{all-both, all-filter, all-last, all-weaker, filter-passes}
use Rattle.lists.specs.Entries.{has, insert_by}
use Rattle.runs.specs.Ended.{ended_number, outgoing}
use Rattle.runs.specs.Runs.{RunLists, is_in, run_at, run_number, with_run}
use Rattle.run_model.specs.Ends.{end_run, ended_run}
use Rattle.run_model.specs.Making.{is_item_of, step_target}
use Rattle.run_model.specs.State.{Run, Issue, EndedRun, EventText, Invocation, Sleep, Waiting, live_run}
use Rattle.run_model.proofs.FitEvents.{find-last}
use Rattle.run_model.proofs.FitRuns.{all-inserted, fit-end_run, fit-found}
use Rattle.run_model.proofs.Members.{all-in, in-all, in-found}
use Rattle.run_model.proofs.SettlingLists.{found-passes}
use Rattle.machine.specs.Ends.{ending_of}
use Rattle.machine.specs.Held.{AreEndsRight, AreEventsRight, AreVersionsRight, AreWantsNoted, Becomes, IsClosing, IsEventRight, IsHeld, is_event_used, is_left, is_version_in_use}
use Rattle.machine.specs.Numbers.{AreJoined, IsJoined, IsJoinedBy, Keeps, has_number}
use Rattle.machine.specs.View.{state_of}
use Rattle.machine.specs.Words.{end_at}
use Rattle.machine.specs.declared.ends.Ending.{Ending}
use Rattle.machine.specs.declared.loose.Loose.{Loose}
use Rattle.machine.specs.declared.parts.Parts.{Parts}
use Rattle.machine.proofs.Changed.{any-without, apart-run}
use Rattle.machine.proofs.Discovered.{above-head}
use Rattle.machine.proofs.HeldEvents.{untouched}
use Rattle.machine.proofs.HeldMaking.{some-mapped}
use Rattle.machine.proofs.HeldRecording.{as-lists}

-- ## A run by its number

-- a run of this number is this run
abbrev IsOnly : ℕ → Run → List Run → Type 0
IsOnly n r rs = AllByRecursion (λ (q : Run). (n == q.number) ≡ true → q ≡ r) rs

abbrev found_at : ℕ → List Run → Option Run
found_at n rs = find (λ (q : Run). n == q.number) rs

only-all : (n : ℕ) (r : Run) (rs : List Run) → IsStrictlySortedBy nat_cmp (map run_number rs)
    → found_at n rs ≡ Some r → IsOnly n r rs
only-all n r [] sorted found = tt
only-all n r (q ∷ rs) sorted found =
    by_test (n == q.number) refl
    (only-all n r rs (sorted_tail nat_cmp q.number (map run_number rs) sorted)) found
  where
    others : n ≡ q.number → IsOnly n r rs
    others at =
        all-weaker (λ (x : Run). q.number < x.number) (λ (x : Run). (n == x.number) ≡ true → x ≡ r) rs
        (λ x (low : q.number < x.number) same.
        let is : n ≡ x.number = eqb-true n x.number same in absurd (omega (arith, low, is, at)))
        (above-head q rs (sorted_head nat_cmp q.number (map run_number rs) sorted))

    by_test : (b : Bool) → (n == q.number) ≡ b → (found_at n rs ≡ Some r → IsOnly n r rs)
        → cond b (Some q) (found_at n rs) ≡ Some r → IsOnly n r (q ∷ rs)
    by_test true t rest here = ((λ same. cc), others (eqb-true n q.number t))
    by_test false f rest here = ((λ same. let clash : true ≡ false = sym same ∙ f in cc), rest here)

abbrev dropped : ℕ → List Run → List Run
dropped n rs = filter (λ (q : Run). not (n == q.number)) rs

-- what the run doesn't have, the others have as before
any-dropped : (p : Run → Bool) (n : ℕ) (r : Run) (rs : List Run) → p r ≡ false → IsOnly n r rs
    → list_any p (dropped n rs) ≡ list_any p rs
any-dropped p n r rs off only =
    any-without p (λ (q : Run). n == q.number) rs
    (all-weaker (λ (q : Run). (n == q.number) ≡ true → q ≡ r) (λ (q : Run). (n == q.number) ≡ true → p q ≡ false)
    rs (λ q is same. ap p (is same) ∙ off) only)

swap : (a b c : Bool) → (b || (a || c)) ≡ (a || (b || c))
swap true true c = refl
swap true false c = refl
swap false b c = refl

any-put : (p : Run → Bool) (x : Run) (xs : List Run)
    → list_any p (insert_by run_number x xs) ≡ (p x || list_any p xs)
any-put p x [] = refl
any-put p x (y ∷ ys) = by_place (is_lt (nat_cmp x.number y.number)) (any-put p x ys)
  where
    by_place : (b : Bool) → list_any p (insert_by run_number x ys) ≡ (p x || list_any p ys)
        → list_any p (cond b (x ∷ y ∷ ys) (y ∷ insert_by run_number x ys)) ≡ (p x || (p y || list_any p ys))
    by_place true rest = refl
    by_place false rest = ap (λ b. p y || b) rest ∙ swap (p x) (p y) (list_any p ys)

any-beside : (p : Run → Bool) (x : Run) (xs : List Run) → p x ≡ false
    → list_any p (insert_by run_number x xs) ≡ list_any p xs
any-beside p x xs off = any-put p x xs ∙ ap (λ b. b || list_any p xs) off

-- ## What is touched

-- what isn't touched isn't what is
differs : (n k : ℕ) (touched : List ℕ) → has_number touched n ≡ true → has_number touched k ≡ false
    → (k == n) ≡ false
differs n k touched there left = by_test (k == n) refl
  where
    by_test : (b : Bool) → (k == n) ≡ b → b ≡ false
    by_test false f = refl
    by_test true t =
        let clash : true ≡ false = sym there ∙ ap (has_number touched) (sym (eqb-true k n t)) ∙ left in cc

not-in : (ns : List ℕ) (k : ℕ) (touched : List ℕ) → AllByRecursion (λ n. has_number touched n ≡ true) ns
    → has_number touched k ≡ false → is_in k ns ≡ false
not-in [] k touched h left = refl
not-in (n ∷ ns) k touched h left =
    ap (λ b. b || is_in k ns) (differs n k touched h.0 left) ∙ not-in ns k touched h.1 left

pub joined-more : (n : ℕ) (a b c : List ℕ) → IsJoined n a b → Keeps b c → IsJoined n a c
joined-more n a b c joined kept = record {
  there = kept n joined.there;
  kept = λ k here. kept k (joined.kept k here);
}

pub keeps-by : (o : Option ℕ) (old new : List ℕ) → IsJoinedBy o old new → Keeps old new
keeps-by None old new same = λ k here. ap (λ ns. has_number ns k) same ∙ here
keeps-by (Some n) old new joined = joined.kept

-- ## What finds out what comes next

order-dropped : (n : ℕ) (rs : List Run) → IsStrictlySortedBy nat_cmp (map run_number rs)
    → IsStrictlySortedBy nat_cmp (map run_number (dropped n rs))
order-dropped n rs sorted =
    subst (IsStrictlySortedBy nat_cmp) (sym (as-numbers rs))
    (IsStrictlySortedBy-filter nat_cmp (λ k. not (n == k)) (map run_number rs) sorted)
  where
    by_test : (r : Run) (rs : List Run) (b : Bool)
        → map run_number (dropped n rs) ≡ filter (λ k. not (n == k)) (map run_number rs)
        → map run_number (cond b (r ∷ dropped n rs) (dropped n rs))
        ≡ cond b (r.number ∷ filter (λ k. not (n == k)) (map run_number rs))
        (filter (λ k. not (n == k)) (map run_number rs))
    by_test r rs true rest = ap (λ ks. r.number ∷ ks) rest
    by_test r rs false rest = rest

    as-numbers : (rs : List Run)
        → map run_number (dropped n rs) ≡ filter (λ k. not (n == k)) (map run_number rs)
    as-numbers [] = refl
    as-numbers (r ∷ rs) = by_test r rs (not (n == r.number)) (as-numbers rs)

not-true : (b : Bool) → not b ≡ true → b ≡ false
not-true true h = cc
not-true false h = refl

left-dropped : (n : ℕ) (items : List Item) (issues : List Issue) (r : Run) → (n == r.number) ≡ false
    → is_left (without_run n items) issues r ≡ is_left items issues r
left-dropped n items issues r differ =
    ap (λ b. r.wanted && not (b || list_any (λ (i : Issue). is_item_of r.number step_target i.item) issues))
    (any-without (is_item_of r.number step_target) (has_run n) items
    (all-in (λ (i : Item). has_run n i ≡ true → is_item_of r.number step_target i ≡ false) items
    (λ i there here. apart-run n r.number i step_target differ here)))

wants-ended : (n : ℕ) (live : List Run) (items : List Item) (issues : List Issue) (wanting : List ℕ)
    → AreWantsNoted live items issues wanting
    → AreWantsNoted (dropped n live) (without_run n items) issues wanting
wants-ended n live items issues wanting h = record {
  ordered = order-dropped n live h.ordered;
  noted = all-both (λ (r : Run). not (n == r.number) ≡ true)
      (λ r. is_left items issues r ≡ true → has_number wanting r.number ≡ true)
      (λ r. is_left (without_run n items) issues r ≡ true → has_number wanting r.number ≡ true)
      (dropped n live)
      (λ r passes noted left.
      noted (sym (left-dropped n items issues r (not-true (n == r.number) passes)) ∙ left))
      (filter-passes (λ (r : Run). not (n == r.number)) live)
      (all-filter (λ r. is_left items issues r ≡ true → has_number wanting r.number ≡ true)
      (λ (r : Run). not (n == r.number)) live h.noted);
}

-- ## What is named

module _ (r : Run) (live closing : List Run) (ws : List Window) (only : IsOnly r.number r live) where
  used-ended : (event : ℕ) → is_in event r.events ≡ false
      → is_event_used (dropped r.number live) ws event ≡ is_event_used live ws event
  used-ended event off =
      ap (λ b. b || list_any (λ w. is_in event (windows.events_of w)) ws)
      (any-dropped (λ (q : Run). is_in event q.events) r.number r live off only)

  events-ended : (texts : List EventText) (used old new : List ℕ) → AreJoined r.events old new
      → AreEventsRight live closing ws texts used old
      → AreEventsRight (dropped r.number live) (insert_by run_number r closing) ws texts used new
  events-ended texts used old new joined h = record {
    each = all-weaker
        (λ (e : EventText). has_number old e.number ≡ false → IsEventRight live closing ws used e.number)
        (λ (e : EventText). has_number new e.number ≡ false
        → IsEventRight (dropped r.number live) (insert_by run_number r closing) ws used e.number)
        texts
        (λ e right left.
        let off : is_in e.number r.events ≡ false = not-in r.events e.number new joined.there left in
        let now : IsEventRight live closing ws used e.number =
        right (untouched old new e.number joined.kept left) in
        record {
          counted = now.counted ∙ sym (used-ended e.number off);
          named = ap (λ b. b || list_any (λ (q : Run). is_in e.number q.events) (insert_by run_number r closing))
              (used-ended e.number off)
              ∙ ap (λ b. is_event_used live ws e.number || b)
              (any-beside (λ (q : Run). is_in e.number q.events) r closing off) ∙ now.named;
        }) h.each;
  }

  versions-ended : (retired : List FunctionEntry) (old new : List ℕ) → IsJoined r.version old new
      → AreVersionsRight live closing ws retired old
      → AreVersionsRight (dropped r.number live) (insert_by run_number r closing) ws retired new
  versions-ended retired old new joined h = record {
    each = all-weaker
        (λ (f : FunctionEntry). has_number old f.version ≡ false
        → is_version_in_use live closing ws f.version ≡ true)
        (λ (f : FunctionEntry). has_number new f.version ≡ false
        → is_version_in_use (dropped r.number live) (insert_by run_number r closing) ws f.version ≡ true)
        retired
        (λ f right left.
        let off : (f.version == r.version) ≡ false = differs r.version f.version new joined.there left in
        ap (λ b. b || list_any (λ (q : Run). f.version == q.version) (insert_by run_number r closing)
        || list_any (λ w. f.version == windows.version_of w) ws)
        (any-dropped (λ (q : Run). f.version == q.version) r.number r live off only)
        ∙ ap (λ b. list_any (λ (q : Run). f.version == q.version) live || b
        || list_any (λ w. f.version == windows.version_of w) ws)
        (any-beside (λ (q : Run). f.version == q.version) r closing off)
        ∙ right (untouched old new f.version joined.kept left)) h.each;
  }

-- ## What has ended

take-more : {X : Type 0} (P : X → Type 0) (k : ℕ) (xs : List X) (x : X) → k < length xs
    → AllByRecursion P (take k xs) → IfSome (slice_get xs k) P → AllByRecursion P (take (suc k) (xs ++ x ∷ []))
take-more P k [] x low h next = absurd (omega (arith, low))
take-more P zero (y ∷ ys) x low h next = (next, tt)
take-more P (suc k) (y ∷ ys) x low h next = (h.0, take-more P k ys x (omega (arith, low)) h.1 next)

module _ (issues : List Issue) (new : List ℕ) where
  abbrev IsOpen : EndedRun → Type 0
  IsOpen e = IsClosing issues new e.run

  -- what went out is touched
  open-out : (mid : List ℕ) (found : Option EndedRun) → IsJoinedBy (option_map ended_number found) mid new
      → IfSome found IsOpen
  open-out mid None joined = tt
  open-out mid (Some e) joined = λ left. let clash : true ≡ false = sym joined.there ∙ left in cc

  open-more : (mid : List ℕ) (ended : List EndedRun) (x : EndedRun) → IsJoinedBy (outgoing ended) mid new
      → AllByRecursion IsOpen (take (length ended - 1000) ended)
      → AllByRecursion IsOpen (take (length (ended ++ x ∷ []) - 1000) (ended ++ x ∷ []))
  open-more mid ended x joined h =
      subst (λ n. AllByRecursion IsOpen (take (n - 1000) (ended ++ x ∷ [])))
      (sym (length-append ended (x ∷ []))) (by_test (nat_le 1000 (length ended)) refl joined)
    where
      few : nat_le 1000 (length ended) ≡ false → length ended + 1 - 1000 ≡ 0
      few e = let low : length ended < 1000 = grind (arith, nat_tests, e) in omega (arith, low)

      many : nat_le 1000 (length ended) ≡ true → length ended + 1 - 1000 ≡ suc (length ended - 1000)
      many e = let high : 1000 ≤ length ended = grind (arith, nat_tests, e) in omega (arith, high)

      within : nat_le 1000 (length ended) ≡ true → length ended - 1000 < length ended
      within e = let high : 1000 ≤ length ended = grind (arith, nat_tests, e) in omega (arith, high)

      by_test : (b : Bool) → nat_le 1000 (length ended) ≡ b
          → IsJoinedBy (cond b (option_map ended_number (slice_get ended (length ended - 1000))) None) mid new
          → AllByRecursion IsOpen (take (length ended + 1 - 1000) (ended ++ x ∷ []))
      by_test true e out =
          subst (λ n. AllByRecursion IsOpen (take n (ended ++ x ∷ []))) (sym (many e))
          (take-more IsOpen (length ended - 1000) ended x (within e) h
          (open-out mid (slice_get ended (length ended - 1000)) out))
      by_test false e out = subst (λ n. AllByRecursion IsOpen (take n (ended ++ x ∷ []))) (sym (few e)) tt

ends-ended : (runs : ℕ) (r : Run) (x : EndedRun) (live closing : List Run) (ended : List EndedRun)
    (issues : List Issue) (old mid new : List ℕ) → x.run ≡ r.number → r.number ≤ runs → IsJoined r.number old new
    → IsJoinedBy (outgoing ended) mid new → AreEndsRight runs live closing ended issues old
    → AreEndsRight runs (dropped r.number live) (insert_by run_number r closing) (ended ++ x ∷ []) issues new
ends-ended runs r x live closing ended issues old mid new is low joined out h = record {
  closing_open = all-inserted (λ (q : Run). IsClosing issues new q.number) run_number r closing
      (λ left. let clash : true ≡ false = sym joined.there ∙ left in cc)
      (all-weaker (λ (q : Run). IsClosing issues old q.number) (λ (q : Run). IsClosing issues new q.number) closing
      (λ q open_call left. open_call (untouched old new q.number joined.kept left)) h.closing_open);
  ended_open = open-more issues new mid ended x out
      (all-weaker (λ (e : EndedRun). IsClosing issues old e.run) (λ (e : EndedRun). IsClosing issues new e.run)
      (take (length ended - 1000) ended)
      (λ e open_call left. open_call (untouched old new e.run joined.kept left)) h.ended_open);
  given = all-last (λ (e : EndedRun). e.run ≤ runs) ended x h.given
      (subst (λ n. n ≤ runs) (sym is) low);
  once = all-both (λ (q : Run). not (r.number == q.number) ≡ true)
      (λ (q : Run). find (has ended_number q.number) ended ≡ None)
      (λ (q : Run). find (has ended_number q.number) (ended ++ x ∷ []) ≡ None) (dropped r.number live)
      (λ q passes none. find-last (has ended_number q.number) ended x
      (apart q.number (not-true (r.number == q.number) passes)) ∙ none)
      (filter-passes (λ (q : Run). not (r.number == q.number)) live)
      (all-filter (λ (q : Run). find (has ended_number q.number) ended ≡ None)
      (λ (q : Run). not (r.number == q.number)) live h.once);
  own_calls = h.own_calls;
}
  where
    apart : (n : ℕ) → (r.number == n) ≡ false → (n == x.run) ≡ true → ⊥
    apart n differ same =
        let at : n ≡ x.run = eqb-true n x.run same in grind (arith, differ, at, is)

-- ## The parts

-- what of a run goes
pub record IsRunGone (number : ℕ) (m : Parts) (rs : RunLists) (a : Admission) (sleeps : List Sleep)
    (waits : List Waiting) (invocations : List Invocation) (rules : List Rule) : Type 0 where
  pub live : rs.live ≡ dropped number m.runs.live
  pub closing : rs.closing ≡ with_run (run_at number m.runs.live) m.runs.closing
  pub admitted : a ≡ record m.admission { items = without_run number m.admission.items }
  pub slept : sleeps ≡ filter (λ (e : Sleep). not (number == e.run)) m.sleeps
  pub waited : waits ≡ filter (λ (e : Waiting). not (number == e.wait.run)) m.waits
  pub invoked : invocations ≡ filter (λ (e : Invocation). not (number == e.run)) m.invocations
  pub ruled : rules ≡ filter (λ (e : Rule). not (number == e.run)) m.rules

-- what the run touches, and the one that goes out
pub record IsLoosened (number : ℕ) (e : Ending) (gone : Option ℕ) (old new : Loose) : Type 0 where
  pub mid : List ℕ
  pub own : IsJoined number old.runs mid
  pub out : IsJoinedBy gone mid new.runs
  pub events : AreJoined e.ended.events old.events new.events
  pub versions : IsJoined e.version old.versions new.versions

held-ended : (m : Parts) (r : Run) (status : RunStatus) (loose : Loose) → live_run r.number (state_of m) ≡ Some r
    → IsLoosened r.number (ending_of status (state_of m) r) (outgoing m.ended) m.loose loose → IsHeld m
    → Becomes (end_run r status (state_of m)) m
    (record m {
      loose = loose;
      runs = record { live = dropped r.number m.runs.live; closing = insert_by run_number r m.runs.closing };
      admission = record m.admission { items = without_run r.number m.admission.items };
      sleeps = filter (λ (e : Sleep). not (r.number == e.run)) m.sleeps;
      waits = filter (λ (e : Waiting). not (r.number == e.wait.run)) m.waits;
      invocations = filter (λ (e : Invocation). not (r.number == e.run)) m.invocations;
      rules = filter (λ (e : Rule). not (r.number == e.run)) m.rules;
      ended = m.ended ++ ended_run r status (state_of m) ∷ [];
    })
held-ended m r status loose found l h =
    let only : IsOnly r.number r m.runs.live = only-all r.number r m.runs.live h.wants.ordered found in
    record {
      state = refl;
      held = record {
        fit = fit-end_run r status (state_of m) found h.fit;
        wants = wants-ended r.number m.runs.live m.admission.items m.admission.issues m.wanting h.wants;
        events = events-ended r m.runs.live m.runs.closing m.windows only m.texts.texts m.texts.counted
            m.loose.events loose.events l.events h.events;
        versions = versions-ended r m.runs.live m.runs.closing m.windows only m.versions.retired m.loose.versions
            loose.versions l.versions h.versions;
        ends = ends-ended m.counts.runs r (ended_run r status (state_of m)) m.runs.live m.runs.closing m.ended
            m.admission.issues m.loose.runs l.mid loose.runs refl
            (fit-found r (state_of m) found h.fit).number
            (joined-more r.number m.loose.runs l.mid loose.runs l.own
            (keeps-by (outgoing m.ended) l.mid loose.runs l.out)) l.out h.ends;
        clock = h.clock;
      };
      clock = refl;
    }

pub held-end : (m : Parts) (number : ℕ) (status : RunStatus) (e : Ending) (loose : Loose) (rs : RunLists)
    (a : Admission) (sleeps : List Sleep) (waits : List Waiting) (invocations : List Invocation)
    (rules : List Rule) (ended : List EndedRun)
    → Some e ≡ option_map (ending_of status (state_of m)) (live_run number (state_of m))
    → IsRunGone number m rs a sleeps waits invocations rules → ended ≡ m.ended ++ e.ended ∷ []
    → IsLoosened number e (outgoing m.ended) m.loose loose → IsHeld m
    → Becomes (end_at (live_run number (state_of m)) status (state_of m)) m
    (record m {
      loose = loose;
      runs = rs;
      admission = a;
      sleeps = sleeps;
      waits = waits;
      invocations = invocations;
      rules = rules;
      ended = ended;
    })
held-end m number status e loose rs a sleeps waits invocations rules ended is gone added l h =
    let found = some-mapped (ending_of status (state_of m)) (live_run number (state_of m)) e is in
    let r : Run = found.0 in
    let at : number ≡ r.number =
    eqb-true number r.number (found-passes (λ (q : Run). number == q.number) m.runs.live r found.1) in
    let there : live_run r.number (state_of m) ≡ Some r =
    ap (λ n. live_run n (state_of m)) (sym at) ∙ found.1 in
    let went : IsRunGone r.number m rs a sleeps waits invocations rules =
    subst (λ n. IsRunGone n m rs a sleeps waits invocations rules) at gone in
    let loosened : IsLoosened r.number (ending_of status (state_of m) r) (outgoing m.ended) m.loose loose =
    subst (λ n. IsLoosened n (ending_of status (state_of m) r) (outgoing m.ended) m.loose loose) at
    (subst (λ x. IsLoosened number x (outgoing m.ended) m.loose loose) found.2 l) in
    subst (λ o. Becomes (end_at o status (state_of m)) m
    (record m {
      loose = loose;
      runs = rs;
      admission = a;
      sleeps = sleeps;
      waits = waits;
      invocations = invocations;
      rules = rules;
      ended = ended;
    })) (sym found.1)
    (subst (λ (n : Parts). Becomes (end_run r status (state_of m)) m n)
    (same-parts m r status loose rs a sleeps waits invocations rules ended there went
    (added ∙ ap (λ (x : Ending). m.ended ++ x.ended ∷ []) found.2))
    (held-ended m r status loose there loosened h))
  where
    same-parts : (m : Parts) (r : Run) (status : RunStatus) (loose : Loose) (rs : RunLists) (a : Admission)
        (sleeps : List Sleep) (waits : List Waiting) (invocations : List Invocation) (rules : List Rule)
        (ended : List EndedRun) → run_at r.number m.runs.live ≡ Some r
        → IsRunGone r.number m rs a sleeps waits invocations rules
        → ended ≡ m.ended ++ ended_run r status (state_of m) ∷ []
        → (record m {
          loose = loose;
          runs = record { live = dropped r.number m.runs.live; closing = insert_by run_number r m.runs.closing };
          admission = record m.admission { items = without_run r.number m.admission.items };
          sleeps = filter (λ (e : Sleep). not (r.number == e.run)) m.sleeps;
          waits = filter (λ (e : Waiting). not (r.number == e.wait.run)) m.waits;
          invocations = filter (λ (e : Invocation). not (r.number == e.run)) m.invocations;
          rules = filter (λ (e : Rule). not (r.number == e.run)) m.rules;
          ended = m.ended ++ ended_run r status (state_of m) ∷ [];
        })
        ≡ (record m {
          loose = loose;
          runs = rs;
          admission = a;
          sleeps = sleeps;
          waits = waits;
          invocations = invocations;
          rules = rules;
          ended = ended;
        })
    same-parts m r status loose rs a sleeps waits invocations rules ended there went added =
        let closing : rs.closing ≡ insert_by run_number r m.runs.closing =
        went.closing ∙ ap (λ o. with_run o m.runs.closing) there in
        let runs : rs ≡ record { live = dropped r.number m.runs.live; closing = insert_by run_number r m.runs.closing } =
        as-lists rs (dropped r.number m.runs.live) (insert_by run_number r m.runs.closing) went.live closing in
        let admitted = went.admitted in
        let slept = went.slept in
        let waited = went.waited in
        let invoked = went.invoked in
        let ruled = went.ruled in
        cc

-- what goes out of those that ended last isn't asked for again: this run has not ended before
pub ending-once : (m : Parts) (number : ℕ) (status : RunStatus) (e : Ending)
    → Some e ≡ option_map (ending_of status (state_of m)) (live_run number (state_of m)) → IsHeld m
    → find (has ended_number e.ended.run) m.ended ≡ None
ending-once m number status e is h =
    let found = some-mapped (ending_of status (state_of m)) (live_run number (state_of m)) e is in
    subst (λ (x : Ending). find (has ended_number x.ended.run) m.ended ≡ None) (sym found.2)
    (in-all (λ (r : Run). find (has ended_number r.number) m.ended ≡ None) found.0 m.runs.live
    (in-found (λ (q : Run). number == q.number) m.runs.live found.0 found.1) h.ends.once)
