-- A run that has not ended changes in its marks and steps: what is noted and named stays right.
use Rattle.std.proofs.Common.{◌≡◌, ℕ, ◌==◌, Bool, true, false, not, cond, ◌&&◌, ◌||◌, List, [], ◌∷◌, map, filter, find, None, refl, sym, ap, ◌∙◌, arith, subst, eqb-true}
use Rattle.std.specs.List.{AllByRecursion, list_any}
use Rattle.std.specs.List.Sorted.{IsStrictlySortedBy}
use Rattle.std.specs.Ordering.{nat_cmp}
use Rattle.functions.specs.declared.entry.FunctionEntry.{FunctionEntry}
use Rattle.kinds.specs.Windows as windows
use Rattle.kinds.specs.declared.store.Item.{Item}
use Rattle.kinds.specs.declared.window.Window.{Window}
use Rattle.lists.proofs.Elements.{all-weaker}
use Rattle.lists.specs.Entries.{has}
use Rattle.runs.specs.Changes.{changed}
use Rattle.runs.specs.Ended.{ended_number}
use Rattle.runs.specs.Runs.{is_in, run_number}
use Rattle.run_model.proofs.Members.{all-in}
use Rattle.run_model.specs.Making.{is_item_of, step_target}
use Rattle.run_model.specs.Recording.{without_item}
use Rattle.run_model.specs.State.{Run, Issue, EventText, EndedRun}
use Rattle.machine.specs.Held.{AreEndsRight, AreEventsRight, AreVersionsRight, AreWantsNoted, IsEventRight, is_event_used, is_left, is_version_in_use}
use Rattle.machine.specs.Numbers.{IsJoined, has_number}

-- a change of marks and steps
pub record KeepsNames (f : Run → Run) : Type 0 where
  pub number : (r : Run) → (f r).number ≡ r.number
  pub events : (r : Run) → (f r).events ≡ r.events
  pub version : (r : Run) → (f r).version ≡ r.version

abbrev one_changed : ℕ → (Run → Run) → Run → Run
one_changed number f r = cond (number == r.number) (f r) r

-- what the change keeps of a run, it keeps of all
same-one : {X : Type 0} (g : Run → X) (f : Run → Run) → ((r : Run) → g (f r) ≡ g r) → (b : Bool) (r : Run)
    → g (cond b (f r) r) ≡ g r
same-one g f same true r = same r
same-one g f same false r = refl

same-all : {X : Type 0} (g : Run → X) (number : ℕ) (f : Run → Run) → ((r : Run) → g (f r) ≡ g r) → (rs : List Run)
    → map g (changed number f rs) ≡ map g rs
same-all g number f same [] = refl
same-all g number f same (r ∷ rs) =
    ap (λ x. x ∷ map g (changed number f rs)) (same-one g f same (number == r.number) r)
    ∙ ap (λ xs. g r ∷ xs) (same-all g number f same rs)

any-changed : (p : Run → Bool) (number : ℕ) (f : Run → Run) → ((r : Run) → p (f r) ≡ p r) → (rs : List Run)
    → list_any p (changed number f rs) ≡ list_any p rs
any-changed p number f same [] = refl
any-changed p number f same (r ∷ rs) =
    ap (λ b. b || list_any p (changed number f rs)) (same-one p f same (number == r.number) r)
    ∙ ap (λ b. p r || b) (any-changed p number f same rs)

pub all-changed-by : (P Q : Run → Type 0) (number : ℕ) (f : Run → Run) (rs : List Run)
    → ((r : Run) → P r → Q (one_changed number f r)) → AllByRecursion P rs → AllByRecursion Q (changed number f rs)
all-changed-by P Q number f [] keeps h = tt
all-changed-by P Q number f (r ∷ rs) keeps h = (keeps r h.0, all-changed-by P Q number f rs keeps h.1)

-- ## Names

module _ (number : ℕ) (f : Run → Run) (keeps : KeepsNames f) where
  used-changed : (event : ℕ) (live : List Run) (ws : List Window)
      → is_event_used (changed number f live) ws event ≡ is_event_used live ws event
  used-changed event live ws =
      ap (λ b. b || list_any (λ w. is_in event (windows.events_of w)) ws)
      (any-changed (λ (r : Run). is_in event r.events) number f (λ r. ap (is_in event) (keeps.events r)) live)

  pub events-changed : (live closing : List Run) (ws : List Window) (texts : List EventText) (used touched : List ℕ)
      → AreEventsRight live closing ws texts used touched
      → AreEventsRight (changed number f live) closing ws texts used touched
  events-changed live closing ws texts used touched h = record {
    each = all-weaker
        (λ (e : EventText). has_number touched e.number ≡ false → IsEventRight live closing ws used e.number)
        (λ (e : EventText).
        has_number touched e.number ≡ false → IsEventRight (changed number f live) closing ws used e.number)
        texts
        (λ e right untouched. record {
          counted = (right untouched).counted ∙ sym (used-changed e.number live ws);
          named = ap (λ b. b || list_any (λ (r : Run). is_in e.number r.events) closing)
              (used-changed e.number live ws) ∙ (right untouched).named;
        }) h.each;
  }

  pub versions-changed : (live closing : List Run) (ws : List Window) (retired : List FunctionEntry)
      (touched : List ℕ) → AreVersionsRight live closing ws retired touched
      → AreVersionsRight (changed number f live) closing ws retired touched
  versions-changed live closing ws retired touched h = record {
    each = all-weaker
        (λ (e : FunctionEntry). has_number touched e.version ≡ false
        → is_version_in_use live closing ws e.version ≡ true)
        (λ (e : FunctionEntry). has_number touched e.version ≡ false
        → is_version_in_use (changed number f live) closing ws e.version ≡ true)
        retired
        (λ e right untouched.
        ap (λ b. b || list_any (λ (r : Run). e.version == r.version) closing
        || list_any (λ w. e.version == windows.version_of w) ws)
        (any-changed (λ (r : Run). e.version == r.version) number f
        (λ r. ap (λ v. e.version == v) (keeps.version r)) live) ∙ right untouched) h.each;
  }

  pub ends-changed : (runs : ℕ) (live closing : List Run) (ended : List EndedRun) (issues : List Issue)
      (touched : List ℕ) → AreEndsRight runs live closing ended issues touched
      → AreEndsRight runs (changed number f live) closing ended issues touched
  ends-changed runs live closing ended issues touched h = record {
    closing_open = h.closing_open;
    ended_open = h.ended_open;
    given = h.given;
    once = all-changed-by (λ (r : Run). find (has ended_number r.number) ended ≡ None)
        (λ (r : Run). find (has ended_number r.number) ended ≡ None) number f live
        (λ r none. ap (λ n. find (has ended_number n) ended)
        (same-one (λ (q : Run). q.number) f keeps.number (number == r.number) r) ∙ none) h.once;
    own_calls = h.own_calls;
  }

  pub order-changed : (live : List Run) → IsStrictlySortedBy nat_cmp (map run_number live)
      → IsStrictlySortedBy nat_cmp (map run_number (changed number f live))
  order-changed live h =
      subst (IsStrictlySortedBy nat_cmp) (sym (same-all run_number number f keeps.number live)) h

-- ## What finds out what comes next

both : (a b : Bool) → a ≡ false → (a && b) ≡ false
both true b h = cc
both false b h = refl

-- an item of a run isn't one of another
pub apart-run : (run other : ℕ) (i : Item) (target : List ℕ) → (run == other) ≡ false → (run == i.run) ≡ true
    → is_item_of other target i ≡ false
apart-run run other i target differ here =
    both (other == i.run) _ (ap (λ n. other == n) (sym (eqb-true run i.run here)) ∙ flips run other differ)
  where
    flips : (n m : ℕ) → (n == m) ≡ false → (m == n) ≡ false
    flips n m h = grind (arith, h)

-- a step of another run isn't one of this
apart-runs : (run other : ℕ) (i : Item) (target : List ℕ) (name : List ℕ) → (run == other) ≡ false
    → is_item_of run name i ≡ true → is_item_of other target i ≡ false
apart-runs run other i target name differ here = apart-run run other i target differ (left (run == i.run) _ here)
  where
    left : (a b : Bool) → (a && b) ≡ true → a ≡ true
    left true b h = refl
    left false b h = cc

-- where what is dropped doesn't pass, what passes is there as before
pub any-without : {X : Type 0} (p q : X → Bool) (xs : List X) → AllByRecursion (λ x. q x ≡ true → p x ≡ false) xs
    → list_any p (filter (λ x. not (q x)) xs) ≡ list_any p xs
any-without p q [] apart = refl
any-without p q (x ∷ xs) apart = by_test (q x) refl apart.0 (any-without p q xs apart.1)
  where
    by_test : (b : Bool) → q x ≡ b → (q x ≡ true → p x ≡ false)
        → list_any p (filter (λ y. not (q y)) xs) ≡ list_any p xs
        → list_any p (cond (not b) (x ∷ filter (λ y. not (q y)) xs) (filter (λ y. not (q y)) xs))
        ≡ (p x || list_any p xs)
    by_test true t off rest = rest ∙ ap (λ b. b || list_any p xs) (sym (off t))
    by_test false f off rest = ap (λ b. p x || b) rest

pub left-without : (run : ℕ) (name : List ℕ) (items : List Item) (issues : List Issue) (r : Run)
    → (run == r.number) ≡ false → is_left (without_item run name items) issues r ≡ is_left items issues r
left-without run name items issues r differ =
    ap (λ b. r.wanted && not (b || list_any (λ (i : Issue). is_item_of r.number step_target i.item) issues))
    (any-without (is_item_of r.number step_target) (is_item_of run name) items
    (all-in (λ (i : Item). is_item_of run name i ≡ true → is_item_of r.number step_target i ≡ false) items
    (λ i there here. apart-runs run r.number i step_target name differ here)))

-- a run changes that is noted from now on, and items of it go
pub wants-changed : (run : ℕ) (name : List ℕ) (f : Run → Run) (live : List Run) (items : List Item)
    (issues : List Issue) (old new : List ℕ) → KeepsNames f → IsJoined run old new
    → AreWantsNoted live items issues old
    → AreWantsNoted (changed run f live) (without_item run name items) issues new
wants-changed run name f live items issues old new keeps joined h = record {
  ordered = order-changed run f keeps live h.ordered;
  noted = all-changed-by
      (λ r. is_left items issues r ≡ true → has_number old r.number ≡ true)
      (λ r. is_left (without_item run name items) issues r ≡ true → has_number new r.number ≡ true)
      run f live (λ r noted. by_test r noted (run == r.number) refl) h.noted;
}
  where
    by_test : (r : Run) → (is_left items issues r ≡ true → has_number old r.number ≡ true)
        → (b : Bool) → (run == r.number) ≡ b
        → is_left (without_item run name items) issues (cond b (f r) r) ≡ true
        → has_number new (cond b (f r) r).number ≡ true
    by_test r noted true t left =
        ap (has_number new) (keeps.number r ∙ sym (eqb-true run r.number t)) ∙ joined.there
    by_test r noted false differ left =
        joined.kept r.number (noted (sym (left-without run name items issues r differ) ∙ left))

-- a run changes that is noted from now on
pub wants-noted : (run : ℕ) (f : Run → Run) (live : List Run) (items : List Item) (issues : List Issue)
    (old new : List ℕ) → KeepsNames f → IsJoined run old new → AreWantsNoted live items issues old
    → AreWantsNoted (changed run f live) items issues new
wants-noted run f live items issues old new keeps joined h = record {
  ordered = order-changed run f keeps live h.ordered;
  noted = all-changed-by
      (λ r. is_left items issues r ≡ true → has_number old r.number ≡ true)
      (λ r. is_left items issues r ≡ true → has_number new r.number ≡ true)
      run f live (λ r noted. by_test r noted (run == r.number) refl) h.noted;
}
  where
    by_test : (r : Run) → (is_left items issues r ≡ true → has_number old r.number ≡ true)
        → (b : Bool) → (run == r.number) ≡ b → is_left items issues (cond b (f r) r) ≡ true
        → has_number new (cond b (f r) r).number ≡ true
    by_test r noted true t left =
        ap (has_number new) (keeps.number r ∙ sym (eqb-true run r.number t)) ∙ joined.there
    by_test r noted false differ left = joined.kept r.number (noted left)
