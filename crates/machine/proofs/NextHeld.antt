-- The parts after the first of the noted runs got its item.
use Rattle.std.proofs.Common.{◌≡◌, ℕ, ◌<◌, ◌==◌, Bool, true, false, not, cond, ◌&&◌, ◌||◌, List, [], ◌∷◌, map, find, length, slice_get, bytes_eq, Option, Some, None, refl, sym, ap, ◌∙◌, arith, subst}
use Rattle.std.specs.List.{AllByRecursion, list_any}
use Rattle.std.specs.List.Sorted.{IsStrictlySortedBy}
use Rattle.std.specs.Ordering.{nat_cmp}
use Rattle.std.proofs.lemmas.Bool.{cond-false}
use Rattle.std.proofs.lemmas.Bool.Decides.{nat_tests}
use Rattle.std.proofs.lemmas.Map.Keys.{sorted_head, sorted_tail}
use Rattle.kinds.specs.declared.store.Item.{Item}
use Rattle.lists.proofs.Elements.{all-both}
use Rattle.runs.specs.Runs.{run_number}
use Rattle.run_model.specs.Making.{discover, discover_all, discover_one, is_item_of, new_item, queue_new, step_target}
use Rattle.run_model.specs.State.{State, Run, Issue, live_run}
use Rattle.machine.specs.Discovered.{IsDiscovered, IsNext, after_noted, discover_at, noted}
use Rattle.machine.specs.Held.{AreWantsNoted, Becomes, IsHeld, is_left}
use Rattle.machine.specs.Numbers.{IsRest, IsTaken, has_number}
use Rattle.machine.specs.View.{state_of}
use Rattle.machine.specs.declared.parts.Parts.{Parts}
use Rattle.machine.proofs.Discovered.{above-head, first-step, pick-all}
use Rattle.machine.proofs.HeldMaking.{any-inserted}
use Rattle.machine.proofs.Joined.{at-number}

abbrev left_in : State → Run → Bool
left_in s r = is_left s.items s.issues r

-- ## A run that got its item isn't left

own : (n : ℕ) → (n == n) ≡ true
own n = grind (arith, nat_tests)

and-false : (b : Bool) → (b && false) ≡ false
and-false true = refl
and-false false = refl

its-own : (r : Run) (s : State) → is_item_of r.number step_target (new_item r step_target s) ≡ true
its-own r s = ap (λ b. b && bytes_eq step_target step_target) (own r.number)

pub got-item : (r : Run) (s : State) → left_in (queue_new r step_target s) r ≡ false
got-item r s =
    ap (λ b. r.wanted && not (b || list_any (λ (i : Issue). is_item_of r.number step_target i.item) s.issues))
    (any-inserted (is_item_of r.number step_target) (new_item r step_target s) s.items
    ∙ ap (λ b. b || list_any (is_item_of r.number step_target) s.items) (its-own r s))
    ∙ and-false r.wanted

settled-by : (r : Run) (s : State) (b : Bool) → left_in s r ≡ b
    → left_in (cond b (queue_new r step_target s) s) r ≡ false
settled-by r s true e = got-item r s
settled-by r s false e = e

settled-one : (r : Run) (s : State) → left_in (discover_one r s) r ≡ false
settled-one r s = settled-by r s (left_in s r) refl

abbrev Settled : ℕ → State → List Run → Type 0
Settled k s rs = AllByRecursion (λ (r : Run). (k == r.number) ≡ true → left_in s r ≡ false) rs

apart : (k n m : ℕ) → n < m → (k == m) ≡ true → (k == n) ≡ false
apart k n m low same = grind (arith, nat_tests, low, same)

settled-rest : (k : ℕ) (r : Run) (rest : Option Run) (s : State) (rs : List Run)
    → AllByRecursion (λ (q : Run). r.number < q.number) rs → Settled k (discover_at rest s) rs
    → Settled k (discover_at (cond (k == r.number) (Some r) rest) s) rs
settled-rest k r rest s rs above h =
    all-both (λ (q : Run). r.number < q.number)
    (λ (q : Run). (k == q.number) ≡ true → left_in (discover_at rest s) q ≡ false)
    (λ (q : Run). (k == q.number) ≡ true
    → left_in (discover_at (cond (k == r.number) (Some r) rest) s) q ≡ false) rs
    (λ q low settled same.
    ap (λ o. left_in (discover_at o s) q)
    (cond-false (k == r.number) (Some r) rest (apart k r.number q.number low same)) ∙ settled same) above h

settled-head : (k : ℕ) (r : Run) (rest : Option Run) (s : State) → (k == r.number) ≡ true
    → left_in (discover_at (cond (k == r.number) (Some r) rest) s) r ≡ false
settled-head k r rest s same =
    ap (λ b. left_in (discover_at (cond b (Some r) rest) s) r) same ∙ settled-one r s

settled-all : (k : ℕ) (rs : List Run) (s : State) → IsStrictlySortedBy nat_cmp (map run_number rs)
    → Settled k (discover_at (find (λ (r : Run). k == r.number) rs) s) rs
settled-all k [] s sorted = tt
settled-all k (r ∷ rs) s sorted = (
  (λ same. settled-head k r (find (λ (q : Run). k == q.number) rs) s same),
  settled-rest k r (find (λ (q : Run). k == q.number) rs) s rs
      (above-head r rs (sorted_head nat_cmp r.number (map run_number rs) sorted))
      (settled-all k rs s (sorted_tail nat_cmp r.number (map run_number rs) sorted)),
)

-- ## What is noted from then on

live-by : (b : Bool) (r : Run) (s : State) → (cond b (queue_new r step_target s) s).live ≡ s.live
live-by true r s = refl
live-by false r s = refl

live-same : (o : Option Run) (s : State) → (discover_at o s).live ≡ s.live
live-same None s = refl
live-same (Some r) s = live-by (left_in s r) r s

parted : (k : ℕ) (old new : List ℕ) → IsTaken k old new
    → (n : ℕ) → has_number new n ≡ cond (k == n) false (has_number old n)
parted k old new taken n = taken.left n ∙ ap (λ b. cond b false (has_number old n)) (at-number k n)

noted-still : (k : ℕ) (old new : List ℕ) (r : Run) (b left : Bool) → IsTaken k old new
    → (k == r.number) ≡ b → (b ≡ true → left ≡ false) → (left ≡ true → has_number old r.number ≡ true)
    → left ≡ true → has_number new r.number ≡ true
noted-still k old new r true left taken e settled noted here =
    let clash : true ≡ false = sym here ∙ settled refl in cc
noted-still k old new r false left taken e settled noted here =
    parted k old new taken r.number ∙ cond-false (k == r.number) false (has_number old r.number) e ∙ noted here

wants-taken : (k : ℕ) (old new : List ℕ) (live : List Run) (items : List Item) (issues : List Issue)
    → IsTaken k old new
    → AllByRecursion (λ (r : Run). (k == r.number) ≡ true → is_left items issues r ≡ false) live
    → AreWantsNoted live items issues old → AreWantsNoted live items issues new
wants-taken k old new live items issues taken settled h = record {
  ordered = h.ordered;
  noted = all-both (λ (r : Run). (k == r.number) ≡ true → is_left items issues r ≡ false)
      (λ r. is_left items issues r ≡ true → has_number old r.number ≡ true)
      (λ r. is_left items issues r ≡ true → has_number new r.number ≡ true) live
      (λ r gone noted. noted-still k old new r (k == r.number) (is_left items issues r) taken refl gone noted)
      settled h.noted;
}

first-there : (k : ℕ) (old new : List ℕ) → old ≡ k ∷ new → has_number old k ≡ true
first-there k old new e =
    ap (λ ns. has_number ns k) e ∙ ap (λ b. b || has_number new k) (at-number k k ∙ own k)

taken-next : (m d : Parts) (k : ℕ) (new : List ℕ) → IsTaken k m.wanting new → d.wanting ≡ m.wanting
    → Becomes (discover_at (live_run k (state_of m)) (state_of m)) m d → IsHeld m
    → IsNext m (record d { wanting = new })
taken-next m d k new taken same b h =
    let s = state_of m in
    let live : d.runs.live ≡ m.runs.live = ap (λ (t : State). t.live) b.state ∙ live-same (live_run k s) s in
    let settled : Settled k (state_of d) d.runs.live =
    subst (λ rs. Settled k (state_of d) rs) (sym live)
    (subst (λ t. Settled k t m.runs.live) (sym b.state) (settled-all k m.runs.live s h.wants.ordered)) in
    let noted_before : AreWantsNoted d.runs.live d.admission.items d.admission.issues m.wanting =
    subst (AreWantsNoted d.runs.live d.admission.items d.admission.issues) same b.held.wants in
    record {
      same = ap (λ rs. discover_all (noted new rs) (state_of d)) live
          ∙ ap (discover_all (noted new m.runs.live)) b.state
          ∙ sym (first-step k (has_number m.wanting) (has_number new) m.runs.live s
          (first-there k m.wanting new taken.first) taken.least (parted k m.wanting new taken) h.wants.ordered);
      held = record {
        fit = b.held.fit;
        wants = wants-taken k m.wanting new d.runs.live d.admission.items d.admission.issues taken settled
            noted_before;
        events = b.held.events;
        versions = b.held.versions;
        ends = b.held.ends;
        clock = b.held.clock;
      };
      clock = b.clock;
      fewer = shorter new m.wanting k taken.first;
    }
  where
    shorter : (new old : List ℕ) (k : ℕ) → old ≡ k ∷ new → length new < length old
    shorter new old k e = let more = ap length e in omega (arith, more)

pub is-next : (m d : Parts) (k : ℕ) (o : Option ℕ) (new : List ℕ) → Some k ≡ slice_get m.wanting 0
    → Becomes (discover_at (live_run k (state_of m)) (state_of m)) m d → d.wanting ≡ m.wanting
    → IsRest o d.wanting new → IsHeld m → IsNext m (record d { wanting = new })
is-next m d k None new first b same rest h =
    let none : m.wanting ≡ [] = sym same ∙ rest.0 in
    let clash : Some k ≡ None = first ∙ ap (λ ns. slice_get ns 0) none in cc
is-next m d k (Some n) new first b same rest h =
    let taken : IsTaken n m.wanting new = subst (λ ns. IsTaken n ns new) same rest in
    let is : Some k ≡ Some n = first ∙ ap (λ ns. slice_get ns 0) taken.first in
    let at : n ≡ k = cc in
    taken-next m d k new (subst (λ j. IsTaken j m.wanting new) at taken) same b h

-- ## All that are noted

none-noted : (rs : List Run) → noted [] rs ≡ []
none-noted [] = refl
none-noted (r ∷ rs) = none-noted rs

discover-noted : (m : Parts) → IsHeld m → discover (state_of m) ≡ after_noted m
unfolding discover
discover-noted m h = pick-all (has_number m.wanting) m.runs.live (state_of m) h.wants.noted

nothing-noted : (l : Parts) → l.wanting ≡ [] → after_noted l ≡ state_of l
nothing-noted l none =
    ap (λ ns. discover_all (noted ns l.runs.live) (state_of l)) none
    ∙ ap (λ rs. discover_all rs (state_of l)) (none-noted l.runs.live)

pub all-discovered : (m l new : Parts) (more : Bool) → more ≡ false → IsDiscovered more l new
    → after_noted l ≡ after_noted m → IsHeld l → l.admission.moment ≡ m.admission.moment → IsHeld m
    → Becomes (discover (state_of m)) m new
all-discovered m l new more e told same held clock h =
    let done : IsDiscovered false l new = subst (λ b. IsDiscovered b l new) e told in
    subst (λ x. Becomes (discover (state_of m)) m x) (sym done.0) (record {
      state = sym (nothing-noted l done.1) ∙ same ∙ sym (discover-noted m h);
      held = held;
      clock = clock;
    })
