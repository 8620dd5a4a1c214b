-- The next moment, found by the first due that is to come and by the groups that are parked till moments.
use Rattle.std.proofs.Common.{◌≡◌, ◌⊎◌, inl, inr, ℕ, suc, ◌+◌, ◌-◌, ◌<◌, ◌≤◌, ◌==◌, nat_le, nat_lt, Bool, true, false, cond, not, ◌&&◌, ◌||◌, List, [], ◌∷◌, Option, Some, None, refl, sym, ap, ◌∙◌, arith, subst, length, min}
use Rattle.std.specs.Bool.{IsTrue}
use Rattle.std.specs.Option.{IfSome, IfNone}
use Rattle.std.specs.List.{list_any, AllByRecursion, find}
use Rattle.std.specs.List.Sorted.{IsStrictlySortedBy}
use Rattle.std.specs.BTreeMap.{is_at}
use Rattle.std.specs.Map.{keys_of, values_of}
use Rattle.std.specs.Ordering.{nat_cmp, is_gt}
use Rattle.std.specs.declared.cmp.Ordering.TheVariants.{Less}
use Rattle.std.proofs.lemmas.Bool.Decides.{nat_tests}
use Rattle.std.proofs.lemmas.Map.Keys.{sorted_head, sorted_tail}
use Rattle.lists.proofs.Elements.{all-weaker}
use Rattle.lists.specs.Entries.{pair_cmp}
use Rattle.kinds.specs.Cells.{are_free, is_allowed, may_start, release_moment, greatest_at, slack, is_full}
use Rattle.kinds.specs.Queue.{has_number, group_of, group_cmp, moment_of, release_of, sooner, next_item}
use Rattle.kinds.specs.declared.cell.Cell.{Cell}
use Rattle.kinds.specs.declared.cell.CellLimit.{CellLimit}
use Rattle.kinds.specs.declared.cell.IssueEntry.{IssueEntry}
use Rattle.kinds.specs.declared.cell.StartEntry.{StartEntry}
use Rattle.kinds.specs.declared.store.Item.{Item}
use Rattle.ready_queue.specs.Ahead.{reached, IsMomentIn, IsFurther, Covers, CoversAll, CoversEach, AreHeld, AreDue, IsPlaced, IsDueOf, IsRipe, IsFirstDue, IsItemOf}
use Rattle.ready_queue.specs.Held.{Group, Groups, holds, IsParked, IsNamed, name_at, has_at}
use Rattle.ready_queue.specs.Parking.{Parking, at_moment, is_in, IsFullFor, IsHeldTill, IsShut, IsListedIn, HasPlace, HavePlaces}
use Rattle.ready_queue.specs.Front.{IsFrontAt, IsFrontHeld, AllParked, IsFront}
use Rattle.ready_queue.specs.Keys.{has}
use Rattle.ready_queue.specs.Places.{place_at, is_front, IsFronts, Indexed, IsIndexed}
use Rattle.ready_queue.specs.Pool.{has_pair, IsReady, IsPool}
use Rattle.ready_queue.specs.Store.{lifted, IsStore}
use Rattle.ready_queue.specs.declared.fronts.Place.{Place}
use Rattle.ready_queue.proofs.LeastLemmas.{all_in as all_items}
use Rattle.ready_queue.proofs.ParkLemmas.{moments_tied, moment_itself, full_any}
use Rattle.ready_queue.proofs.ReadyLemmas.{tied, found_name}

some_same : {A : Type 0} (x y : A) → Some x ≡ Some y → x ≡ y
some_same x y e = cc

pub none_some : {A : Type 0} (x : A) → None ≡ Some x → ⊥
none_some x e = cc

pub apart : true ≡ false → ⊥
apart e = cc

-- ---- the sooner of two

le_min : (b m x : ℕ) → nat_le b x ≡ true → nat_le (min b m) x ≡ true
le_min b m x h = grind (arith, nat_tests)

min_le : (b m x : ℕ) → nat_le m x ≡ true → nat_le (min b m) x ≡ true
min_le b m x h = grind (arith, nat_tests)

either : (b m : ℕ) → (min b m ≡ b) ⊎ (min b m ≡ m)
either b m = by_test (nat_le b m) refl
  where
    first : nat_le b m ≡ true → min b m ≡ b
    first h = grind (arith, nat_tests)

    second : nat_le b m ≡ false → min b m ≡ m
    second h = grind (arith, nat_tests)

    by_test : (t : Bool) → nat_le b m ≡ t → (min b m ≡ b) ⊎ (min b m ≡ m)
    by_test true h = inl (first h)
    by_test false h = inr (second h)

pub sooner_kept : (best next : Option ℕ) (x : ℕ) → reached best x ≡ true → reached (sooner best next) x ≡ true
sooner_kept None next x h = cc
sooner_kept (Some b) None x h = h
sooner_kept (Some b) (Some m) x h = le_min b m x h

pub sooner_new : (best next : Option ℕ) (x : ℕ) → reached next x ≡ true → reached (sooner best next) x ≡ true
sooner_new None next x h = h
sooner_new (Some b) None x h = cc
sooner_new (Some b) (Some m) x h = min_le b m x h

reached_itself : (x : ℕ) → nat_le x x ≡ true
reached_itself x = grind (arith, nat_tests)

reached_on : (best : Option ℕ) (x y : ℕ) → reached best x ≡ true → x ≤ y → reached best y ≡ true
reached_on None x y h le = cc
reached_on (Some b) x y h le = up b x y h le
  where
    up : (b x y : ℕ) → nat_le b x ≡ true → x ≤ y → nat_le b y ≡ true
    up b x y h le = grind (arith, nat_tests)

module _ (issues : List IssueEntry) (starts : List StartEntry) (t : ℕ) (items : List Item) where
  pub further_self : (best : Option ℕ) → IsFurther issues starts t items best best
  further_self best = record { sound = λ h. h; kept = λ x h. h }

  pub further_then : (one two three : Option ℕ) → IsFurther issues starts t items one two → IsFurther issues starts t items two three → IsFurther issues starts t items one three
  further_then one two three f g = record { sound = λ h. g.sound (f.sound h); kept = λ x h. g.kept x (f.kept x h) }

  -- an item's moment was looked at
  pub further_item : (best : Option ℕ) (n : ℕ) (i : Item) → find (has_number n) items ≡ Some i → IsFurther issues starts t items best (sooner best (moment_of issues starts t i))
  further_item best n i found = record { sound = of best (moment_of issues starts t i) refl; kept = sooner_kept best (moment_of issues starts t i) }
    where
      of : (best next : Option ℕ) → moment_of issues starts t i ≡ next → IsMomentIn issues starts t items best → IsMomentIn issues starts t items (sooner best next)
      of None None e h = tt
      of None (Some m) e h = (n, i, found, e)
      of (Some b) None e h = h
      of (Some b) (Some m) e h = elim (either b m) [
        | inl is ↦ (h.0, h.1, h.2, h.3 ∙ ap Some (sym is))
        | inr is ↦ (n, i, found, e ∙ ap Some (sym is))
      ]

-- ---- an item that is due

not_to_come : (t d : ℕ) → d ≤ t → nat_lt t d ≡ false
not_to_come t d h = grind (arith, nat_tests)

to_come : (t d : ℕ) → t < d → nat_lt t d ≡ true
to_come t d h = grind (arith, nat_tests)

pub moment_due : (issues : List IssueEntry) (starts : List StartEntry) (t : ℕ) (i : Item) → i.due ≤ t → moment_of issues starts t i ≡ release_of issues starts i.cells i.start
moment_due issues starts t i h = ap (λ b. cond b (Some i.due) (release_of issues starts i.cells i.start)) (not_to_come t i.due h)

pub moment_coming : (issues : List IssueEntry) (starts : List StartEntry) (t : ℕ) (i : Item) → t < i.due → moment_of issues starts t i ≡ Some i.due
moment_coming issues starts t i h = ap (λ b. cond b (Some i.due) (release_of issues starts i.cells i.start)) (to_come t i.due h)

-- ---- one look

pub look_covers : (issues : List IssueEntry) (starts : List StartEntry) (t : ℕ) (items : List Item) (ready : Groups) (k : Group) (best : Option ℕ) (i : Item) → AreDue items ready t → IsItemOf items ready k i
    → Covers issues starts (sooner best (moment_of issues starts t i)) k
look_covers issues starts t items ready k best i due of x e = sooner_new best (moment_of issues starts t i) x (subst (λ o. reached o x ≡ true) (sym (moment_is ∙ e)) (reached_itself x))
  where
    is : IsReady items t k of.score of.number
    is = due k of.score of.number of.here

    same : is.item ≡ i
    same = some_same is.item i (sym is.found ∙ of.found)

    moment_is : moment_of issues starts t i ≡ release_of issues starts k.0 k.1
    moment_is =
        moment_due issues starts t i (subst (λ (j : Item). j.due ≤ t) same is.due)
        ∙ ap (λ (g : Group). release_of issues starts g.0 g.1) (ap group_of (sym same) ∙ is.group)

-- ---- a group that is held till a moment that was reached

pub held_covers : (issues : List IssueEntry) (starts : List StartEntry) (m : ℕ) (best : Option ℕ) (k : Group) → IsHeldTill starts m k → reached best m ≡ true → Covers issues starts best k
held_covers issues starts m best k held r x e = reached_on best m x r (by_start k.1 held e)
  where
    let_then : (g s : ℕ) → nat_le g ((g - s) + s) ≡ true
    let_then g s = grind (arith, nat_tests)

    not_before : (m x : ℕ) → (x < m → ⊥) → m ≤ x
    not_before m x h = by_test (nat_lt x m) refl
      where
        less : nat_lt x m ≡ true → x < m
        less e = grind (arith, nat_tests)

        other : nat_lt x m ≡ false → m ≤ x
        other e = grind (arith, nat_tests)

        by_test : (b : Bool) → nat_lt x m ≡ b → m ≤ x
        by_test true e = absurd (h (less e))
        by_test false e = other e

    at_release : (cell : Cell) → ((u : ℕ) → u < m → is_allowed cell u starts ≡ false) → m ≤ release_moment cell starts
    at_release cell h = not_before m (release_moment cell starts) (λ less. apart (sym (let_then (greatest_at cell starts) (slack cell)) ∙ h (release_moment cell starts) less))

    by_free : (b : Bool) (cell : Cell) → ((u : ℕ) → u < m → is_allowed cell u starts ≡ false) → cond b (Some (release_moment cell starts)) None ≡ Some x → m ≤ x
    by_free true cell h e = subst (λ y. m ≤ y) (some_same (release_moment cell starts) x e) (at_release cell h)
    by_free false cell h e = absurd (none_some x e)

    by_start : (o : Option Cell) → ((u : ℕ) → u < m → may_start o u starts ≡ false) → release_of issues starts k.0 o ≡ Some x → m ≤ x
    by_start None h e = absurd (none_some x e)
    by_start (Some cell) h e = by_free (are_free k.0 issues) cell h e

pub covers_kept : (issues : List IssueEntry) (starts : List StartEntry) (old new : Option ℕ) (k : Group) → ((x : ℕ) → reached old x ≡ true → reached new x ≡ true) → Covers issues starts old k → Covers issues starts new k
covers_kept issues starts old new k kept c x e = kept x (c x e)

all_in : (P : Group → Type 0) (k : Group) (gs : List Group) → AllByRecursion P gs → is_in k gs ≡ true → P k
all_in P k [] all h = cc
all_in P k (g ∷ gs) all h = by_test (is_at (group_cmp k) g) refl h (all_in P k gs all.1)
  where
    by_test : (b : Bool) → is_at (group_cmp k) g ≡ b → (b || is_in k gs) ≡ true → (is_in k gs ≡ true → P k) → P k
    by_test true e h more = subst P (sym (tied k g e)) all.0
    by_test false e h more = more h

-- ---- all groups

abbrev HasName : List (Group × ℕ) → Group → Type 0
HasName names k = (g : ℕ) × (name_at k names ≡ Some g)

module _ (issues : List IssueEntry) (starts : List StartEntry) (t : ℕ) (items : List Item) (ready : Groups) (first : Option ℕ) where
  -- each group that holds anything was looked at, or is among the rest
  pub record IsNaming (left : List (Group × ℕ)) (best : Option ℕ) : Type 0 where
    pub further : IsFurther issues starts t items first best
    pub covers : (k : Group) (s n : ℕ) → holds ready.held k s n ≡ true → Covers issues starts best k ⊎ HasName left k

  pub naming_start : (left : List (Group × ℕ)) → left ≡ ready.held.names → IsNaming left first
  unfolding holds
  naming_start left is = record {
    further = further_self issues starts t items first;
    covers = λ k s n h. let f = found_name ready.held.names ready.held.keys k s n h in inr (f.0, ap (name_at k) is ∙ f.1);
  }

  pub naming_on : (whole left : List (Group × ℕ)) (e : Group × ℕ) (best new : Option ℕ) → whole ≡ e ∷ left → IsNaming whole best → IsFurther issues starts t items best new
      → ((s n : ℕ) → holds ready.held e.0 s n ≡ true → Covers issues starts new e.0) → IsNaming left new
  naming_on whole left e best new is l f c = record {
    further = further_then issues starts t items first best new l.further f;
    covers = λ k s n h. by_case k s n h (l.covers k s n h);
  }
    where
      by_test : (k : Group) (s n g : ℕ) → holds ready.held k s n ≡ true → (b : Bool) → is_at (group_cmp k) e.0 ≡ b → cond b (Some e.1) (name_at k left) ≡ Some g → Covers issues starts new k ⊎ HasName left k
      by_test k s n g h true same x = inl (subst (Covers issues starts new) (sym (tied k e.0 same)) (c s n (subst (λ l. holds ready.held l s n ≡ true) (tied k e.0 same) h)))
      by_test k s n g h false same x = inr (g, x)

      by_case : (k : Group) (s n : ℕ) → holds ready.held k s n ≡ true → Covers issues starts best k ⊎ HasName whole k → Covers issues starts new k ⊎ HasName left k
      by_case k s n h (inl x) = inl (covers_kept issues starts best new k f.kept x)
      by_case k s n h (inr x) = by_test k s n x.0 h (is_at (group_cmp k) e.0) refl (sym (ap (name_at k) is) ∙ x.1)

  pub naming_done : (left : List (Group × ℕ)) (best : Option ℕ) → left ≡ [] → IsNaming left best → CoversEach issues starts ready best
  naming_done left best is l k s n h = elim (l.covers k s n h) [
    | inl c ↦ c
    | inr x ↦ absurd (none_some x.0 (sym (ap (name_at k) is) ∙ x.1))
  ]

-- ---- groups that are held till one moment

module _ (issues : List IssueEntry) (starts : List StartEntry) (t : ℕ) (items : List Item) (ready : Groups) (first : Option ℕ) (gs : List Group) where
  -- each of these groups that is parked was looked at, or is among the rest
  pub record IsLooking (left : List Group) (best : Option ℕ) : Type 0 where
    pub further : IsFurther issues starts t items first best
    pub covers : (k : Group) → is_in k gs ≡ true → IsParked ready k → Covers issues starts best k ⊎ (is_in k left ≡ true)

  pub looking_start : (left : List Group) → left ≡ gs → IsLooking left first
  looking_start left is = record { further = further_self issues starts t items first; covers = λ k h p. inr (ap (is_in k) is ∙ h) }

  pub looking_stop : (m : ℕ) (left : List Group) (best : Option ℕ) → AllByRecursion (IsHeldTill starts m) gs → IsLooking left best → reached best m ≡ true → CoversAll issues starts ready (λ k. is_in k gs ≡ true) best
  looking_stop m left best held l r k h p = held_covers issues starts m best k (all_in (IsHeldTill starts m) k gs held h) r

  pub looking_on : (whole left : List Group) (g : Group) (best new : Option ℕ) → whole ≡ g ∷ left → IsLooking whole best → IsFurther issues starts t items best new → (IsParked ready g → Covers issues starts new g) → IsLooking left new
  looking_on whole left g best new is l f c = record {
    further = further_then issues starts t items first best new l.further f;
    covers = λ k h p. by_case k p (l.covers k h p);
  }
    where
      by_test : (k : Group) → IsParked ready k → (b : Bool) → is_at (group_cmp k) g ≡ b → (b || is_in k left) ≡ true → Covers issues starts new k ⊎ (is_in k left ≡ true)
      by_test k p true e x = inl (subst (Covers issues starts new) (sym (tied k g e)) (c (subst (IsParked ready) (tied k g e) p)))
      by_test k p false e x = inr x

      by_case : (k : Group) → IsParked ready k → Covers issues starts best k ⊎ (is_in k whole ≡ true) → Covers issues starts new k ⊎ (is_in k left ≡ true)
      by_case k p (inl x) = inl (covers_kept issues starts best new k f.kept x)
      by_case k p (inr h) = by_test k p (is_at (group_cmp k) g) refl (sym (ap (is_in k) is) ∙ h)

  pub looking_done : (left : List Group) (best : Option ℕ) → left ≡ [] → IsLooking left best → CoversAll issues starts ready (λ k. is_in k gs ≡ true) best
  looking_done left best is l k h p = elim (l.covers k h p) [
    | inl c ↦ c
    | inr x ↦ absurd (let no : false ≡ true = sym (ap (is_in k) is) ∙ x in cc)
  ]

-- ---- groups that are held till moments, these in order

past_first : (m : ℕ) (left : List (ℕ × List Group)) → AllByRecursion (λ q. nat_cmp m q ≡ Less) (keys_of left) → (q : ℕ) (gs : List Group) → at_moment q left ≡ Some gs → m < q
past_first m [] all q gs h = absurd (none_some gs h)
past_first m (e ∷ left) all q gs h = by_test (is_at (nat_cmp q) e.0) refl h (past_first m left all.1 q gs)
  where
    less : (a b : ℕ) → nat_cmp a b ≡ Less → a < b
    less a b h = grind (arith, nat_tests)

    by_test : (b : Bool) → is_at (nat_cmp q) e.0 ≡ b → cond b (Some e.1) (at_moment q left) ≡ Some gs → (at_moment q left ≡ Some gs → m < q) → m < q
    by_test true t h more = subst (λ x. m < x) (sym (moments_tied q e.0 t)) (less m e.0 all.0)
    by_test false t h more = more h

module _ (issues : List IssueEntry) (starts : List StartEntry) (t : ℕ) (items : List Item) (ready : Groups) (first : Option ℕ) (all : List (ℕ × List Group)) where
  pub record IsWalkingOn (left : List (ℕ × List Group)) (best : Option ℕ) : Type 0 where
    pub further : IsFurther issues starts t items first best
    pub sorted : IsStrictlySortedBy nat_cmp (keys_of left)
    pub held : AreHeld starts left
    pub covers : (k : Group) → IsListedIn nat_cmp all k → IsParked ready k → Covers issues starts best k ⊎ IsListedIn nat_cmp left k

  pub onward_start : (left : List (ℕ × List Group)) → left ≡ all → IsStrictlySortedBy nat_cmp (keys_of all) → AreHeld starts all → IsWalkingOn left first
  onward_start left e s h = subst (λ l. IsWalkingOn l first) (sym e) (record { further = further_self issues starts t items first; sorted = s; held = h; covers = λ k l p. inr l })

  listed_or : (e : ℕ × List Group) (left : List (ℕ × List Group)) (k : Group) (l : IsListedIn nat_cmp (e ∷ left) k) → ((l.place ≡ e.0) × (e.1 ≡ l.groups)) ⊎ (at_moment l.place left ≡ Some l.groups)
  listed_or e left k l = by_test (is_at (nat_cmp l.place) e.0) refl l.found
    where
      by_test : (b : Bool) → is_at (nat_cmp l.place) e.0 ≡ b → cond b (Some e.1) (at_moment l.place left) ≡ Some l.groups → ((l.place ≡ e.0) × (e.1 ≡ l.groups)) ⊎ (at_moment l.place left ≡ Some l.groups)
      by_test true t h = inl (moments_tied l.place e.0 t, some_same e.1 l.groups h)
      by_test false t h = inr h

  -- the groups of the first moment are held
  pub onward_held : (whole : List (ℕ × List Group)) (e : ℕ × List Group) (left : List (ℕ × List Group)) (best : Option ℕ) → IsWalkingOn whole best → whole ≡ e ∷ left → AllByRecursion (IsHeldTill starts e.0) e.1
  onward_held whole e left best w is = v.held e.0 e.1 (ap (λ b. cond b (Some e.1) (at_moment e.0 left)) (moment_itself e.0))
    where
      v : IsWalkingOn (e ∷ left) best
      v = subst (λ l. IsWalkingOn l best) is w

  pub onward_stop : (whole : List (ℕ × List Group)) (e : ℕ × List Group) (left : List (ℕ × List Group)) (best : Option ℕ) → IsWalkingOn whole best → whole ≡ e ∷ left → reached best e.0 ≡ true
      → CoversAll issues starts ready (IsListedIn nat_cmp all) best
  onward_stop whole e left best w is r k l p = by_case (v.covers k l p)
    where
      v : IsWalkingOn (e ∷ left) best
      v = subst (λ l. IsWalkingOn l best) is w

      same_le : (a b : ℕ) → a ≡ b → b ≤ a
      same_le a b e = omega (arith, e)

      less_le : (a b : ℕ) → a < b → a ≤ b
      less_le a b h = omega (arith, h)

      by_case : Covers issues starts best k ⊎ IsListedIn nat_cmp (e ∷ left) k → Covers issues starts best k
      by_case (inl c) = c
      by_case (inr l) =
          let later : e.0 ≤ l.place = elim (listed_or e left k l) [
            | inl x ↦ same_le l.place e.0 x.0
            | inr h ↦ less_le e.0 l.place (past_first e.0 left (sorted_head nat_cmp e.0 (keys_of left) v.sorted) l.place l.groups h)
          ] in
          held_covers issues starts l.place best k (all_in (IsHeldTill starts l.place) k l.groups (v.held l.place l.groups l.found) l.among) (reached_on best e.0 l.place r later)

  pub onward_on : (whole : List (ℕ × List Group)) (e : ℕ × List Group) (left : List (ℕ × List Group)) (best new : Option ℕ) → IsWalkingOn whole best → whole ≡ e ∷ left → IsFurther issues starts t items best new
      → CoversAll issues starts ready (λ k. is_in k e.1 ≡ true) new → IsWalkingOn left new
  onward_on whole e left best new w is f c = record {
    further = further_then issues starts t items first best new v.further f;
    sorted = sorted_tail nat_cmp e.0 (keys_of left) v.sorted;
    held = λ m gs h. v.held m gs (behind m gs h);
    covers = λ k l p. by_case k p (v.covers k l p);
  }
    where
      v : IsWalkingOn (e ∷ left) best
      v = subst (λ l. IsWalkingOn l best) is w

      not_first : (m q : ℕ) → m < q → is_at (nat_cmp q) m ≡ false
      not_first m q h = grind (arith, nat_tests)

      behind : (m : ℕ) (gs : List Group) → at_moment m left ≡ Some gs → at_moment m (e ∷ left) ≡ Some gs
      behind m gs h = ap (λ b. cond b (Some e.1) (at_moment m left)) (not_first e.0 m (past_first e.0 left (sorted_head nat_cmp e.0 (keys_of left) v.sorted) m gs h)) ∙ h

      by_case : (k : Group) → IsParked ready k → Covers issues starts best k ⊎ IsListedIn nat_cmp (e ∷ left) k → Covers issues starts new k ⊎ IsListedIn nat_cmp left k
      by_case k p (inl x) = inl (covers_kept issues starts best new k f.kept x)
      by_case k p (inr l) = elim (listed_or e left k l) [
        | inl x ↦ inl (c k (subst (λ gs. is_in k gs ≡ true) (sym x.1) l.among) p)
        | inr h ↦ inr (record { place = l.place; groups = l.groups; found = h; among = l.among })
      ]

  pub onward_done : (left : List (ℕ × List Group)) (best : Option ℕ) → IsWalkingOn left best → left ≡ [] → CoversAll issues starts ready (IsListedIn nat_cmp all) best
  onward_done left best w is k l p = elim (v.covers k l p) [ inl c ↦ c | inr l ↦ absurd (none_some l.groups l.found) ]
    where
      v : IsWalkingOn [] best
      v = subst (λ l. IsWalkingOn l best) is w

pub held_of : (q : Parking) (issues : List IssueEntry) (starts : List StartEntry) (t : ℕ) → IsShut q issues starts t → AreHeld starts q.later
held_of q issues starts t s m gs e = s.later m gs e

-- ---- the least of all

module _ (issues : List IssueEntry) (starts : List StartEntry) (t : ℕ) where
  abbrev IsReached : Option ℕ → Item → Type 0
  IsReached best i = (x : ℕ) → moment_of issues starts t i ≡ Some x → reached best x ≡ true

  next_reached : (best : Option ℕ) (items : List Item) → AllByRecursion (IsReached best) items → (x : ℕ) → next_item issues starts t items ≡ Some x → reached best x ≡ true
  unfolding next_item
  next_reached best [] all x e = absurd (none_some x e)
  next_reached best (i ∷ is) all x e = by_both (moment_of issues starts t i) (next_item issues starts t is) all.0 (next_reached best is all.1) e
    where
      by_both : (m o : Option ℕ) → ((x : ℕ) → m ≡ Some x → reached best x ≡ true) → ((x : ℕ) → o ≡ Some x → reached best x ≡ true) → sooner m o ≡ Some x → reached best x ≡ true
      by_both None o f g e = g x e
      by_both (Some a) None f g e = f x e
      by_both (Some a) (Some b) f g e = elim (either a b) [
        | inl is ↦ f x (ap Some (sym is) ∙ e)
        | inr is ↦ g x (ap Some (sym is) ∙ e)
      ]

  next_upto : (n : ℕ) (items : List Item) (i : Item) (b : ℕ) → find (has_number n) items ≡ Some i → moment_of issues starts t i ≡ Some b → reached (next_item issues starts t items) b ≡ true
  unfolding next_item
  next_upto n [] i b f e = absurd (none_some i f)
  next_upto n (j ∷ js) i b f e = by_test (has_number n j) f (λ h. next_upto n js i b h e)
    where
      by_test : (u : Bool) → cond u (Some j) (find (has_number n) js) ≡ Some i → (find (has_number n) js ≡ Some i → reached (next_item issues starts t js) b ≡ true) → reached (sooner (moment_of issues starts t j) (next_item issues starts t js)) b ≡ true
      by_test true h more = sooner_kept (moment_of issues starts t j) (next_item issues starts t js) b
          (subst (λ o. reached o b ≡ true) (sym (ap (moment_of issues starts t) (some_same j i h) ∙ e)) (reached_itself b))
      by_test false h more = sooner_new (moment_of issues starts t j) (next_item issues starts t js) b (more h)

  same_both : (best o : Option ℕ) → ((x : ℕ) → o ≡ Some x → reached best x ≡ true) → ((b : ℕ) → best ≡ Some b → reached o b ≡ true) → best ≡ o
  same_both None None f g = refl
  same_both None (Some x) f g = absurd (let no : false ≡ true = f x refl in cc)
  same_both (Some b) None f g = absurd (let no : false ≡ true = g b refl in cc)
  same_both (Some b) (Some x) f g = ap Some (equal b x (f x refl) (g b refl))
    where
      equal : (b x : ℕ) → nat_le b x ≡ true → nat_le x b ≡ true → b ≡ x
      equal b x h k = grind (arith, nat_tests)

  upto : (best : Option ℕ) (items : List Item) → IsMomentIn issues starts t items best → (b : ℕ) → best ≡ Some b → reached (next_item issues starts t items) b ≡ true
  upto None items s b e = absurd (none_some b e)
  upto (Some a) items s b e = next_upto s.0 items s.1 b s.2 (s.3 ∙ e)

  not_free : (cells : List CellLimit) (start : Option Cell) (x : ℕ) → list_any (is_full issues) cells ≡ true → release_of issues starts cells start ≡ Some x → ⊥
  not_free cells None x h e = none_some x e
  not_free cells (Some cell) x h e = none_some x (sym (ap (λ b. cond (not b) (Some (release_moment cell starts)) None) h) ∙ e)

  first_sound : (items : List Item) (first : Option ℕ) → IsDueOf items t first → IsMomentIn issues starts t items first
  first_sound items None h = tt
  first_sound items (Some d) h = (h.0, h.1, h.2, moment_coming issues starts t h.1 (subst (λ x. t < x) (sym h.3) h.4) ∙ ap Some h.3)

  pub next_ripe : (items : List Item) (ready : Groups) (first best : Option ℕ) → IsRipe items ready t first → IsFurther issues starts t items first best → CoversEach issues starts ready best → best ≡ next_item issues starts t items
  next_ripe items ready first best s f c =
      same_both best (next_item issues starts t items)
      (next_reached best items (all-weaker (IsPlaced ready t first) (IsReached best) items each s.each))
      (upto best items (f.sound (first_sound items first s.coming)))
    where
      each : (i : Item) → IsPlaced ready t first i → IsReached best i
      each i (inl h) x e = c (group_of i) (lifted i.score) i.number h.0 x (sym (moment_due issues starts t i h.1) ∙ e)
      each i (inr h) x e = f.kept x (subst (λ y. reached first y ≡ true) (some_same i.due x (sym (moment_coming issues starts t i h.0) ∙ e)) h.1)

  pub next_parked : (items : List Item) (ready : Groups) (q : Parking) (first best : Option ℕ) → IsRipe items ready t first → AllParked ready → HavePlaces ready q.full q.later → IsShut q issues starts t
      → IsFurther issues starts t items first best → CoversAll issues starts ready (IsListedIn nat_cmp q.later) best → best ≡ next_item issues starts t items
  next_parked items ready q first best s parked places shut f c = next_ripe items ready first best s f each
    where
      by_place : (k : Group) (x : ℕ) → IsParked ready k → HasPlace q.full q.later k → release_of issues starts k.0 k.1 ≡ Some x → reached best x ≡ true
      by_place k x p (inl l) e = absurd (not_free k.0 k.1 x (full_any issues l.place k.0 (all_in (IsFullFor issues l.place) k l.groups (shut.full l.place l.groups l.found) l.among)) e)
      by_place k x p (inr l) e = c k l p x e

      each : CoversEach issues starts ready best
      each k s n h x e = let p = parked k s n h in by_place k x p (places k p) e

-- ---- the pool where it is ripe

-- a group that holds anything is parked where no group has a place
pub parked_all : (ready : Groups) → length ready.places ≤ 0 → AllParked ready
unfolding holds
parked_all ready none k s n h =
    let f = found_name ready.held.names ready.held.keys k s n h in
    record { name = f.0; named = f.1; parked = record { none = no_place ready.places none f.0; score = s; number = n; key = f.2 } }
  where
    no_place : (places : List (ℕ × Place)) → length places ≤ 0 → (g : ℕ) → place_at g places ≡ None
    no_place [] h g = refl
    no_place (p ∷ ps) h g = absurd (over (length ps) h)
      where
        over : (n : ℕ) → suc n ≤ 0 → ⊥
        over n h = omega arith

pub parked_where : {A : Type 0} (ready : Groups) (r : Option A) → AllParked ready → IfSome r (λ a. AllParked ready)
parked_where ready None h = tt
parked_where ready (Some a) h = h

pub ripe : (pairs : List (ℕ × Item)) (items : List Item) (ready : Groups) (waiting : List (ℕ × ℕ)) (horizon clear t : ℕ) (first : Option ℕ) → IsStore pairs → values_of pairs ≡ items → IsPool items (holds ready.held) waiting horizon clear
    → horizon ≡ t → clear ≡ t → IsFirstDue waiting first → IsRipe items ready t first
ripe pairs items ready waiting horizon clear t first st e q a b f = record {
  due = λ k s n h. subst (λ x. IsReady items x k s n) a (q.ready k s n h);
  each = all-weaker (λ (i : Item). find (has_number i.number) items ≡ Some i) (IsPlaced ready t first) items placed
      (subst (λ (is : List Item). AllByRecursion (λ (i : Item). find (has_number i.number) is ≡ Some i) is) e (all_items (values_of pairs) st.stored.ordered));
  coming = coming_of first f;
}
  where
    coming_of : (first : Option ℕ) → IsFirstDue waiting first → IsDueOf items t first
    coming_of None f = tt
    coming_of (Some d) f = let l = q.waits d f.0.0 f.0.1 in (f.0.0, l.item, l.found, l.due, subst (λ x. x < d) b (q.late d f.0.0 f.0.1))

    not_before : (first : Option ℕ) → IsFirstDue waiting first → (d n : ℕ) → has_pair waiting d n ≡ true → reached first d ≡ true
    not_before None f d n h = absurd (apart (sym h ∙ f d n))
    not_before (Some x) f d n h = le x d (f.1 d n h)
      where
        le : (x d : ℕ) → x ≤ d → nat_le x d ≡ true
        le x d h = grind (arith, nat_tests)

    due_of : (i : Item) (r : IsReady items t (group_of i) (lifted i.score) i.number) → find (has_number i.number) items ≡ Some i → i.due ≤ t
    due_of i r found = subst (λ (j : Item). j.due ≤ t) (some_same r.item i (sym r.found ∙ found)) r.due

    placed : (i : Item) → find (has_number i.number) items ≡ Some i → IsPlaced ready t first i
    placed i found = elim (q.kept i.number i found) [
      | inl h ↦ inl (h, due_of i (subst (λ x. IsReady items x (group_of i) (lifted i.score) i.number) a (q.ready (group_of i) (lifted i.score) i.number h)) found)
      | inr w ↦ inr (subst (λ x. x < i.due) b (q.late i.due i.number w), not_before first f i.due i.number w)
    ]

pub first_none : (waiting : List (ℕ × ℕ)) → (0 < length waiting → false ≡ true) → IsFirstDue waiting None
unfolding has_pair
first_none [] h d n = refl
first_none (w ∷ ws) h d n = absurd (let no : false ≡ true = h (grind arith) in cc)

pub first_some : (waiting : List (ℕ × ℕ)) (a b : ℕ) → IsTrue (list_any (is_at (pair_cmp (a, b))) waiting) → ((q : ℕ × ℕ) → IsTrue (list_any (is_at (pair_cmp q)) waiting) → is_gt (pair_cmp (a, b) q) ≡ false) → IsFirstDue waiting (Some a)
unfolding has_pair
first_some waiting a b here least = ((b, here), λ e n h. before e n (least (e, n) h))
  where
    before : (e n : ℕ) → is_gt (pair_cmp (a, b) (e, n)) ≡ false → a ≤ e
    before e n h = grind (arith, nat_tests)

-- ---- the first item of a group

pub head_some : (k : Group) (g : ℕ) (names : List (Group × ℕ)) (keys : List (ℕ × ℕ × ℕ)) (r : Option ℕ) → name_at k names ≡ Some g → IfSome r (λ n. (s : ℕ) × (has keys g s n ≡ true))
    → IfSome r (λ n. (s : ℕ) × (holds (record { names = names; keys = keys }) k s n ≡ true))
unfolding holds
head_some k g names keys None is h = tt
head_some k g names keys (Some n) is h = (h.0, ap (λ o. has_at keys o h.0 n) is ∙ h.1)

pub head_none : (k : Group) (g : ℕ) (names : List (Group × ℕ)) (keys : List (ℕ × ℕ × ℕ)) (r : Option ℕ) → name_at k names ≡ Some g → IfNone r ((s n : ℕ) → has keys g s n ≡ false)
    → IfNone r ((s n : ℕ) → holds (record { names = names; keys = keys }) k s n ≡ false)
unfolding holds
head_none k g names keys None is h = λ s n. ap (λ o. has_at keys o s n) is ∙ h s n
head_none k g names keys (Some n) is h = tt

-- a group that is parked holds something
pub parked_holds : (ready : Groups) (k : Group) → IsParked ready k → (s : ℕ) × (n : ℕ) × (holds ready.held k s n ≡ true)
unfolding holds
parked_holds ready k p = (p.parked.score, p.parked.number, ap (λ o. has_at ready.held.keys o p.parked.score p.parked.number) p.named ∙ p.parked.key)

-- ---- the first group that isn't parked

none_in : (order : List (ℕ × ℕ × ℕ)) → (0 < length order → false ≡ true) → (s n g : ℕ) → has order s n g ≡ false
unfolding has
none_in [] h s n g = refl
none_in (x ∷ xs) h s n g = absurd (let no : false ≡ true = h (grind arith) in cc)

pub no_fronts : (order : List (ℕ × ℕ × ℕ)) (places : List (ℕ × Place)) → (0 < length order → false ≡ true) → IsFronts order places → (g : ℕ) → place_at g places ≡ None
unfolding IsFronts is_front
no_fronts order places none f g = by_place (place_at g places) refl
  where
    itself : (a b : ℕ) → (a == a && b == b) ≡ true
    itself a b = grind (arith, nat_tests)

    by_place : (o : Option Place) → place_at g places ≡ o → place_at g places ≡ None
    by_place None e = e
    by_place (Some p) e = absurd (apart (sym (f p.score p.number g ∙ ap (is_front p.score p.number) e ∙ itself p.score p.number) ∙ none_in order none p.score p.number g))

pub is_placed : (order : List (ℕ × ℕ × ℕ)) (places : List (ℕ × Place)) (s n g : ℕ) → IsFronts order places → has order s n g ≡ true → place_at g places ≡ None → ⊥
unfolding IsFronts is_front
is_placed order places s n g f h e = apart (sym h ∙ f s n g ∙ ap (is_front s n) e)

pub front_at : (i : Indexed) (g : ℕ) (r : Option ℕ) → (place_at g i.places ≡ None → ⊥) → IfSome r (λ n. (s : ℕ) × (has i.keys g s n ≡ true)) → IfSome r (IsFrontAt i)
front_at i g None placed h = tt
front_at i g (Some n) placed h = record { group = g; score = h.0; key = h.1; placed = placed }

-- a group that has a place has a key
pub front_there : (i : Indexed) (g : ℕ) (r : Option ℕ) → IsIndexed i.keys i.places → (place_at g i.places ≡ None → ⊥) → IfNone r ((s n : ℕ) → has i.keys g s n ≡ false) → IfNone r ((f : ℕ) → place_at f i.places ≡ None)
front_there i g None is placed h = absurd (by_place (place_at g i.places) refl)
  where
    by_place : (o : Option Place) → place_at g i.places ≡ o → ⊥
    by_place None e = placed e
    by_place (Some p) e = let key = is.used g p e in apart (sym key.2 ∙ h key.0 key.1)
front_there i g (Some n) is placed h = tt

pub front_held : (names : List (Group × ℕ)) (i : Indexed) (next : ℕ) (r : Option ℕ) → IsNamed names i.keys next → IfSome r (IsFrontAt i) → IfSome r (IsFrontHeld (record { held = record { names = names; keys = i.keys }; places = i.places }))
unfolding holds
front_held names i next None is h = tt
front_held names i next (Some n) is h =
    let k = is.named h.group h.score n h.key in
    record {
      group = k.0;
      score = h.score;
      here = ap (λ o. has_at i.keys o h.score n) k.1 ∙ h.key;
      waits = λ p. h.placed (subst (λ g. place_at g i.places ≡ None) (some_same p.name h.group (sym p.named ∙ k.1)) p.parked.none);
    }

pub front_none : (names : List (Group × ℕ)) (i : Indexed) (r : Option ℕ) → IfNone r ((g : ℕ) → place_at g i.places ≡ None) → IfNone r (AllParked (record { held = record { names = names; keys = i.keys }; places = i.places }))
unfolding holds
front_none names i None h = λ k s n e.
    let f = found_name names i.keys k s n e in
    record { name = f.0; named = f.1; parked = record { none = h f.0; score = s; number = n; key = f.2 } }
front_none names i (Some m) h = tt

pub front_item : (items : List Item) (ready : Groups) (waiting : List (ℕ × ℕ)) (horizon clear n : ℕ) (i : Item) → IsPool items (holds ready.held) waiting horizon clear → IsFrontHeld ready n → find (has_number n) items ≡ Some i → IsFront items ready i
front_item items ready waiting horizon clear n i q f found =
    let r = q.ready f.group f.score n f.here in
    record {
      number = n;
      found = found;
      waits = λ p. f.waits (subst (IsParked ready) (ap group_of (some_same i r.item (sym found ∙ r.found)) ∙ r.group) p);
    }
