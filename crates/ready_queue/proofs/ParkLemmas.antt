-- Groups that are parked, and the places where they are found again.
use Rattle.std.proofs.Common.{◌≡◌, ◌⊎◌, inl, inr, ℕ, suc, ◌+◌, ◌<◌, ◌≤◌, ◌==◌, nat_le, nat_lt, Bool, true, false, cond, not, ◌&&◌, ◌||◌, List, [], ◌∷◌, ◌++◌, Some, None, Option, refl, sym, ap, ◌∙◌, arith, subst, length, drop, get_or, is_some, IsSome}
use Rattle.std.specs.List.{list_any, AllByRecursion, find}
use Rattle.std.specs.BTreeMap.{is_at}
use Rattle.std.specs.Map.{lookup}
use Rattle.std.specs.Ordering.{nat_cmp, is_eq, is_gt, match_ordering}
use Rattle.std.specs.declared.cmp.Ordering.{Ordering}
use Rattle.std.specs.declared.cmp.Ordering.TheVariants.{Less, Equal, Greater}
use Rattle.std.proofs.Math.Seq.{drop-cons}
use Rattle.std.proofs.lemmas.Bool.Decides.{nat_tests}
use Rattle.std.proofs.lemmas.Cmp.{tied_itself}
use Rattle.std.proofs.lemmas.List.{drop_all}
use Rattle.kinds.proofs.CellLemmas.{cell_tied, cell_total}
use Rattle.kinds.specs.Cells.{cell_cmp, is_cell, is_full, has_cell, are_free, may_start}
use Rattle.kinds.specs.Queue.{group_cmp, admits}
use Rattle.kinds.specs.declared.cell.Cell.{Cell}
use Rattle.kinds.specs.declared.cell.CellLimit.{CellLimit}
use Rattle.kinds.specs.declared.cell.IssueEntry.{IssueEntry}
use Rattle.kinds.specs.declared.cell.StartEntry.{StartEntry}
use Rattle.ready_queue.specs.Held.{Group, Groups, IsParked, AreFewer, AreOneMore, AreClosed}
use Rattle.ready_queue.specs.Parking.{Parking, at_cell, at_moment, is_in, IsFullFor, IsHeldTill, IsShut, ParksFewer, AreLookedAt, AreLookedAtBut, AreToCome, IsFirst, IsListedIn, HasPlace, HavePlaces, groups_in, with_group, Gains, Loses, AreAmong}
use Rattle.ready_queue.proofs.ReadyLemmas.{tied, at_itself}

apart : true ≡ false → ⊥
apart e = cc

by_side : {A : Type 0} (b : Bool) → (b ≡ true → A) → (b ≡ false → A) → A
by_side true f g = f refl
by_side false f g = g refl

some_same : {A : Type 0} (x y : A) → Some x ≡ Some y → x ≡ y
some_same x y e = cc

none_some : {A : Type 0} (x : A) → None ≡ Some x → ⊥
none_some x e = cc

is_equal : (o : Ordering) → is_eq o ≡ true → o ≡ Equal
is_equal Less h = cc
is_equal Equal h = refl
is_equal Greater h = cc

pub cells_tied : (a b : Cell) → is_at (cell_cmp a) b ≡ true → a ≡ b
cells_tied a b h = cell_tied a b (is_equal (cell_cmp a b) h)

pub cell_itself : (a : Cell) → is_at (cell_cmp a) a ≡ true
cell_itself a = ap is_eq (tied_itself cell_total a)

pub moments_tied : (a b : ℕ) → is_at (nat_cmp a) b ≡ true → a ≡ b
moments_tied a b h = grind (arith, nat_tests)

pub moment_itself : (a : ℕ) → is_at (nat_cmp a) a ≡ true
moment_itself a = grind (arith, nat_tests)

-- ---- a list of groups

or_left : (a b : Bool) → a ≡ true → (a || b) ≡ true
or_left true b h = refl
or_left false b h = cc

or_right : (a b : Bool) → b ≡ true → (a || b) ≡ true
or_right true b h = refl
or_right false b h = h

or_then : (a b c : Bool) → (b ≡ true → c ≡ true) → (a || b) ≡ true → (a || c) ≡ true
or_then true b c f h = refl
or_then false b c f h = f h

in_more : (k l : Group) (gs : List Group) → is_in l gs ≡ true → is_in l (with_group k gs) ≡ true
in_more k l [] h = cc
in_more k l (g ∷ gs) h = by_order (group_cmp k g) (in_more k l gs)
  where
    by_order : (o : Ordering) → (is_in l gs ≡ true → is_in l (with_group k gs) ≡ true) → is_in l (match_ordering o (k ∷ g ∷ gs) (g ∷ gs) (g ∷ with_group k gs)) ≡ true
    by_order Less more = or_right (is_at (group_cmp l) k) (is_in l (g ∷ gs)) h
    by_order Equal more = h
    by_order Greater more = or_then (is_at (group_cmp l) g) (is_in l gs) (is_in l (with_group k gs)) more h

in_with : (k : Group) (gs : List Group) → is_in k (with_group k gs) ≡ true
in_with k [] = or_left (is_at (group_cmp k) k) false (at_itself k)
in_with k (g ∷ gs) = by_order (group_cmp k g) refl (in_with k gs)
  where
    by_order : (o : Ordering) → group_cmp k g ≡ o → is_in k (with_group k gs) ≡ true → is_in k (match_ordering o (k ∷ g ∷ gs) (g ∷ gs) (g ∷ with_group k gs)) ≡ true
    by_order Less e more = or_left (is_at (group_cmp k) k) (is_in k (g ∷ gs)) (at_itself k)
    by_order Equal e more = or_left (is_at (group_cmp k) g) (is_in k gs) (ap is_eq e)
    by_order Greater e more = or_right (is_at (group_cmp k) g) (is_in k (with_group k gs)) more

all_more : (P : Group → Type 0) (k : Group) (gs : List Group) → AllByRecursion P gs → P k → AllByRecursion P (with_group k gs)
all_more P k [] all p = (p, tt)
all_more P k (g ∷ gs) all p = by_order (group_cmp k g) (all_more P k gs all.1 p)
  where
    by_order : (o : Ordering) → AllByRecursion P (with_group k gs) → AllByRecursion P (match_ordering o (k ∷ g ∷ gs) (g ∷ gs) (g ∷ with_group k gs))
    by_order Less more = (p, all)
    by_order Equal more = all
    by_order Greater more = (all.0, more)

all_in : (P : Group → Type 0) (k : Group) (gs : List Group) → AllByRecursion P gs → is_in k gs ≡ true → P k
all_in P k [] all h = cc
all_in P k (g ∷ gs) all h = by_test (is_at (group_cmp k) g) refl h (all_in P k gs all.1)
  where
    by_test : (b : Bool) → is_at (group_cmp k) g ≡ b → (b || is_in k gs) ≡ true → (is_in k gs ≡ true → P k) → P k
    by_test true e h more = subst P (sym (tied k g e)) all.0
    by_test false e h more = more h

-- ---- a map of lists

module _ {K : Type 0} (cmp : K → K → Ordering) (same : (a b : K) → is_at (cmp a) b ≡ true → a ≡ b) (itself : (a : K) → is_at (cmp a) a ≡ true) (key : K) (old new : List (K × List Group)) where
  pub gains_new : (k : Group) (gs : List Group) → lookup (is_at (cmp key)) old ≡ None → gs ≡ k ∷ [] → ((q : K) → lookup (is_at (cmp q)) new ≡ cond (is_at (cmp key) q) (Some gs) (lookup (is_at (cmp q)) old)) → Gains cmp key k old new
  unfolding Gains
  gains_new k gs none is u q = u q ∙ ap (λ w. cond (is_at (cmp key) q) (Some w) (lookup (is_at (cmp q)) old)) (is ∙ sym (ap (λ o. with_group k (groups_in o)) none))

  module _ (k : Group) (gains : Gains cmp key k old new) where
    there : (q : K) → is_at (cmp key) q ≡ true → lookup (is_at (cmp q)) new ≡ Some (with_group k (groups_in (lookup (is_at (cmp q)) old)))
    unfolding Gains
    there q t =
        gains q ∙ ap (λ b. cond b (Some (with_group k (groups_in (lookup (is_at (cmp key)) old)))) (lookup (is_at (cmp q)) old)) t
        ∙ ap (λ x. Some (with_group k (groups_in (lookup (is_at (cmp x)) old)))) (same key q t)

    else_where : (q : K) → is_at (cmp key) q ≡ false → lookup (is_at (cmp q)) new ≡ lookup (is_at (cmp q)) old
    unfolding Gains
    else_where q t = gains q ∙ ap (λ b. cond b (Some (with_group k (groups_in (lookup (is_at (cmp key)) old)))) (lookup (is_at (cmp q)) old)) t

    pub listed_more : (l : Group) → IsListedIn cmp old l → IsListedIn cmp new l
    listed_more l p = by_side (is_at (cmp key) p.place)
        (λ t. record { place = p.place; groups = with_group k p.groups; found = there p.place t ∙ ap (λ o. Some (with_group k (groups_in o))) p.found; among = in_more k l p.groups p.among })
        (λ t. record { place = p.place; groups = p.groups; found = else_where p.place t ∙ p.found; among = p.among })

    pub listed_new : IsListedIn cmp new k
    listed_new = record { place = key; groups = with_group k (groups_in (lookup (is_at (cmp key)) old)); found = there key (itself key); among = in_with k (groups_in (lookup (is_at (cmp key)) old)) }

    pub all_gained : (P : K → Group → Type 0) → P key k → ((q : K) (gs : List Group) → lookup (is_at (cmp q)) old ≡ Some gs → AllByRecursion (P q) gs) → (q : K) (gs : List Group) → lookup (is_at (cmp q)) new ≡ Some gs → AllByRecursion (P q) gs
    all_gained P p all q gs e = by_side (is_at (cmp key) q)
        (λ t. subst (AllByRecursion (P q)) (some_same (with_group k (groups_in (lookup (is_at (cmp q)) old))) gs (sym (there q t) ∙ e)) (all_more (P q) k (groups_in (lookup (is_at (cmp q)) old)) (before q (lookup (is_at (cmp q)) old) refl) (subst (λ x. P x k) (same key q t) p)))
        (λ t. all q gs (sym (else_where q t) ∙ e))
      where
        before : (q : K) (o : Option (List Group)) → lookup (is_at (cmp q)) old ≡ o → AllByRecursion (P q) (groups_in o)
        before q None h = tt
        before q (Some gs) h = all q gs h

    pub keys_gained : (Q : K → Type 0) → Q key → ((q : K) (gs : List Group) → lookup (is_at (cmp q)) old ≡ Some gs → Q q) → (q : K) (gs : List Group) → lookup (is_at (cmp q)) new ≡ Some gs → Q q
    keys_gained Q p all q gs e = by_side (is_at (cmp key) q) (λ t. subst Q (same key q t) p) (λ t. all q gs (sym (else_where q t) ∙ e))

  module _ (loses : Loses cmp key old new) where
    pub lost : lookup (is_at (cmp key)) new ≡ None
    unfolding Loses
    lost = loses key ∙ ap (λ b. cond b None (lookup (is_at (cmp key)) old)) (itself key)

    pub still : (q : K) → is_at (cmp key) q ≡ false → lookup (is_at (cmp q)) new ≡ lookup (is_at (cmp q)) old
    unfolding Loses
    still q t = loses q ∙ ap (λ b. cond b None (lookup (is_at (cmp q)) old)) t

    pub lost_fewer : (q : K) (gs : List Group) → lookup (is_at (cmp q)) new ≡ Some gs → lookup (is_at (cmp q)) old ≡ Some gs
    lost_fewer q gs e = by_side (is_at (cmp key) q) (λ t. absurd (none_some gs (sym (ap (λ x. lookup (is_at (cmp x)) new) (sym (same key q t)) ∙ lost) ∙ e))) (λ t. sym (still q t) ∙ e)

    -- the groups of the key aren't parked any more
    pub listed_less : (ready : Groups) (gs : List Group) → lookup (is_at (cmp key)) old ≡ Some gs → AreAmong ready gs [] → (l : Group) → IsParked ready l → IsListedIn cmp old l → IsListedIn cmp new l
    listed_less ready gs found woken l p h = by_side (is_at (cmp key) h.place)
        (λ t. absurd (let no : false ≡ true = woken l (subst (λ x. is_in l x ≡ true) (some_same h.groups gs (sym h.found ∙ ap (λ x. lookup (is_at (cmp x)) old) (sym (same key h.place t)) ∙ found)) h.among) p in cc))
        (λ t. record { place = h.place; groups = h.groups; found = still h.place t ∙ h.found; among = h.among })

pub loses_none : {K : Type 0} (cmp : K → K → Ordering) (same : (a b : K) → is_at (cmp a) b ≡ true → a ≡ b) (key : K) (map : List (K × List Group)) → lookup (is_at (cmp key)) map ≡ None → Loses cmp key map map
unfolding Loses
loses_none {K = K} cmp same key map none q = by_test (is_at (cmp key) q) refl
  where
    by_test : (b : Bool) → is_at (cmp key) q ≡ b → lookup (is_at (cmp q)) map ≡ cond b None (lookup (is_at (cmp q)) map)
    by_test true e = ap (λ x. lookup (is_at (cmp x)) map) (sym (same key q e)) ∙ none
    by_test false e = refl

-- ---- groups are looked at again, one by one

pub among_all : (ready : Groups) (gs left : List Group) → left ≡ gs → AreAmong ready gs left
among_all ready gs left is k h p = ap (is_in k) is ∙ h

pub among_next : (old new : Groups) (gs whole left : List Group) (g : Group) → whole ≡ g ∷ left → AreFewer old new → (IsParked new g → ⊥) → AreAmong old gs whole → AreAmong new gs left
among_next old new gs whole left g is fewer woken among k h p = by_test (is_at (group_cmp k) g) refl (sym (ap (is_in k) is) ∙ among k h (fewer k p))
  where
    by_test : (b : Bool) → is_at (group_cmp k) g ≡ b → (b || is_in k left) ≡ true → is_in k left ≡ true
    by_test true e x = absurd (woken (subst (IsParked new) (tied k g e) p))
    by_test false e x = x

pub among_none : (ready : Groups) (gs left : List Group) → left ≡ [] → AreAmong ready gs left → AreAmong ready gs []
among_none ready gs left is among k h p = sym (ap (is_in k) is) ∙ among k h p

-- ---- each group that is parked has a place

pub places_fewer : (old new : Groups) (full : List (Cell × List Group)) (later : List (ℕ × List Group)) → HavePlaces old full later → AreFewer old new → HavePlaces new full later
places_fewer old new full later h fewer k p = h k (fewer k p)

pub places_at : (c : Cell) (g : Group) (old new : Groups) (full more : List (Cell × List Group)) (later : List (ℕ × List Group)) → HavePlaces old full later → AreOneMore g old new → Gains cell_cmp c g full more → HavePlaces new more later
places_at c g old new full more later h one gains k p = by_group (one k p)
  where
    by_place : HasPlace full later k → HasPlace more later k
    by_place (inl x) = inl (listed_more cell_cmp cells_tied cell_itself c full more g gains k x)
    by_place (inr x) = inr x

    by_group : (k ≡ g) ⊎ IsParked old k → HasPlace more later k
    by_group (inl e) = inl (subst (IsListedIn cell_cmp more) (sym e) (listed_new cell_cmp cells_tied cell_itself c full more g gains))
    by_group (inr x) = by_place (h k x)

pub places_till : (m : ℕ) (g : Group) (old new : Groups) (full : List (Cell × List Group)) (later more : List (ℕ × List Group)) → HavePlaces old full later → AreOneMore g old new → Gains nat_cmp m g later more → HavePlaces new full more
places_till m g old new full later more h one gains k p = by_group (one k p)
  where
    by_place : HasPlace full later k → HasPlace full more k
    by_place (inl x) = inl x
    by_place (inr x) = inr (listed_more nat_cmp moments_tied moment_itself m later more g gains k x)

    by_group : (k ≡ g) ⊎ IsParked old k → HasPlace full more k
    by_group (inl e) = inr (subst (IsListedIn nat_cmp more) (sym e) (listed_new nat_cmp moments_tied moment_itself m later more g gains))
    by_group (inr x) = by_place (h k x)

pub places_woken_at : (c : Cell) (gs : List Group) (old new : Groups) (full less : List (Cell × List Group)) (later : List (ℕ × List Group)) → HavePlaces old full later → AreFewer old new → at_cell c full ≡ Some gs → AreAmong new gs [] → Loses cell_cmp c full less → HavePlaces new less later
places_woken_at c gs old new full less later h fewer found woken loses k p = by_place (h k (fewer k p))
  where
    by_place : HasPlace full later k → HasPlace less later k
    by_place (inl x) = inl (listed_less cell_cmp cells_tied cell_itself c full less loses new gs found woken k p x)
    by_place (inr x) = inr x

pub places_woken_till : (m : ℕ) (gs : List Group) (old new : Groups) (full : List (Cell × List Group)) (later less : List (ℕ × List Group)) → HavePlaces old full later → AreFewer old new → at_moment m later ≡ Some gs → AreAmong new gs [] → Loses nat_cmp m later less → HavePlaces new full less
places_woken_till m gs old new full later less h fewer found woken loses k p = by_place (h k (fewer k p))
  where
    by_place : HasPlace full later k → HasPlace full less k
    by_place (inl x) = inl x
    by_place (inr x) = inr (listed_less nat_cmp moments_tied moment_itself m later less loses new gs found woken k p x)

-- ---- what is parked can't be open

pub full_any : (issues : List IssueEntry) (c : Cell) (ls : List CellLimit) → list_any (λ (l : CellLimit). is_cell c l.cell && is_full issues l) ls ≡ true → list_any (is_full issues) ls ≡ true
full_any issues c [] h = h
full_any issues c (l ∷ ls) h = by_tests (is_cell c l.cell) (is_full issues l) h (full_any issues c ls)
  where
    by_tests : (a b : Bool) → ((a && b) || list_any (λ (l : CellLimit). is_cell c l.cell && is_full issues l) ls) ≡ true → (list_any (λ (l : CellLimit). is_cell c l.cell && is_full issues l) ls ≡ true → list_any (is_full issues) ls ≡ true) → (b || list_any (is_full issues) ls) ≡ true
    by_tests a true h more = refl
    by_tests true false h more = more h
    by_tests false false h more = more h

pub full_for : (issues : List IssueEntry) (ls : List CellLimit) (l : CellLimit) → find (is_full issues) ls ≡ Some l → list_any (λ (m : CellLimit). is_cell l.cell m.cell && is_full issues m) ls ≡ true
full_for issues [] l h = cc
full_for issues (x ∷ xs) l h = by_test (is_full issues x) refl h (full_for issues xs l)
  where
    by_test : (b : Bool) → is_full issues x ≡ b → cond b (Some x) (find (is_full issues) xs) ≡ Some l → (find (is_full issues) xs ≡ Some l → list_any (λ (m : CellLimit). is_cell l.cell m.cell && is_full issues m) xs ≡ true)
        → ((is_cell l.cell x.cell && is_full issues x) || list_any (λ (m : CellLimit). is_cell l.cell m.cell && is_full issues m) xs) ≡ true
    by_test true e h more = or_left (is_cell l.cell x.cell && is_full issues x) (list_any (λ (m : CellLimit). is_cell l.cell m.cell && is_full issues m) xs)
        (ap (λ b. is_cell l.cell x.cell && b) e ∙ and_true (is_cell l.cell x.cell) ∙ ap (λ (y : CellLimit). is_cell l.cell y.cell) (some_same x l h) ∙ cell_itself l.cell)
      where
        and_true : (b : Bool) → (b && true) ≡ b
        and_true true = refl
        and_true false = refl
    by_test false e h more = or_right (is_cell l.cell x.cell && is_full issues x) (list_any (λ (m : CellLimit). is_cell l.cell m.cell && is_full issues m) xs) (more h)

pub closed : (ready : Groups) (q : Parking) (issues : List IssueEntry) (starts : List StartEntry) (t : ℕ) → HavePlaces ready q.full q.later → IsShut q issues starts t → AreClosed (admits issues starts t) ready
closed ready q issues starts t h s k p = by_place (h k p)
  where
    not_free : (b : Bool) → b ≡ true → (not b && may_start k.1 t starts) ≡ false
    not_free true e = refl
    not_free false e = cc

    not_let : (a b : Bool) → b ≡ false → (a && b) ≡ false
    not_let true b e = e
    not_let false b e = refl

    by_place : HasPlace q.full q.later k → admits issues starts t k.0 k.1 ≡ false
    by_place (inl x) = not_free (list_any (is_full issues) k.0) (full_any issues x.place k.0 (all_in (IsFullFor issues x.place) k x.groups (s.full x.place x.groups x.found) x.among))
    by_place (inr x) = not_let (are_free k.0 issues) (may_start k.1 t starts) (all_in (IsHeldTill starts x.place) k x.groups (s.later x.place x.groups x.found) x.among t (s.coming x.place x.groups x.found))

pub shut_at : (issues : List IssueEntry) (starts : List StartEntry) (t : ℕ) (c : Cell) (g : Group) (q new : Parking) → IsShut q issues starts t → new.later ≡ q.later → Gains cell_cmp c g q.full new.full → IsFullFor issues c g → IsShut new issues starts t
shut_at issues starts t c g q new s same gains is = record {
  full = all_gained cell_cmp cells_tied cell_itself c q.full new.full g gains (IsFullFor issues) is s.full;
  later = λ m gs e. s.later m gs (sym (ap (at_moment m) same) ∙ e);
  coming = λ m gs e. s.coming m gs (sym (ap (at_moment m) same) ∙ e);
}

pub shut_till : (issues : List IssueEntry) (starts : List StartEntry) (t m : ℕ) (g : Group) (q new : Parking) → IsShut q issues starts t → new.full ≡ q.full → Gains nat_cmp m g q.later new.later → IsHeldTill starts m g → t < m → IsShut new issues starts t
shut_till issues starts t m g q new s same gains is later = record {
  full = λ c gs e. s.full c gs (sym (ap (at_cell c) same) ∙ e);
  later = all_gained nat_cmp moments_tied moment_itself m q.later new.later g gains (IsHeldTill starts) is s.later;
  coming = keys_gained nat_cmp moments_tied moment_itself m q.later new.later g gains (λ n. t < n) later s.coming;
}

pub shut_same : (issues : List IssueEntry) (starts : List StartEntry) (t : ℕ) (q new : Parking) → IsShut q issues starts t → new.full ≡ q.full → new.later ≡ q.later → IsShut new issues starts t
shut_same issues starts t q new s a b = record {
  full = λ c gs e. s.full c gs (sym (ap (at_cell c) a) ∙ e);
  later = λ m gs e. s.later m gs (sym (ap (at_moment m) b) ∙ e);
  coming = λ m gs e. s.coming m gs (sym (ap (at_moment m) b) ∙ e);
}

-- a moment from which on a start is let
pub held_before : (starts : List StartEntry) (m : ℕ) (allowed : ℕ → Bool) → ((t : ℕ) → allowed t ≡ nat_le m t) → (t : ℕ) → t < m → allowed t ≡ false
held_before starts m allowed h t less = h t ∙ past m t less
  where
    past : (m t : ℕ) → t < m → nat_le m t ≡ false
    past m t h = grind (arith, nat_tests)

-- ---- what is parked is fewer

pub fewer_self : (q : Parking) → ParksFewer q q
fewer_self q = record { full = λ c gs e. e; later = λ m gs e. e }

pub fewer_same : (old new : Parking) → new.full ≡ old.full → new.later ≡ old.later → ParksFewer old new
fewer_same old new a b = record { full = λ c gs e. sym (ap (at_cell c) a) ∙ e; later = λ m gs e. sym (ap (at_moment m) b) ∙ e }

pub fewer_then : (one two three : Parking) → ParksFewer one two → ParksFewer two three → ParksFewer one three
fewer_then one two three f g = record { full = λ c gs e. f.full c gs (g.full c gs e); later = λ m gs e. f.later m gs (g.later m gs e) }

pub fewer_at : (c : Cell) (old new : Parking) → Loses cell_cmp c old.full new.full → new.later ≡ old.later → ParksFewer old new
fewer_at c old new loses b = record { full = lost_fewer cell_cmp cells_tied cell_itself c old.full new.full loses; later = λ m gs e. sym (ap (at_moment m) b) ∙ e }

pub fewer_till : (m : ℕ) (old new : Parking) → Loses nat_cmp m old.later new.later → new.full ≡ old.full → ParksFewer old new
fewer_till m old new loses a = record { full = λ c gs e. sym (ap (at_cell c) a) ∙ e; later = lost_fewer nat_cmp moments_tied moment_itself m old.later new.later loses }

pub looked_all : (limits : List CellLimit) (q : Parking) → AreLookedAtBut limits limits q
looked_all limits q c gs h e = h

pub looked_next : (limits : List CellLimit) (i : ℕ) (l : CellLimit) (old new : Parking) → i < length limits → l ≡ get_or limits i l → Loses cell_cmp l.cell old.full new.full → AreLookedAtBut limits (drop i limits) old → AreLookedAtBut limits (drop (i + 1) limits) new
looked_next limits i l old new within is loses but c gs h e =
    by_test (is_cell c l.cell) refl (sym step ∙ but c gs h (lost_fewer cell_cmp cells_tied cell_itself l.cell old.full new.full loses c gs e))
  where
    one : (n : ℕ) → suc n ≡ n + 1
    one n = omega arith

    step : has_cell c (drop i limits) ≡ (is_cell c l.cell || has_cell c (drop (i + 1) limits))
    step = ap (has_cell c) (drop-cons limits i l within) ∙ ap (λ (x : CellLimit). is_cell c x.cell || has_cell c (drop (suc i) limits)) (sym is) ∙ ap (λ n. is_cell c l.cell || has_cell c (drop n limits)) (one i)

    by_test : (b : Bool) → is_cell c l.cell ≡ b → (b || has_cell c (drop (i + 1) limits)) ≡ true → has_cell c (drop (i + 1) limits) ≡ true
    by_test true t x = absurd (none_some gs (sym (ap (λ y. at_cell y new.full) (cells_tied c l.cell t) ∙ lost cell_cmp cells_tied cell_itself l.cell old.full new.full loses) ∙ e))
    by_test false t x = x

pub looked_done : (limits : List CellLimit) (i : ℕ) (q : Parking) → length limits ≤ i → AreLookedAtBut limits (drop i limits) q → AreLookedAt limits q
looked_done limits i q past but c h = by_groups (at_cell c q.full) refl
  where
    by_groups : (o : Option (List Group)) → at_cell c q.full ≡ o → o ≡ None
    by_groups None e = refl
    by_groups (Some gs) e = absurd (let no : false ≡ true = sym (ap (has_cell c) (drop_all i limits past)) ∙ but c gs h e in cc)

-- ---- the first moment

pub first_least : (f : ℕ) (later : List (ℕ × List Group)) (gs : List Group) → at_moment f later ≡ Some gs → ((m : ℕ) (hs : List Group) → at_moment m later ≡ Some hs → f ≤ m) → IsFirst f later
first_least f later gs e least = record { held = λ none. none_some gs (sym none ∙ e); least = least }

pub to_come : (t f : ℕ) (q : Parking) → IsFirst f q.later → t < f → AreToCome t q
to_come t f q first h m gs e = after (first.least m gs e)
  where
    after : f ≤ m → t < m
    after x = omega arith

pub shorter : {X : Type 0} (new old : ℕ) (r : Option X) (x : X) → r ≡ Some x → new + cond (is_some r) 1 0 ≡ old → new < old
shorter new old r x e h = less (ap (λ o. new + cond (is_some o) 1 0) (sym e) ∙ h)
  where
    less : new + 1 ≡ old → new < old
    less h = omega arith

pub bound_least : (f : ℕ) (later : List (ℕ × List Group)) → ((q : ℕ) → IsSome (at_moment q later) → is_gt (nat_cmp f q) ≡ false) → (m : ℕ) (gs : List Group) → at_moment m later ≡ Some gs → f ≤ m
bound_least f later bound m gs e = below f m (bound m (subst IsSome (sym e) refl))
  where
    below : (f m : ℕ) → is_gt (nat_cmp f m) ≡ false → f ≤ m
    below f m h = grind (arith, nat_tests)

pub none_there : (later : List (ℕ × List Group)) → (0 < length later → false ≡ true) → (m : ℕ) (gs : List Group) → at_moment m later ≡ Some gs → ⊥
none_there [] h m gs e = none_some gs e
none_there (x ∷ xs) h m gs e = let no : false ≡ true = h (grind arith) in cc

pub none_to_come : (t : ℕ) (q : Parking) → ((m : ℕ) (gs : List Group) → at_moment m q.later ≡ Some gs → ⊥) → AreToCome t q
none_to_come t q none m gs e = absurd (none m gs e)
