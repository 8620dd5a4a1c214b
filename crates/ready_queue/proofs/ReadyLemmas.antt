-- The groups' numbers and the keys, after a group got a number, and a key came or went.
use Rattle.std.proofs.Common.{◌≡◌, ◌⊎◌, inl, inr, ℕ, ◌+◌, ◌<◌, ◌≤◌, ◌==◌, Bool, true, false, cond, not, ◌&&◌, ◌||◌, List, [], ◌∷◌, Some, None, Option, suc, refl, sym, ap, ap₂, ◌∙◌, arith, subst, map, length}
use Rattle.std.specs.List.{list_any, filter}
use Rattle.std.specs.BTreeMap.{is_at}
use Rattle.std.specs.Map.{lookup}
use Rattle.std.specs.Ordering.{nat_cmp, is_eq}
use Rattle.std.specs.declared.cmp.Ordering.{Ordering}
use Rattle.std.specs.declared.cmp.Ordering.TheVariants.{Less, Equal, Greater}
use Rattle.std.proofs.lemmas.Bool.Decides.{nat_tests}
use Rattle.std.proofs.lemmas.Cmp.{then_total, on_total, lists_total, tied_itself}
use Rattle.std.specs.Cmp.{IsTotalOrder}
use Rattle.std.specs.Cmp.Lexicographic.{options_total}
use Rattle.kinds.proofs.CellLemmas.{group_tied, cell_total}
use Rattle.kinds.specs.contracts.cell.CellLimitOrd.TheImpl.Laws as limit_laws
use Rattle.kinds.specs.Queue.{limit_cmp, group_cmp, group_of}
use Rattle.kinds.specs.declared.store.Item.{Item}
use Rattle.ready_queue.specs.Different.{has_group, different, HasGroups}
use Rattle.ready_queue.specs.Held.{Group, Held, Ready, name_at, has_at, holds, IsNamed, AreSame, Comes, Goes, Groups, IsParked, AreFewer, AreOneMore, AreClosed, IsSoundHeld, IsLeastHeld, IsOf, AreOf, is_of, HasEach}
use Rattle.ready_queue.specs.Keys.{key_cmp, has, Changes, AreAlike, IsUpTo, IsLeastOpen, IsSound}
use Rattle.ready_queue.specs.Opens.{Gates, opens, opens_for}
use Rattle.ready_queue.specs.declared.fronts.Place.{Place}
use Rattle.ready_queue.specs.Places.{Indexed, IsParkedAt, ParksNone, ParksOne, AreShut}
use Rattle.ready_queue.proofs.IndexLemmas.{has_added, has_new, has_kept, had, has_split, has_gone}

apart : true ≡ false → ⊥
apart e = cc

some_same : {A : Type 0} (x y : A) → Some x ≡ Some y → x ≡ y
some_same x y e = cc

none_some : {A : Type 0} (x : A) → None ≡ Some x → ⊥
none_some x e = cc

is_equal : (o : Ordering) → is_eq o ≡ true → o ≡ Equal
is_equal Less h = cc
is_equal Equal h = refl
is_equal Greater h = cc

pub tied : (k l : Group) → is_at (group_cmp k) l ≡ true → k ≡ l
tied k l h = group_tied k l (is_equal (group_cmp k l) h)

limit_total : IsTotalOrder limit_cmp
limit_total = limit_laws.total-law

group_total : IsTotalOrder group_cmp
group_total = then_total (on_total (λ (k : Group). k.0) (lists_total limit_total)) (on_total (λ (k : Group). k.1) (options_total cell_total))

pub at_itself : (k : Group) → is_at (group_cmp k) k ≡ true
at_itself k = ap is_eq (tied_itself group_total k)

-- what a map's `updates` says of one group's number
abbrev pub Names : Group → Option ℕ → List (Group × ℕ) → List (Group × ℕ) → Type 0
Names k name old new = (l : Group) → name_at l new ≡ cond (is_at (group_cmp k) l) name (name_at l old)

by_side : {A : Type 0} (b : Bool) → (b ≡ true → A) → (b ≡ false → A) → A
by_side true f g = f refl
by_side false f g = g refl

named_there : (k l : Group) (name : Option ℕ) (old new : List (Group × ℕ)) → Names k name old new → is_at (group_cmp k) l ≡ true → name_at l new ≡ name
named_there k l name old new u t = u l ∙ ap (λ b. cond b name (name_at l old)) t

named_else : (k l : Group) (name : Option ℕ) (old new : List (Group × ℕ)) → Names k name old new → is_at (group_cmp k) l ≡ false → name_at l new ≡ name_at l old
named_else k l name old new u t = u l ∙ ap (λ b. cond b name (name_at l old)) t

-- ---- a group got a number

below_next : (g next : ℕ) → g < next → g < next + 1
below_next g next h = omega arith

itself_below : (g : ℕ) → g < g → ⊥
itself_below g h = omega arith

next_below : (g : ℕ) → g < g + 1
next_below g = omega arith

module _ (k : Group) (names new : List (Group × ℕ)) (keys : List (ℕ × ℕ × ℕ)) (next : ℕ) (i : IsNamed names keys next) (none : name_at k names ≡ None) (u : Names k (Some next) names new) where
  not_old : (l : Group) (g : ℕ) → name_at l names ≡ Some g → is_at (group_cmp k) l ≡ true → ⊥
  not_old l g h t = none_some g (sym none ∙ ap (λ q. name_at q names) (tied k l t) ∙ h)

  pub named_given : IsNamed new keys (next + 1)
  named_given = record {
    below = λ l g h. by_side (is_at (group_cmp k) l) (λ t. subst (λ n. n < next + 1) (some_same next g (sym (named_there k l (Some next) names new u t) ∙ h)) (next_below next))
        (λ t. below_next g next (i.below l g (sym (named_else k l (Some next) names new u t) ∙ h)));
    single = λ l m g h j. by_side (is_at (group_cmp k) l) (λ t. by_side (is_at (group_cmp k) m) (λ s. sym (tied k l t) ∙ tied k m s) (λ s. absurd (mixed l m g t s h j)))
        (λ t. by_side (is_at (group_cmp k) m) (λ s. absurd (mixed m l g s t j h))
        (λ s. i.single l m g (sym (named_else k l (Some next) names new u t) ∙ h) (sym (named_else k m (Some next) names new u s) ∙ j)));
    named = λ g s n h. let old = i.named g s n h in (old.0, by_side (is_at (group_cmp k) old.0) (λ t. absurd (not_old old.0 g old.1 t)) (λ t. named_else k old.0 (Some next) names new u t ∙ old.1));
  }
    where
      mixed : (l m : Group) (g : ℕ) → is_at (group_cmp k) l ≡ true → is_at (group_cmp k) m ≡ false → name_at l new ≡ Some g → name_at m new ≡ Some g → ⊥
      mixed l m g t s h j =
          let same = some_same next g (sym (named_there k l (Some next) names new u t) ∙ h) in
          itself_below g (subst (λ n. g < n) same (i.below m g (sym (named_else k m (Some next) names new u s) ∙ j)))

  no_key : (s n : ℕ) → has keys next s n ≡ false
  no_key s n = by_side (has keys next s n) (λ t. absurd (let old = i.named next s n t in itself_below next (i.below old.0 next old.1))) (λ t. t)

  pub held_given : AreSame (holds (record { names = names; keys = keys })) (holds (record { names = new; keys = keys }))
  unfolding holds
  held_given l s n = by_side (is_at (group_cmp k) l)
      (λ t. ap (λ o. has_at keys o s n) (named_there k l (Some next) names new u t) ∙ no_key s n ∙ sym (ap (λ o. has_at keys o s n) (ap (λ q. name_at q names) (sym (tied k l t)) ∙ none)))
      (λ t. ap (λ o. has_at keys o s n) (named_else k l (Some next) names new u t))

  pub fewer_given : (places : List (ℕ × Place)) → AreFewer (record { held = record { names = names; keys = keys }; places = places }) (record { held = record { names = new; keys = keys }; places = places })
  fewer_given places l p = by_side (is_at (group_cmp k) l)
      (λ t. absurd (apart (sym (subst (λ g. has keys g p.parked.score p.parked.number ≡ true) (sym (some_same next p.name (sym (named_there k l (Some next) names new u t) ∙ p.named))) p.parked.key) ∙ no_key p.parked.score p.parked.number)))
      (λ t. record { name = p.name; named = sym (named_else k l (Some next) names new u t) ∙ p.named; parked = p.parked })

  pub name_given : name_at k new ≡ Some next
  name_given = named_there k k (Some next) names new u (at_itself k)

-- ---- groups that are parked

pub none_parked : (names : List (Group × ℕ)) (keys : List (ℕ × ℕ × ℕ)) (places : List (ℕ × Place)) → names ≡ [] → (k : Group) → IsParked (record { held = record { names = names; keys = keys }; places = places }) k → ⊥
none_parked names keys places e k p = none_some p.name (sym (ap (name_at k) e) ∙ p.named)

-- the numbers of groups are as before
pub fewer_named : (names : List (Group × ℕ)) (keys now : List (ℕ × ℕ × ℕ)) (old new : List (ℕ × Place)) → ParksNone (record { keys = keys; places = old }) (record { keys = now; places = new })
    → AreFewer (record { held = record { names = names; keys = keys }; places = old }) (record { held = record { names = names; keys = now }; places = new })
fewer_named names keys now old new none k p = record { name = p.name; named = p.named; parked = none p.name p.parked }

pub one_named : (k : Group) (g next : ℕ) (names : List (Group × ℕ)) (keys now : List (ℕ × ℕ × ℕ)) (old new : List (ℕ × Place)) → IsNamed names keys next → name_at k names ≡ Some g → now ≡ keys → ParksOne g (record { keys = keys; places = old }) (record { keys = now; places = new })
    → AreOneMore k (record { held = record { names = names; keys = keys }; places = old }) (record { held = record { names = names; keys = now }; places = new })
one_named k g next names keys now old new i is same one l p = by_group (one p.name p.parked)
  where
    by_group : (p.name ≡ g) ⊎ IsParkedAt p.name (record { keys = keys; places = old }) → (l ≡ k) ⊎ IsParked (record { held = record { names = names; keys = keys }; places = old }) l
    by_group (inl e) = inl (i.single l k g (p.named ∙ ap Some e) is)
    by_group (inr h) = inr (record { name = p.name; named = p.named; parked = h })

pub not_named : (k : Group) (gs : Groups) → name_at k gs.held.names ≡ None → IsParked gs k → ⊥
not_named k gs none p = none_some p.name (sym none ∙ p.named)

pub named_placed : (k : Group) (g : ℕ) (names : List (Group × ℕ)) (keys : List (ℕ × ℕ × ℕ)) (places : List (ℕ × Place)) → name_at k names ≡ Some g → (IsParkedAt g (record { keys = keys; places = places }) → ⊥)
    → IsParked (record { held = record { names = names; keys = keys }; places = places }) k → ⊥
named_placed k g names keys places is free p = free (subst (λ x. IsParkedAt x (record { keys = keys; places = places })) (some_same p.name g (sym p.named ∙ is)) p.parked)

-- ---- keys by their groups

pub found_name : (names : List (Group × ℕ)) (keys : List (ℕ × ℕ × ℕ)) (l : Group) (u m : ℕ) → has_at keys (name_at l names) u m ≡ true → (f : ℕ) × (name_at l names ≡ Some f) × (has keys f u m ≡ true)
found_name names keys l u m h = by_name (name_at l names) refl h
  where
    by_name : (o : Option ℕ) → name_at l names ≡ o → has_at keys o u m ≡ true → (f : ℕ) × (name_at l names ≡ Some f) × (has keys f u m ≡ true)
    by_name None e h = absurd (apart (sym h))
    by_name (Some f) e h = (f, e, h)

by_its_name : (names : List (Group × ℕ)) (keys : List (ℕ × ℕ × ℕ)) (l : Group) (f u m : ℕ) → name_at l names ≡ Some f → has keys f u m ≡ true → has_at keys (name_at l names) u m ≡ true
by_its_name names keys l f u m e h = ap (λ o. has_at keys o u m) e ∙ h

pub none_held : (names : List (Group × ℕ)) (keys : List (ℕ × ℕ × ℕ)) → names ≡ [] → (k : Group) (s n : ℕ) → holds (record { names = names; keys = keys }) k s n ≡ false
unfolding holds
none_held names keys e k s n = ap (λ l. has_at keys (name_at k l) s n) e

pub named_empty : (names : List (Group × ℕ)) (keys : List (ℕ × ℕ × ℕ)) → names ≡ [] → keys ≡ [] → IsNamed names keys 0
unfolding has
named_empty names keys a b = record {
  below = λ k g h. absurd (none_some g (sym (ap (name_at k) a) ∙ h));
  single = λ k l g h j. absurd (none_some g (sym (ap (name_at k) a) ∙ h));
  named = λ g s n h. absurd (apart (sym h ∙ ap (λ l. list_any (is_at (key_cmp (g, s, n))) l) b));
}

-- ---- a key came

module _ (k : Group) (g s n : ℕ) (names : List (Group × ℕ)) (keys more : List (ℕ × ℕ × ℕ)) (next : ℕ) (i : IsNamed names keys next) (is : name_at k names ≡ Some g) (c : Changes g s n true keys more) where
  pub named_more : IsNamed names more next
  named_more = record {
    below = i.below;
    single = i.single;
    named = λ f u m h. by_key f (has_added g s n f u m keys more c h) (i.named f u m);
  }
    where
      by_key : (f : ℕ) {u m : ℕ} → ((f ≡ g) × (u ≡ s) × (m ≡ n)) ⊎ (has keys f u m ≡ true) → (has keys f u m ≡ true → (l : Group) × (name_at l names ≡ Some f)) → (l : Group) × (name_at l names ≡ Some f)
      by_key f (inl q) old = (k, is ∙ ap Some (sym q.0))
      by_key f (inr h) old = old h

  pub comes_added : Comes k s n (holds (record { names = names; keys = keys })) (holds (record { names = names; keys = more }))
  unfolding holds
  comes_added = record {
    added = λ l u m h. let f = found_name names more l u m h in by_key l u m f.0 f.1 (has_added g s n f.0 u m keys more c f.2);
    here = by_its_name names more k g s n is (has_new g s n keys more c);
    kept = λ l u m h. let f = found_name names keys l u m h in by_its_name names more l f.0 u m f.1 (has_kept g s n f.0 u m keys more c f.2);
  }
    where
      by_key : (l : Group) (u m f : ℕ) → name_at l names ≡ Some f → ((f ≡ g) × (u ≡ s) × (m ≡ n)) ⊎ (has keys f u m ≡ true) → ((l ≡ k) × (u ≡ s) × (m ≡ n)) ⊎ (has_at keys (name_at l names) u m ≡ true)
      by_key l u m f e (inl q) = inl (i.single l k f e (is ∙ ap Some (sym q.0)), q.1, q.2)
      by_key l u m f e (inr h) = inr (by_its_name names keys l f u m e h)

-- ---- a key went

pub goes_nothing : (k : Group) (s n : ℕ) (names : List (Group × ℕ)) (keys : List (ℕ × ℕ × ℕ)) → name_at k names ≡ None → Goes k s n (holds (record { names = names; keys = keys })) (holds (record { names = names; keys = keys }))
unfolding holds
goes_nothing k s n names keys none = record {
  had = λ l u m h. h;
  split = λ l u m h. inr h;
  gone = λ h. let f = found_name names keys k s n h in none_some f.0 (sym none ∙ f.1);
}

module _ (k : Group) (g s n : ℕ) (names : List (Group × ℕ)) (keys fewer : List (ℕ × ℕ × ℕ)) (next : ℕ) (i : IsNamed names keys next) (is : name_at k names ≡ Some g) (c : Changes g s n false keys fewer) where
  pub named_fewer : IsNamed names fewer next
  named_fewer = record { below = i.below; single = i.single; named = λ f u m h. i.named f u m (had g s n f u m keys fewer c h) }

  pub goes_removed : Goes k s n (holds (record { names = names; keys = keys })) (holds (record { names = names; keys = fewer }))
  unfolding holds
  goes_removed = record {
    had = λ l u m h. let f = found_name names fewer l u m h in by_its_name names keys l f.0 u m f.1 (had g s n f.0 u m keys fewer c f.2);
    split = λ l u m h. let f = found_name names keys l u m h in by_key l u m f.0 f.1 (has_split g s n f.0 u m keys fewer c f.2);
    gone = λ h. let f = found_name names fewer k s n h in has_gone g s n keys fewer c (subst (λ x. has fewer x s n ≡ true) (some_same f.0 g (sym f.1 ∙ is)) f.2);
  }
    where
      by_key : (l : Group) (u m f : ℕ) → name_at l names ≡ Some f → ((f ≡ g) × (u ≡ s) × (m ≡ n)) ⊎ (has fewer f u m ≡ true) → ((l ≡ k) × (u ≡ s) × (m ≡ n)) ⊎ (has_at fewer (name_at l names) u m ≡ true)
      by_key l u m f e (inl q) = inl (i.single l k f e (is ∙ ap Some (sym q.0)), q.1, q.2)
      by_key l u m f e (inr h) = inr (by_its_name names fewer l f u m e h)

  -- it was the group's last
  module _ (new : List (Group × ℕ)) (none : (u m : ℕ) → has fewer g u m ≡ false) (v : Names k None names new) where
    was : (l : Group) (f : ℕ) → name_at l new ≡ Some f → name_at l names ≡ Some f
    was l f h = by_side (is_at (group_cmp k) l) (λ t. absurd (none_some f (sym (named_there k l None names new v t) ∙ h))) (λ t. sym (named_else k l None names new v t) ∙ h)

    not_its : (l : Group) (f u m : ℕ) → name_at l names ≡ Some f → has fewer f u m ≡ true → is_at (group_cmp k) l ≡ true → ⊥
    not_its l f u m e h t =
        let same = some_same f g (sym (ap (λ q. name_at q names) (tied k l t) ∙ e) ∙ is) in
        apart (sym (subst (λ x. has fewer x u m ≡ true) same h) ∙ none u m)

    still : (l : Group) (f u m : ℕ) → name_at l names ≡ Some f → has fewer f u m ≡ true → name_at l new ≡ Some f
    still l f u m e h = by_side (is_at (group_cmp k) l) (λ t. absurd (not_its l f u m e h t)) (λ t. named_else k l None names new v t ∙ e)

    pub named_last : IsNamed new fewer next
    named_last = record {
      below = λ l f h. i.below l f (was l f h);
      single = λ l m f h j. i.single l m f (was l f h) (was m f j);
      named = λ f u m h. let old = i.named f u m (had g s n f u m keys fewer c h) in (old.0, still old.0 f u m old.1 h);
    }

    pub fewer_last : (old after : List (ℕ × Place)) → ParksNone (record { keys = keys; places = old }) (record { keys = fewer; places = after })
        → AreFewer (record { held = record { names = names; keys = keys }; places = old }) (record { held = record { names = new; keys = fewer }; places = after })
    fewer_last old after parks l p = record { name = p.name; named = was l p.name p.named; parked = parks p.name p.parked }

    pub goes_last : Goes k s n (holds (record { names = names; keys = keys })) (holds (record { names = new; keys = fewer }))
    unfolding holds
    goes_last = record {
      had = λ l u m h. let f = found_name new fewer l u m h in by_its_name names keys l f.0 u m (was l f.0 f.1) (had g s n f.0 u m keys fewer c f.2);
      split = λ l u m h. let f = found_name names keys l u m h in by_key l u m f.0 f.1 (has_split g s n f.0 u m keys fewer c f.2);
      gone = λ h. let f = found_name new fewer k s n h in none_some f.0 (sym (named_there k k None names new v (at_itself k)) ∙ f.1);
    }
      where
        by_key : (l : Group) (u m f : ℕ) → name_at l names ≡ Some f → ((f ≡ g) × (u ≡ s) × (m ≡ n)) ⊎ (has fewer f u m ≡ true) → ((l ≡ k) × (u ≡ s) × (m ≡ n)) ⊎ (has_at fewer (name_at l new) u m ≡ true)
        by_key l u m f e (inl q) = inl (i.single l k f e (is ∙ ap Some (sym q.0)), q.1, q.2)
        by_key l u m f e (inr h) = inr (by_its_name new fewer l f u m (still l f u m e h) h)

-- ---- the least

opens_of : (gate : Gates) (pairs : List (ℕ × Item)) (k : Group) (n : ℕ) → IsOf pairs k n → opens gate pairs n ≡ gate k.0 k.1
unfolding opens
opens_of gate pairs k n it = ap (opens_for gate) it.1 ∙ ap (λ (q : Group). gate q.0 q.1) it.2

module _ (gate : Gates) (pairs : List (ℕ × Item)) (names : List (Group × ℕ)) (keys : List (ℕ × ℕ × ℕ)) (next : ℕ) (i : IsNamed names keys next) (of : AreOf pairs (holds (record { names = names; keys = keys }))) where
  key_of : (k : Group) (g s n : ℕ) → name_at k names ≡ Some g → has keys g s n ≡ true → IsOf pairs k n
  unfolding holds
  key_of k g s n e h = of k s n (by_its_name names keys k g s n e h)

  pub are_alike : AreAlike (opens gate pairs) keys
  are_alike g s n r m h j =
      let k = i.named g s n h in
      opens_of gate pairs k.0 n (key_of k.0 g s n k.1 h) ∙ sym (opens_of gate pairs k.0 m (key_of k.0 g r m k.1 j))

  pub are_shut : (places : List (ℕ × Place)) → AreClosed gate (record { held = record { names = names; keys = keys }; places = places }) → AreShut (opens gate pairs) (record { keys = keys; places = places })
  are_shut places closed g s n h none =
      let k = i.named g s n h in
      opens_of gate pairs k.0 n (key_of k.0 g s n k.1 h) ∙ closed k.0 (record { name = g; named = k.1; parked = record { none = none; score = s; number = n; key = h } })

  pub least_held : (r : Option (ℕ × ℕ)) → IsLeastOpen (opens gate pairs) keys r → IsLeastHeld gate (holds (record { names = names; keys = keys })) r
  unfolding holds
  least_held r l = record {
    sound = by_found r l.sound;
    least = λ k s n h o. let f = found_name names keys k s n h in l.least f.0 s n f.2 (opens_of gate pairs k n (of k s n h) ∙ o);
  }
    where
      by_found : (r : Option (ℕ × ℕ)) → IsSound (opens gate pairs) keys r → IsSoundHeld gate (λ k s n. has_at keys (name_at k names) s n) r
      by_found None x = x
      by_found (Some b) x =
          let k = i.named x.0 b.0 b.1 x.1 in
          (k.0, by_its_name names keys k.0 x.0 b.0 b.1 k.1 x.1, sym (opens_of gate pairs k.0 b.1 (key_of k.0 x.0 b.0 b.1 k.1 x.1)) ∙ x.2)

-- ---- no more groups than items that have them

name_or : Option ℕ → ℕ
name_or None = 0
name_or (Some g) = g

pub few_different : (gs : List ℕ) → different gs ≤ length gs
unfolding different
few_different [] = omega arith
few_different (g ∷ gs) = by_test (has_group g gs) (few_different gs)
  where
    by_test : (b : Bool) → different gs ≤ length gs → cond b 0 1 + different gs ≤ length (g ∷ gs)
    by_test true h = omega (arith, h)
    by_test false h = omega (arith, h)

same_itself : (g : ℕ) → (g == g) ≡ true
same_itself g = grind (arith, nat_tests)

or_true : (b : Bool) → (b || true) ≡ true
or_true true = refl
or_true false = refl

abbrev names_of : List (Group × ℕ) → List Item → List ℕ
names_of names items = map (λ i. name_or (name_at (group_of i) names)) items

has_name : (names : List (Group × ℕ)) (k : Group) (g : ℕ) (items : List Item) → name_at k names ≡ Some g → list_any (is_of k) items ≡ true → has_group g (names_of names items) ≡ true
unfolding has_group name_or
has_name names k g [] e h = absurd (apart (sym h))
has_name names k g (x ∷ xs) e h = by_test (is_of k x) refl (has_name names k g xs e) h
  where
    here : is_of k x ≡ true → (name_or (name_at (group_of x) names) == g) ≡ true
    here t = ap (λ o. name_or o == g) (ap (λ q. name_at q names) (sym (tied k (group_of x) t)) ∙ e) ∙ same_itself g

    by_test : (b : Bool) → is_of k x ≡ b → (list_any (is_of k) xs ≡ true → list_any (λ y. y == g) (names_of names xs) ≡ true) → (b || list_any (is_of k) xs) ≡ true
        → (name_or (name_at (group_of x) names) == g || list_any (λ y. y == g) (names_of names xs)) ≡ true
    by_test true t more j = ap (λ b. b || list_any (λ y. y == g) (names_of names xs)) (here t)
    by_test false t more j = ap (λ b. name_or (name_at (group_of x) names) == g || b) (more j) ∙ or_true (name_or (name_at (group_of x) names) == g)

same_length : (names : List (Group × ℕ)) (items : List Item) → length (names_of names items) ≡ length items
same_length names [] = refl
same_length names (x ∷ xs) = ap (λ n. suc n) (same_length names xs)

pub asked_few : (names : List (Group × ℕ)) (keys : List (ℕ × ℕ × ℕ)) (next : ℕ) (firsts : List Item) (was now : ℕ) → IsNamed names keys next → HasEach firsts (holds (record { names = names; keys = keys }))
    → ((gs : List ℕ) → HasGroups gs keys → now ≤ was + different gs) → now ≤ was + length firsts
unfolding holds
asked_few names keys next firsts was now i each asked =
    let bound = asked (names_of names firsts) (λ g s n h. let k = i.named g s n h in has_name names k.0 g firsts k.1 (each k.0 s n (by_its_name names keys k.0 g s n k.1 h))) in
    let few = few_different (names_of names firsts) in
    let size = same_length names firsts in
    omega (arith, bound, few, size)
