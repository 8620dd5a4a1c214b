-- The places beside the keys after a key came or went.
use Rattle.std.proofs.Common.{◌≡◌, ◌⊎◌, inl, inr, ℕ, ◌==◌, Bool, true, false, cond, not, ◌&&◌, ◌||◌, List, [], ◌∷◌, Some, None, Option, refl, sym, ap, ap₂, ◌∙◌, arith, subst, eqb-true}
use Rattle.std.specs.List.{list_any}
use Rattle.std.specs.BTreeMap.{is_at}
use Rattle.std.proofs.lemmas.Bool.Decides.{nat_tests}
use Rattle.ready_queue.specs.declared.fronts.Place.{Place}
use Rattle.ready_queue.specs.Keys.{key_cmp, has, at_most, IsHeadAt, Lead, IsLed, Changes}
use Rattle.ready_queue.specs.Places.{place_at, is_front, IsFronts, Puts, Indexed, IsLedBy, IsIndexed, lowered, IsRaised, IsRestored, IsParkedAt, ParksNone, ParksOne, AreShut}
use Rattle.ready_queue.proofs.WalkLemmas.{at_most_trans, at_most_self, at_most_other}
use Rattle.ready_queue.proofs.FrontLemmas.{key_at, puts_at}

-- ---- keys that came or went

pub has_added : (a b c g s n : ℕ) (old new : List (ℕ × ℕ × ℕ)) → Changes a b c true old new → has new g s n ≡ true → ((g ≡ a) × (s ≡ b) × (n ≡ c)) ⊎ (has old g s n ≡ true)
unfolding has Changes
has_added a b c g s n old new u h = by_test (is_at (key_cmp (a, b, c)) (g, s, n)) refl (sym (u (g, s, n)) ∙ h)
  where
    equal : is_at (key_cmp (a, b, c)) (g, s, n) ≡ true → (g ≡ a) × (s ≡ b) × (n ≡ c)
    equal e = (grind (arith, nat_tests), grind (arith, nat_tests), grind (arith, nat_tests))

    by_test : (t : Bool) → is_at (key_cmp (a, b, c)) (g, s, n) ≡ t → cond t true (list_any (is_at (key_cmp (g, s, n))) old) ≡ true → ((g ≡ a) × (s ≡ b) × (n ≡ c)) ⊎ (list_any (is_at (key_cmp (g, s, n))) old ≡ true)
    by_test true e h = inl (equal e)
    by_test false e h = inr h

at_itself : (a b c : ℕ) → is_at (key_cmp (a, b, c)) (a, b, c) ≡ true
at_itself a b c = grind (arith, nat_tests)

pub has_new : (a b c : ℕ) (old new : List (ℕ × ℕ × ℕ)) → Changes a b c true old new → has new a b c ≡ true
unfolding has Changes
has_new a b c old new u = u (a, b, c) ∙ ap (λ t. cond t true (list_any (is_at (key_cmp (a, b, c))) old)) (at_itself a b c)

pub has_kept : (a b c g s n : ℕ) (old new : List (ℕ × ℕ × ℕ)) → Changes a b c true old new → has old g s n ≡ true → has new g s n ≡ true
unfolding has Changes
has_kept a b c g s n old new u h = u (g, s, n) ∙ ap (λ t. cond (is_at (key_cmp (a, b, c)) (g, s, n)) true t) h ∙ both (is_at (key_cmp (a, b, c)) (g, s, n))
  where
    both : (t : Bool) → cond t true true ≡ true
    both true = refl
    both false = refl

pub had : (a b c g s n : ℕ) (old new : List (ℕ × ℕ × ℕ)) → Changes a b c false old new → has new g s n ≡ true → has old g s n ≡ true
unfolding has Changes
had a b c g s n old new u h = by_test (is_at (key_cmp (a, b, c)) (g, s, n)) (sym (u (g, s, n)) ∙ h)
  where
    by_test : (t : Bool) → cond t false (list_any (is_at (key_cmp (g, s, n))) old) ≡ true → list_any (is_at (key_cmp (g, s, n))) old ≡ true
    by_test true h = absurd (let no : false ≡ true = h in cc)
    by_test false h = h

pub has_other : (a b c g s n : ℕ) (old new : List (ℕ × ℕ × ℕ)) → Changes a b c false old new → (g == a) ≡ false → has old g s n ≡ true → has new g s n ≡ true
unfolding has Changes
has_other a b c g s n old new u f h = u (g, s, n) ∙ ap (λ t. cond t false (list_any (is_at (key_cmp (g, s, n))) old)) (apart f) ∙ h
  where
    apart : (g == a) ≡ false → is_at (key_cmp (a, b, c)) (g, s, n) ≡ false
    apart f = grind (arith, nat_tests)

pub has_split : (a b c g s n : ℕ) (old new : List (ℕ × ℕ × ℕ)) → Changes a b c false old new → has old g s n ≡ true → ((g ≡ a) × (s ≡ b) × (n ≡ c)) ⊎ (has new g s n ≡ true)
unfolding has Changes
has_split a b c g s n old new u h = by_test (is_at (key_cmp (a, b, c)) (g, s, n)) refl (u (g, s, n))
  where
    equal : is_at (key_cmp (a, b, c)) (g, s, n) ≡ true → (g ≡ a) × (s ≡ b) × (n ≡ c)
    equal e = (grind (arith, nat_tests), grind (arith, nat_tests), grind (arith, nat_tests))

    by_test : (t : Bool) → is_at (key_cmp (a, b, c)) (g, s, n) ≡ t → list_any (is_at (key_cmp (g, s, n))) new ≡ cond t false (list_any (is_at (key_cmp (g, s, n))) old) → ((g ≡ a) × (s ≡ b) × (n ≡ c)) ⊎ (list_any (is_at (key_cmp (g, s, n))) new ≡ true)
    by_test true e k = inl (equal e)
    by_test false e k = inr (k ∙ h)

pub has_gone : (a b c : ℕ) (old new : List (ℕ × ℕ × ℕ)) → Changes a b c false old new → has new a b c ≡ true → ⊥
unfolding has Changes
has_gone a b c old new u h = let no : true ≡ false = sym h ∙ u (a, b, c) ∙ ap (λ t. cond t false (list_any (is_at (key_cmp (a, b, c))) old)) (itself a b c) in cc
  where
    itself : (a b c : ℕ) → is_at (key_cmp (a, b, c)) (a, b, c) ≡ true
    itself a b c = grind (arith, nat_tests)

-- ---- lowered places

pub lowered_new : (o : Option Place) (s n : ℕ) → at_most ((lowered o s n).score, (lowered o s n).number) (s, n) ≡ true
lowered_new None s n = at_most_self (s, n)
lowered_new (Some place) s n = by_test (at_most (place.score, place.number) (s, n)) refl
  where
    by_test : (b : Bool) → at_most (place.score, place.number) (s, n) ≡ b → at_most ((cond b place (record { score = s; number = n })).score, (cond b place (record { score = s; number = n })).number) (s, n) ≡ true
    by_test true e = e
    by_test false e = at_most_self (s, n)

pub lowered_kept : (o : Option Place) (s n : ℕ) (x : ℕ × ℕ) → (o ≡ None → ⊥) → IsLedBy o x → at_most ((lowered o s n).score, (lowered o s n).number) x ≡ true
lowered_kept None s n x some h = absurd (some refl)
lowered_kept (Some place) s n x some h = by_test (at_most (place.score, place.number) (s, n)) refl
  where
    by_test : (b : Bool) → at_most (place.score, place.number) (s, n) ≡ b → at_most ((cond b place (record { score = s; number = n })).score, (cond b place (record { score = s; number = n })).number) x ≡ true
    by_test true e = h
    by_test false e = at_most_trans (s, n) (place.score, place.number) x (at_most_other (place.score, place.number) (s, n) e) h

-- ---- the whole

pub indexed_empty : (keys : List (ℕ × ℕ × ℕ)) (places : List (ℕ × Place)) → keys ≡ [] → places ≡ [] → IsIndexed keys places
unfolding has
indexed_empty keys places a b = record {
  led = λ g s n h. absurd (let no : true ≡ false = sym h ∙ ap (λ l. list_any (is_at (key_cmp (g, s, n))) l) a in cc);
  used = λ g place h. absurd (let no : None ≡ Some place = sym (ap (place_at g) b) ∙ h in cc);
}

-- the same place of each group
pub indexed_like : (keys : List (ℕ × ℕ × ℕ)) (old new : List (ℕ × Place)) → IsIndexed keys old → ((q : ℕ) → place_at q new ≡ place_at q old) → IsIndexed keys new
indexed_like keys old new x e = record {
  led = λ g s n h. subst (λ o. IsLedBy o (s, n)) (sym (e g)) (x.led g s n h);
  used = λ g place h. x.used g place (sym (e g) ∙ h);
}

same_group : (b : Bool) (g a : ℕ) → (g == a) ≡ b → (g ≡ a → ⊥) → (g == a) ≡ false
same_group true g a t h = absurd (h (eqb-true g a t))
same_group false g a t h = t

apart_from : (g a : ℕ) → (g == a) ≡ false → g ≡ a → ⊥
apart_from g a t e = grind (arith, nat_tests)

-- a key came, and its group's place isn't after it
pub indexed_added : (a b c : ℕ) (keys more : List (ℕ × ℕ × ℕ)) (old new : List (ℕ × Place)) → IsIndexed keys old → (IsParkedAt a (record { keys = keys; places = old }) → ⊥) → Changes a b c true keys more → Puts a (Some (lowered (place_at a old) b c)) old new → IsIndexed more new
indexed_added a b c keys more old new x free u p = record {
  led = λ g s n h. subst (λ o. IsLedBy o (s, n)) (sym (puts_at a (Some place) old new p g)) (led_by g s n (g == a) refl h (has_added a b c g s n keys more u h));
  used = λ g q h. used_by g q (g == a) refl (sym (puts_at a (Some place) old new p g) ∙ h);
}
  where
    place : Place
    place = lowered (place_at a old) b c

    led_by : (g s n : ℕ) (t : Bool) → (g == a) ≡ t → has more g s n ≡ true → ((g ≡ a) × (s ≡ b) × (n ≡ c)) ⊎ (has keys g s n ≡ true) → IsLedBy (cond t (Some place) (place_at g old)) (s, n)
    led_by g s n true e h (inl q) = subst (λ y. at_most (place.score, place.number) y ≡ true) (sym (ap₂ (λ y z. (y, z)) q.1 q.2)) (lowered_new (place_at a old) b c)
    led_by g s n true e h (inr k) =
        lowered_kept (place_at a old) b c (s, n) (λ none. free (record { none = none; score = s; number = n; key = subst (λ q. has keys q s n ≡ true) (eqb-true g a e) k })) (subst (λ q. IsLedBy (place_at q old) (s, n)) (eqb-true g a e) (x.led g s n k))
    led_by g s n false e h (inl q) = absurd (apart_from g a e q.0)
    led_by g s n false e h (inr k) = x.led g s n k

    used_by : (g : ℕ) (q : Place) (t : Bool) → (g == a) ≡ t → cond t (Some place) (place_at g old) ≡ Some q → (s : ℕ) × (n : ℕ) × (has more g s n ≡ true)
    used_by g q true e h = (b, c, subst (λ y. has more y b c ≡ true) (sym (eqb-true g a e)) (has_new a b c keys more u))
    used_by g q false e h = let k = x.used g q h in (k.0, k.1, has_kept a b c g k.0 k.1 keys more u k.2)

-- a group's place came down, and no key came
pub indexed_lowered : (a b c : ℕ) (was : Place) (keys : List (ℕ × ℕ × ℕ)) (old new : List (ℕ × Place)) → IsIndexed keys old → place_at a old ≡ Some was → Puts a (Some (lowered (place_at a old) b c)) old new → IsIndexed keys new
indexed_lowered a b c was keys old new x some p = record {
  led = λ g s n h. subst (λ o. IsLedBy o (s, n)) (sym (puts_at a (Some place) old new p g)) (led_by g s n (g == a) refl (x.led g s n h));
  used = λ g q h. used_by g q (g == a) refl (sym (puts_at a (Some place) old new p g) ∙ h);
}
  where
    place : Place
    place = lowered (place_at a old) b c

    led_by : (g s n : ℕ) (t : Bool) → (g == a) ≡ t → IsLedBy (place_at g old) (s, n) → IsLedBy (cond t (Some place) (place_at g old)) (s, n)
    led_by g s n true e k = lowered_kept (place_at a old) b c (s, n) (λ none. let no : None ≡ Some was = sym none ∙ some in cc) (subst (λ q. IsLedBy (place_at q old) (s, n)) (eqb-true g a e) k)
    led_by g s n false e k = k

    used_by : (g : ℕ) (q : Place) (t : Bool) → (g == a) ≡ t → cond t (Some place) (place_at g old) ≡ Some q → (s : ℕ) × (n : ℕ) × (has keys g s n ≡ true)
    used_by g q true e h = let k = x.used a was some in (k.0, k.1, subst (λ y. has keys y k.0 k.1 ≡ true) (sym (eqb-true g a e)) k.2)
    used_by g q false e h = x.used g q h

-- a place came and went
put_and_gone : (a : ℕ) (o : Option Place) (old mid new : List (ℕ × Place)) → place_at a old ≡ None → Puts a o old mid → Puts a None mid new → (q : ℕ) → place_at q new ≡ place_at q old
put_and_gone a o old mid new none p r q =
    puts_at a None mid new r q ∙ ap (λ w. cond (q == a) None w) (puts_at a o old mid p q) ∙ by_test (q == a) refl
  where
    by_test : (t : Bool) → (q == a) ≡ t → cond t None (cond t o (place_at q old)) ≡ place_at q old
    by_test true e = sym (ap (λ w. place_at w old) (eqb-true q a e) ∙ none)
    by_test false e = refl

pub indexed_undone : (a b c : ℕ) (o : Option Place) (keys same : List (ℕ × ℕ × ℕ)) (old mid new : List (ℕ × Place)) → IsIndexed keys old → same ≡ keys → o ≡ place_at a old → Puts a (Some (lowered o b c)) old mid → IsRestored a o mid new → IsIndexed same new
indexed_undone a b c None keys same old mid new x e is p r =
    subst (λ l. IsIndexed l new) (sym e) (indexed_like keys old new x (put_and_gone a (Some (lowered None b c)) old mid new (sym is) p r))
indexed_undone a b c (Some was) keys same old mid new x e is p r =
    subst (λ l. IsIndexed l new) (sym e) (subst (IsIndexed keys) (sym r) (indexed_lowered a b c was keys old mid x (sym is) (subst (λ o. Puts a (Some (lowered o b c)) old mid) is p)))

-- a group's last key went
pub indexed_last : (a b c : ℕ) (keys fewer : List (ℕ × ℕ × ℕ)) (old new : List (ℕ × Place)) → IsIndexed keys old → Changes a b c false keys fewer → ((s n : ℕ) → has fewer a s n ≡ false) → Puts a None old new → IsIndexed fewer new
indexed_last a b c keys fewer old new x u none p = record {
  led = λ g s n h. subst (λ o. IsLedBy o (s, n)) (sym (puts_at a None old new p g)) (led_by g s n (g == a) refl h);
  used = λ g q h. used_by g q (g == a) refl (sym (puts_at a None old new p g) ∙ h);
}
  where
    led_by : (g s n : ℕ) (t : Bool) → (g == a) ≡ t → has fewer g s n ≡ true → IsLedBy (cond t None (place_at g old)) (s, n)
    led_by g s n true e h = absurd (let no : true ≡ false = sym h ∙ ap (λ y. has fewer y s n) (eqb-true g a e) ∙ none s n in cc)
    led_by g s n false e h = x.led g s n (had a b c g s n keys fewer u h)

    used_by : (g : ℕ) (q : Place) (t : Bool) → (g == a) ≡ t → cond t None (place_at g old) ≡ Some q → (s : ℕ) × (n : ℕ) × (has fewer g s n ≡ true)
    used_by g q true e h = absurd (cc)
    used_by g q false e h = let k = x.used g q h in (k.0, k.1, has_other a b c g k.0 k.1 keys fewer u e k.2)

-- a key went, and its group has others
pub indexed_removed : (a b c : ℕ) (least : ℕ × ℕ) (keys fewer : List (ℕ × ℕ × ℕ)) (old new : List (ℕ × Place)) → IsIndexed keys old → Changes a b c false keys fewer → IsHeadAt fewer a least → IsRaised a least old new → IsIndexed fewer new
indexed_removed a b c least keys fewer old new x u head (inl same) = subst (IsIndexed fewer) (sym same) (record {
  led = λ g s n h. x.led g s n (had a b c g s n keys fewer u h);
  used = λ g q h. used_by g q (g == a) refl h;
})
  where
    used_by : (g : ℕ) (q : Place) (t : Bool) → (g == a) ≡ t → place_at g old ≡ Some q → (s : ℕ) × (n : ℕ) × (has fewer g s n ≡ true)
    used_by g q true e h = (least.0, least.1, subst (λ y. has fewer y least.0 least.1 ≡ true) (sym (eqb-true g a e)) head.0)
    used_by g q false e h = let k = x.used g q h in (k.0, k.1, has_other a b c g k.0 k.1 keys fewer u e k.2)
indexed_removed a b c least keys fewer old new x u head (inr r) = record {
  led = λ g s n h. subst (λ o. IsLedBy o (s, n)) (sym (puts_at a _ old new r.2 g)) (led_by g s n (g == a) refl h);
  used = λ g q h. used_by g q (g == a) refl (sym (puts_at a _ old new r.2 g) ∙ h);
}
  where
    next : Place
    next = record { score = least.0; number = least.1 }

    led_by : (g s n : ℕ) (t : Bool) → (g == a) ≡ t → has fewer g s n ≡ true → IsLedBy (cond t (Some next) (place_at g old)) (s, n)
    led_by g s n true e h = head.1 s n (subst (λ y. has fewer y s n ≡ true) (eqb-true g a e) h)
    led_by g s n false e h = x.led g s n (had a b c g s n keys fewer u h)

    used_by : (g : ℕ) (q : Place) (t : Bool) → (g == a) ≡ t → cond t (Some next) (place_at g old) ≡ Some q → (s : ℕ) × (n : ℕ) × (has fewer g s n ≡ true)
    used_by g q true e h = (least.0, least.1, subst (λ y. has fewer y least.0 least.1 ≡ true) (sym (eqb-true g a e)) head.0)
    used_by g q false e h = let k = x.used g q h in (k.0, k.1, has_other a b c g k.0 k.1 keys fewer u e k.2)

-- a key came of a group that is parked
pub indexed_kept : (a b c : ℕ) (keys more : List (ℕ × ℕ × ℕ)) (places : List (ℕ × Place)) → IsIndexed keys places → place_at a places ≡ None → Changes a b c true keys more → IsIndexed more places
indexed_kept a b c keys more places x none u = record {
  led = λ g s n h. led_by g s n (has_added a b c g s n keys more u h);
  used = λ g q h. let k = x.used g q h in (k.0, k.1, has_kept a b c g k.0 k.1 keys more u k.2);
}
  where
    led_by : (g s n : ℕ) → ((g ≡ a) × (s ≡ b) × (n ≡ c)) ⊎ (has keys g s n ≡ true) → IsLedBy (place_at g places) (s, n)
    led_by g s n (inl q) = subst (λ o. IsLedBy o (s, n)) (sym (ap (λ y. place_at y places) q.0 ∙ none)) tt
    led_by g s n (inr k) = x.led g s n k

-- a group lost its place
pub indexed_parked : (a : ℕ) (keys : List (ℕ × ℕ × ℕ)) (old new : List (ℕ × Place)) → IsIndexed keys old → Puts a None old new → IsIndexed keys new
indexed_parked a keys old new x p = record {
  led = λ g s n h. subst (λ o. IsLedBy o (s, n)) (sym (puts_at a None old new p g)) (led_by g s n (g == a) (x.led g s n h));
  used = λ g q h. used_by g q (g == a) (sym (puts_at a None old new p g) ∙ h);
}
  where
    led_by : (g s n : ℕ) (t : Bool) → IsLedBy (place_at g old) (s, n) → IsLedBy (cond t None (place_at g old)) (s, n)
    led_by g s n true k = tt
    led_by g s n false k = k

    used_by : (g : ℕ) (q : Place) (t : Bool) → cond t None (place_at g old) ≡ Some q → (s : ℕ) × (n : ℕ) × (has keys g s n ≡ true)
    used_by g q true h = absurd (cc)
    used_by g q false h = x.used g q h

-- a group got its least key as its place
pub indexed_placed : (a : ℕ) (least : ℕ × ℕ) (keys : List (ℕ × ℕ × ℕ)) (old new : List (ℕ × Place)) → IsIndexed keys old → IsHeadAt keys a least → Puts a (Some (record { score = least.0; number = least.1 })) old new → IsIndexed keys new
indexed_placed a least keys old new x head p = record {
  led = λ g s n h. subst (λ o. IsLedBy o (s, n)) (sym (puts_at a _ old new p g)) (led_by g s n (g == a) refl h);
  used = λ g q h. used_by g q (g == a) refl (sym (puts_at a _ old new p g) ∙ h);
}
  where
    next : Place
    next = record { score = least.0; number = least.1 }

    led_by : (g s n : ℕ) (t : Bool) → (g == a) ≡ t → has keys g s n ≡ true → IsLedBy (cond t (Some next) (place_at g old)) (s, n)
    led_by g s n true e h = head.1 s n (subst (λ y. has keys y s n ≡ true) (eqb-true g a e) h)
    led_by g s n false e h = x.led g s n h

    used_by : (g : ℕ) (q : Place) (t : Bool) → (g == a) ≡ t → cond t (Some next) (place_at g old) ≡ Some q → (s : ℕ) × (n : ℕ) × (has keys g s n ≡ true)
    used_by g q true e h = (least.0, least.1, subst (λ y. has keys y least.0 least.1 ≡ true) (sym (eqb-true g a e)) head.0)
    used_by g q false e h = x.used g q h

-- ---- groups that are parked

at_same : (a g : ℕ) (keys : List (ℕ × ℕ × ℕ)) (s n : ℕ) → (g == a) ≡ true → has keys g s n ≡ true → has keys a s n ≡ true
at_same a g keys s n e h = subst (λ y. has keys y s n ≡ true) (eqb-true g a e) h

-- one group's place came or went, and other groups got no key
pub parks_put : (a : ℕ) (o : Option Place) (keys now : List (ℕ × ℕ × ℕ)) (old new : List (ℕ × Place)) → Puts a o old new → ((g s n : ℕ) → (g == a) ≡ false → has now g s n ≡ true → has keys g s n ≡ true)
    → (o ≡ None → (s n : ℕ) → has now a s n ≡ false) → ParksNone (record { keys = keys; places = old }) (record { keys = now; places = new })
parks_put a o keys now old new p others gone g k = by_test (g == a) refl (sym (puts_at a o old new p g) ∙ k.none)
  where
    by_test : (t : Bool) → (g == a) ≡ t → cond t o (place_at g old) ≡ None → IsParkedAt g (record { keys = keys; places = old })
    by_test true e h = absurd (let no : true ≡ false = sym (at_same a g now k.score k.number e k.key) ∙ gone h k.score k.number in cc)
    by_test false e h = record { none = h; score = k.score; number = k.number; key = others g k.score k.number e k.key }

-- each place is as before
pub parks_like : (keys now : List (ℕ × ℕ × ℕ)) (old new : List (ℕ × Place)) → ((q : ℕ) → place_at q new ≡ place_at q old) → ((g s n : ℕ) → has now g s n ≡ true → has keys g s n ≡ true)
    → ParksNone (record { keys = keys; places = old }) (record { keys = now; places = new })
parks_like keys now old new like before g k = record { none = sym (like g) ∙ k.none; score = k.score; number = k.number; key = before g k.score k.number k.key }

pub added_else : (a b c : ℕ) (keys more : List (ℕ × ℕ × ℕ)) → Changes a b c true keys more → (g s n : ℕ) → (g == a) ≡ false → has more g s n ≡ true → has keys g s n ≡ true
added_else a b c keys more u g s n e h = elim (has_added a b c g s n keys more u h) [ inl q ↦ absurd (apart_from g a e q.0) | inr k ↦ k ]

pub parks_placed : (a b c : ℕ) (place : Place) (keys more : List (ℕ × ℕ × ℕ)) (old new : List (ℕ × Place)) → Changes a b c true keys more → Puts a (Some place) old new → ParksNone (record { keys = keys; places = old }) (record { keys = more; places = new })
parks_placed a b c place keys more old new u p = parks_put a (Some place) keys more old new p (added_else a b c keys more u) (λ e. absurd (let no : Some place ≡ None = e in cc))

pub parks_kept : (a b c : ℕ) (keys more : List (ℕ × ℕ × ℕ)) (places : List (ℕ × Place)) → IsParkedAt a (record { keys = keys; places = places }) → Changes a b c true keys more → ParksNone (record { keys = keys; places = places }) (record { keys = more; places = places })
parks_kept a b c keys more places is u g k = by_key (has_added a b c g k.score k.number keys more u k.key)
  where
    by_key : ((g ≡ a) × (k.score ≡ b) × (k.number ≡ c)) ⊎ (has keys g k.score k.number ≡ true) → IsParkedAt g (record { keys = keys; places = places })
    by_key (inl q) = subst (λ y. IsParkedAt y (record { keys = keys; places = places })) (sym q.0) is
    by_key (inr h) = record { none = k.none; score = k.score; number = k.number; key = h }

pub parks_undone : (a b c : ℕ) (o : Option Place) (keys same : List (ℕ × ℕ × ℕ)) (old mid new : List (ℕ × Place)) → same ≡ keys → o ≡ place_at a old → Puts a (Some (lowered o b c)) old mid → IsRestored a o mid new
    → ParksNone (record { keys = keys; places = old }) (record { keys = same; places = new })
parks_undone a b c None keys same old mid new e is p r =
    parks_like keys same old new (put_and_gone a (Some (lowered None b c)) old mid new (sym is) p r) (λ g s n h. subst (λ l. has l g s n ≡ true) e h)
parks_undone a b c (Some was) keys same old mid new e is p r =
    parks_put a (Some (lowered (Some was) b c)) keys same old new (subst (Puts a (Some (lowered (Some was) b c)) old) (sym r) p) (λ g s n f h. subst (λ l. has l g s n ≡ true) e h)
    (λ none. absurd (let no : Some (lowered (Some was) b c) ≡ None = none in cc))

pub parks_last : (a b c : ℕ) (keys fewer : List (ℕ × ℕ × ℕ)) (old new : List (ℕ × Place)) → Changes a b c false keys fewer → ((s n : ℕ) → has fewer a s n ≡ false) → Puts a None old new → ParksNone (record { keys = keys; places = old }) (record { keys = fewer; places = new })
parks_last a b c keys fewer old new u none p = parks_put a None keys fewer old new p (λ g s n e h. had a b c g s n keys fewer u h) (λ e. none)

pub parks_raised : (a b c : ℕ) (least : ℕ × ℕ) (keys fewer : List (ℕ × ℕ × ℕ)) (old new : List (ℕ × Place)) → Changes a b c false keys fewer → IsRaised a least old new → ParksNone (record { keys = keys; places = old }) (record { keys = fewer; places = new })
parks_raised a b c least keys fewer old new u (inl same) = parks_like keys fewer old new (λ q. ap (place_at q) same) (λ g s n h. had a b c g s n keys fewer u h)
parks_raised a b c least keys fewer old new u (inr r) =
    parks_put a (Some (record { score = least.0; number = least.1 })) keys fewer old new r.2 (λ g s n e h. had a b c g s n keys fewer u h)
    (λ e. absurd (let no : Some (record { score = least.0; number = least.1 }) ≡ None = e in cc))

pub parks_again : (a : ℕ) (place : Place) (keys : List (ℕ × ℕ × ℕ)) (old new : List (ℕ × Place)) → Puts a (Some place) old new → ParksNone (record { keys = keys; places = old }) (record { keys = keys; places = new })
parks_again a place keys old new p = parks_put a (Some place) keys keys old new p (λ g s n e h. h) (λ e. absurd (let no : Some place ≡ None = e in cc))

pub parks_one : (a : ℕ) (keys : List (ℕ × ℕ × ℕ)) (old new : List (ℕ × Place)) → Puts a None old new → ParksOne a (record { keys = keys; places = old }) (record { keys = keys; places = new })
parks_one a keys old new p g k = by_test (g == a) refl (sym (puts_at a None old new p g) ∙ k.none)
  where
    by_test : (t : Bool) → (g == a) ≡ t → cond t None (place_at g old) ≡ None → (g ≡ a) ⊎ IsParkedAt g (record { keys = keys; places = old })
    by_test true e h = inl (eqb-true g a e)
    by_test false e h = inr (record { none = h; score = k.score; number = k.number; key = k.key })

pub placed_again : (a : ℕ) (place : Place) (keys : List (ℕ × ℕ × ℕ)) (old new : List (ℕ × Place)) → Puts a (Some place) old new → IsParkedAt a (record { keys = keys; places = new }) → ⊥
placed_again a place keys old new p k =
    let no : Some place ≡ None = sym (ap (λ t. cond t (Some place) (place_at a old)) (itself a)) ∙ sym (puts_at a (Some place) old new p a) ∙ k.none in cc
  where
    itself : (n : ℕ) → (n == n) ≡ true
    itself n = grind (arith, nat_tests)

-- ---- the order

-- each open key has an entry in the order, where the keys of parked groups are closed
pub lead : (open_at : ℕ → Bool) (keys order : List (ℕ × ℕ × ℕ)) (places : List (ℕ × Place)) → IsIndexed keys places → IsFronts order places → AreShut open_at (record { keys = keys; places = places }) → Lead open_at order keys
unfolding IsFronts is_front
lead open_at keys order places x f shut g s n h o = by_place (place_at g places) refl (x.led g s n h)
  where
    itself : (a b : ℕ) → (a == a && b == b) ≡ true
    itself a b = grind (arith, nat_tests)

    by_place : (w : Option Place) → place_at g places ≡ w → IsLedBy w (s, n) → IsLed order g s n
    by_place None e k = absurd (let no : true ≡ false = sym o ∙ shut g s n h e in cc)
    by_place (Some place) e k = (place.score, place.number, f place.score place.number g ∙ ap (is_front place.score place.number) e ∙ itself place.score place.number, k)
