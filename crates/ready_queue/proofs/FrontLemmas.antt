-- The order of the groups after a place came, went or was put in place of another.
use Rattle.std.proofs.Common.{◌≡◌, ℕ, ◌==◌, Bool, true, false, cond, not, ◌&&◌, ◌||◌, List, [], ◌∷◌, Some, None, Option, refl, sym, ap, ap₂, ◌∙◌, arith, subst, eqb-true}
use Rattle.std.specs.List.{list_any}
use Rattle.std.specs.BTreeMap.{is_at}
use Rattle.std.specs.Ordering.{nat_cmp}
use Rattle.std.proofs.lemmas.Bool.Decides.{nat_tests}
use Rattle.ready_queue.specs.declared.fronts.Place.{Place}
use Rattle.ready_queue.specs.Keys.{key_cmp, has, Changes}
use Rattle.ready_queue.specs.Places.{place_at, is_front, IsFronts, IsShown, IsHidden, Puts}

pub key_at : (p m g s n h : ℕ) → is_at (key_cmp (p, m, g)) (s, n, h) ≡ (p == s && m == n && g == h)
key_at p m g s n h = grind (arith, nat_tests)

pub group_at : (group g : ℕ) → is_at (nat_cmp group) g ≡ (g == group)
group_at group g = grind (arith, nat_tests)

-- ---- one key of the set

shown_case : (p m k s n g : ℕ) (x : Bool) → cond (p == s && m == n && k == g) true x ≡ (x || (g == k && (s == p && n == m)))
shown_case p m k s n g true = grind (arith, nat_tests)
shown_case p m k s n g false = grind (arith, nat_tests)

pub shown : (group : ℕ) (place : Place) (old new : List (ℕ × ℕ × ℕ)) → Changes place.score place.number group true old new → IsShown group place old new
unfolding IsShown has is_front Changes
shown group place old new u s n g =
    u (s, n, g) ∙ ap (λ b. cond b true (list_any (is_at (key_cmp (s, n, g))) old)) (key_at place.score place.number group s n g)
    ∙ shown_case place.score place.number group s n g (list_any (is_at (key_cmp (s, n, g))) old)

hidden_case : (p m k s n g : ℕ) (x f : Bool) → (s ≡ p → n ≡ m → f ≡ false) → cond (p == s && m == n && k == g) false x ≡ (x && not (g == k && s == p && n == m && not f))
hidden_case p m k s n g true true h = grind (arith, nat_tests)
hidden_case p m k s n g true false h = grind (arith, nat_tests)
hidden_case p m k s n g false f h = grind (arith, nat_tests)

pub hidden : (group : ℕ) (was : Place) (place : Option Place) (old new : List (ℕ × ℕ × ℕ)) → is_front was.score was.number place ≡ false → Changes was.score was.number group false old new → IsHidden group was place old new
unfolding IsHidden has Changes
hidden group was place old new f u s n g =
    u (s, n, g) ∙ ap (λ b. cond b false (list_any (is_at (key_cmp (s, n, g))) old)) (key_at was.score was.number group s n g)
    ∙ hidden_case was.score was.number group s n g (list_any (is_at (key_cmp (s, n, g))) old) (is_front s n place) (λ a b. ap₂ (λ x y. is_front x y place) a b ∙ f)

stays_case : (p m k s n g : ℕ) (x f : Bool) → (s ≡ p → n ≡ m → f ≡ true) → x ≡ (x && not (g == k && s == p && n == m && not f))
stays_case p m k s n g true true h = grind (arith, nat_tests)
stays_case p m k s n g true false h = grind (arith, nat_tests)
stays_case p m k s n g false f h = refl

pub not_hidden : (group : ℕ) (was : Place) (place : Option Place) (old : List (ℕ × ℕ × ℕ)) → is_front was.score was.number place ≡ true → IsHidden group was place old old
unfolding IsHidden has
not_hidden group was place old f s n g = stays_case was.score was.number group s n g (list_any (is_at (key_cmp (s, n, g))) old) (is_front s n place) (λ a b. ap₂ (λ x y. is_front x y place) a b ∙ f)

pub front_none : (s n : ℕ) → is_front s n None ≡ false
unfolding is_front
front_none s n = refl

-- ---- the order beside the places

or_false : (x : Bool) → (x || false) ≡ x
or_false true = refl
or_false false = refl

and_true : (x : Bool) → (x && true) ≡ x
and_true true = refl
and_true false = refl

put_new : (b : Bool) (s n : ℕ) (o : Option Place) (place : Place) → (b ≡ true → o ≡ None) → (is_front s n o || (b && is_front s n (Some place))) ≡ is_front s n (cond b (Some place) o)
unfolding is_front
put_new true s n o place h = rw (h refl) refl
put_new false s n o place h = or_false (is_front s n o)

over : (a b c d : ℕ) (s n : ℕ) → ((s == a && n == b) || (s == c && n == d)) && not (s == a && n == b && not (s == c && n == d)) ≡ (s == c && n == d)
over a b c d s n = grind (arith, nat_tests)

put_over : (b : Bool) (s n : ℕ) (o : Option Place) (was place : Place) → (b ≡ true → o ≡ Some was)
    → ((is_front s n o || (b && is_front s n (Some place))) && not (b && s == was.score && n == was.number && not (is_front s n (Some place)))) ≡ is_front s n (cond b (Some place) o)
unfolding is_front
put_over true s n o was place h = rw (h refl) (over was.score was.number place.score place.number s n)
put_over false s n o was place h = and_true (is_front s n o || false) ∙ or_false (is_front s n o)

gone : (a b s n : ℕ) → (s == a && n == b) && not (s == a && n == b && true) ≡ false
gone a b s n = grind (arith, nat_tests)

put_undone : (b : Bool) (s n : ℕ) (o : Option Place) (place : Place) → (b ≡ true → o ≡ None)
    → ((is_front s n o || (b && is_front s n (Some place))) && not (b && s == place.score && n == place.number && not (is_front s n None))) ≡ is_front s n o
unfolding is_front
put_undone true s n o place h = rw (h refl) (gone place.score place.number s n)
put_undone false s n o place h = and_true (is_front s n o || false) ∙ or_false (is_front s n o)

taken_out : (b : Bool) (s n : ℕ) (o : Option Place) (was : Place) → (b ≡ true → o ≡ Some was)
    → (is_front s n o && not (b && s == was.score && n == was.number && not (is_front s n None))) ≡ is_front s n (cond b None o)
unfolding is_front
taken_out true s n o was h = rw (h refl) (gone was.score was.number s n)
taken_out false s n o was h = and_true (is_front s n o)

pub puts_at : (group : ℕ) (place : Option Place) (old new : List (ℕ × Place)) → Puts group place old new → (q : ℕ) → place_at q new ≡ cond (q == group) place (place_at q old)
unfolding Puts
puts_at group place old new u q = u q ∙ ap (λ b. cond b place (place_at q old)) (group_at group q)

at_group : (g group : ℕ) (places : List (ℕ × Place)) (o : Option Place) → place_at group places ≡ o → (g == group) ≡ true → place_at g places ≡ o
at_group g group places o h t = ap (λ k. place_at k places) (eqb-true g group t) ∙ h

pub fronts_empty : (order : List (ℕ × ℕ × ℕ)) (places : List (ℕ × Place)) → order ≡ [] → places ≡ [] → IsFronts order places
unfolding IsFronts has is_front
fronts_empty order places a b s n g = rw (a, b) refl

pub fronts_new : (group : ℕ) (place : Place) (order o : List (ℕ × ℕ × ℕ)) (old new : List (ℕ × Place)) → IsFronts order old → place_at group old ≡ None → IsShown group place order o → Puts group (Some place) old new → IsFronts o new
unfolding IsFronts IsShown
fronts_new group place order o old new f none sh u s n g =
    sh s n g ∙ ap (λ x. x || (g == group && is_front s n (Some place))) (f s n g)
    ∙ put_new (g == group) s n (place_at g old) place (at_group g group old None none)
    ∙ ap (is_front s n) (sym (puts_at group (Some place) old new u g))

pub fronts_over : (group : ℕ) (was place : Place) (order o r : List (ℕ × ℕ × ℕ)) (old new : List (ℕ × Place)) → IsFronts order old → place_at group old ≡ Some was → IsShown group place order o → IsHidden group was (Some place) o r
    → Puts group (Some place) old new → IsFronts r new
unfolding IsFronts IsShown IsHidden
fronts_over group was place order o r old new f some sh hi u s n g =
    hi s n g ∙ ap (λ x. x && not (g == group && s == was.score && n == was.number && not (is_front s n (Some place)))) (sh s n g ∙ ap (λ x. x || (g == group && is_front s n (Some place))) (f s n g))
    ∙ put_over (g == group) s n (place_at g old) was place (at_group g group old (Some was) some)
    ∙ ap (is_front s n) (sym (puts_at group (Some place) old new u g))

pub fronts_undone : (group : ℕ) (place : Place) (order o r : List (ℕ × ℕ × ℕ)) (old new : List (ℕ × Place)) → IsFronts order old → place_at group old ≡ None → IsShown group place order o → IsHidden group place None o r → new ≡ old → IsFronts r new
unfolding IsFronts IsShown IsHidden
fronts_undone group place order o r old new f none sh hi same s n g =
    hi s n g ∙ ap (λ x. x && not (g == group && s == place.score && n == place.number && not (is_front s n None))) (sh s n g ∙ ap (λ x. x || (g == group && is_front s n (Some place))) (f s n g))
    ∙ put_undone (g == group) s n (place_at g old) place (at_group g group old None none)
    ∙ ap (λ l. is_front s n (place_at g l)) (sym same)

pub fronts_gone : (group : ℕ) (was : Place) (order r : List (ℕ × ℕ × ℕ)) (old new : List (ℕ × Place)) → IsFronts order old → place_at group old ≡ Some was → IsHidden group was None order r → Puts group None old new → IsFronts r new
unfolding IsFronts IsHidden
fronts_gone group was order r old new f some hi u s n g =
    hi s n g ∙ ap (λ x. x && not (g == group && s == was.score && n == was.number && not (is_front s n None))) (f s n g)
    ∙ taken_out (g == group) s n (place_at g old) was (at_group g group old (Some was) some)
    ∙ ap (is_front s n) (sym (puts_at group None old new u g))

pub fronts_same : (order : List (ℕ × ℕ × ℕ)) (old new : List (ℕ × Place)) → IsFronts order old → new ≡ old → IsFronts order new
fronts_same order old new f e = subst (IsFronts order) (sym e) f
