-- The places of a digest, the first of them whose entry has an id, and that entry.
use Rattle.std.proofs.Common.{◌≡◌, ℕ, ◌==◌, Bool, true, false, cond, ◌||◌, List, [], ◌∷◌, Option, Some, None, refl, sym, ap, ◌∙◌, arith, subst}
use Rattle.std.specs.Option.{MatchOption}
use Rattle.std.specs.List.{find, list_any}
use Rattle.std.specs.BTreeMap.{is_at}
use Rattle.std.proofs.lemmas.Bool.Decides.{nat_tests}
use Rattle.std.proofs.lemmas.Option.{same_Some}
use Rattle.kinds.specs.declared.seen.SeenEntry.{SeenEntry}
use Rattle.kinds.specs.Seen.{has_id, insert_seen}
use Rattle.lists.proofs.Keyed.{cond_none}
use Rattle.lists.proofs.Texts.{bytes_self}
use Rattle.intake.specs.Number.{has_number, without_number}
use Rattle.intake.specs.Order.{AreListed, IsInOrder, has_part, pair_cmp}
use Rattle.intake.specs.Places.{digest, digest_of, has_place, is_of, is_within, places_of}
use Rattle.intake.proofs.Ids.{found_id}
use Rattle.intake.proofs.Numbers.{Changes, found_by_number, found_number, listed_added, listed_removed, listed_undone}

within : (d n : ℕ) → is_within d (d, n) ≡ true
within d n = grind (arith, nat_tests)

within_digest : (d e n : ℕ) → is_within d (e, n) ≡ true → d ≡ e
within_digest d e n h = grind (arith, nat_tests)

place_itself : (d n : ℕ) → is_at (pair_cmp (d, n)) (d, n) ≡ true
place_itself d n = grind (arith, nat_tests)

same_digest : (d n e m : ℕ) → is_at (pair_cmp (d, n)) (e, m) ≡ true → d ≡ e
same_digest d n e m h = grind (arith, nat_tests)

same_number : (d n e m : ℕ) → is_at (pair_cmp (d, n)) (e, m) ≡ true → n ≡ m
same_number d n e m h = grind (arith, nat_tests)

or_left : (a b : Bool) → a ≡ true → (a || b) ≡ true
or_left true b h = refl
or_left false b h = cc

or_right : (a b : Bool) → b ≡ true → (a || b) ≡ true
or_right true b h = refl
or_right false b h = h

-- a place that passes is one of the digest
pub passing_place : (asked : ℕ → Bool) (d : ℕ) (places : List (ℕ × ℕ)) (p : ℕ × ℕ) → find (λ (q : ℕ × ℕ). asked q.1) (places_of d places) ≡ Some p
    → (has_place places d p.1 ≡ true) × (asked p.1 ≡ true)
unfolding has_place
passing_place asked d [] p h = cc
passing_place asked d ((e, n) ∷ places) p h = by_range (is_within d (e, n)) refl h (passing_place asked d places p)
  where
    later : (has_place places d p.1 ≡ true) × (asked p.1 ≡ true) → (has_place ((e, n) ∷ places) d p.1 ≡ true) × (asked p.1 ≡ true)
    later h = (or_right (is_at (pair_cmp (d, p.1)) (e, n)) (list_any (is_at (pair_cmp (d, p.1))) places) h.0, h.1)

    at_place : d ≡ e → is_at (pair_cmp (d, n)) (e, n) ≡ true
    at_place a = subst (λ x. is_at (pair_cmp (d, n)) (x, n) ≡ true) a (place_itself d n)

    by_asked : (b : Bool) → asked n ≡ b → is_within d (e, n) ≡ true → cond b (Some (e, n)) (find (λ (q : ℕ × ℕ). asked q.1) (places_of d places)) ≡ Some p
        → (find (λ (q : ℕ × ℕ). asked q.1) (places_of d places) ≡ Some p → (has_place places d p.1 ≡ true) × (asked p.1 ≡ true))
        → (has_place ((e, n) ∷ places) d p.1 ≡ true) × (asked p.1 ≡ true)
    by_asked true t w h more =
        subst (λ (q : ℕ × ℕ). (has_place ((e, n) ∷ places) d q.1 ≡ true) × (asked q.1 ≡ true)) (same_Some (e, n) p h)
        (or_left (is_at (pair_cmp (d, n)) (e, n)) (list_any (is_at (pair_cmp (d, n))) places) (at_place (within_digest d e n w)), t)
    by_asked false t w h more = later (more h)

    by_range : (b : Bool) → is_within d (e, n) ≡ b → find (λ (q : ℕ × ℕ). asked q.1) (cond b ((e, n) ∷ places_of d places) (places_of d places)) ≡ Some p
        → (find (λ (q : ℕ × ℕ). asked q.1) (places_of d places) ≡ Some p → (has_place places d p.1 ≡ true) × (asked p.1 ≡ true))
        → (has_place ((e, n) ∷ places) d p.1 ≡ true) × (asked p.1 ≡ true)
    by_range true w h more = by_asked (asked n) refl w h more
    by_range false w h more = later (more h)

pub no_passing_place : (asked : ℕ → Bool) (d : ℕ) (places : List (ℕ × ℕ)) → find (λ (q : ℕ × ℕ). asked q.1) (places_of d places) ≡ None
    → (n : ℕ) → has_place places d n ≡ true → asked n ≡ false
unfolding has_place
no_passing_place asked d [] h n t = cc
no_passing_place asked d ((e, m) ∷ places) h n t = by_place (is_at (pair_cmp (d, n)) (e, m)) refl t (no_passing_place asked d places)
  where
    later : Option (ℕ × ℕ)
    later = find (λ (q : ℕ × ℕ). asked q.1) (places_of d places)

    rest : (b : Bool) → find (λ (q : ℕ × ℕ). asked q.1) (cond b ((e, m) ∷ places_of d places) (places_of d places)) ≡ None → later ≡ None
    rest true f = (cond_none (asked m) (e, m) later f).1
    rest false f = f

    fails : (b : Bool) → find (λ (q : ℕ × ℕ). asked q.1) (cond b ((e, m) ∷ places_of d places) (places_of d places)) ≡ None → b ≡ true → asked m ≡ false
    fails true f w = (cond_none (asked m) (e, m) later f).0
    fails false f w = cc

    in_range : d ≡ e → is_within d (e, m) ≡ true
    in_range a = subst (λ x. is_within d (x, m) ≡ true) a (within d m)

    by_place : (b : Bool) → is_at (pair_cmp (d, n)) (e, m) ≡ b → (b || list_any (is_at (pair_cmp (d, n))) places) ≡ true
        → (find (λ (q : ℕ × ℕ). asked q.1) (places_of d places) ≡ None → (k : ℕ) → list_any (is_at (pair_cmp (d, k))) places ≡ true → asked k ≡ false)
        → asked n ≡ false
    by_place true f o more =
        subst (λ x. asked x ≡ false) (sym (same_number d n e m f)) (fails (is_within d (e, m)) h (in_range (same_digest d n e m f)))
    by_place false f o more = more (rest (is_within d (e, m)) h) n o

-- ---- entries

same_self : (n : ℕ) → (n == n) ≡ true
same_self n = grind (arith, nat_tests)

-- where no place passes, no entry has the id
pub none_with_id : (id : List ℕ) (es : List SeenEntry) (places : List (ℕ × ℕ)) → AreListed digest_of places es → IsInOrder es
    → ((n : ℕ) → has_place places (digest id) n ≡ true → is_of id (find (has_number n) es) ≡ false) → find (has_id id) es ≡ None
unfolding has_place
none_with_id id es places l s none = by_found (find (has_id id) es) refl
  where
    by_found : (o : Option SeenEntry) → find (has_id id) es ≡ o → find (has_id id) es ≡ None
    by_found None e = e
    by_found (Some r) e =
        let here : find (has_number r.number) es ≡ Some r = found_by_number (has_id id) es r s e in
        let same : id ≡ r.id = found_id id es r e in
        let there : list_any (is_at (pair_cmp (digest r.id, r.number))) places ≡ true = l (digest r.id) r.number ∙ ap (has_part digest_of (digest r.id)) here ∙ same_self (digest r.id) in
        let fails : has_id id r ≡ false = ap (is_of id) (sym here) ∙ none r.number (ap (λ i. list_any (is_at (pair_cmp (digest i, r.number))) places) same ∙ there) in
        let holds : has_id id r ≡ true = ap (λ i. has_id i r) same ∙ bytes_self r.id in
        let no : true ≡ false = sym holds ∙ fails in cc

-- the entry of a place that passes
pub one_with_id : (id : List ℕ) (n : ℕ) (es : List SeenEntry) (o : Option SeenEntry) → o ≡ find (has_number n) es → is_of id (find (has_number n) es) ≡ true
    → MatchOption o (find (has_id id) es ≡ None) (λ e. (find (has_number e.number) es ≡ Some e) × (has_id id e ≡ true))
one_with_id id n es None e t = let no : false ≡ true = ap (is_of id) e ∙ t in cc
one_with_id id n es (Some r) e t =
    (ap (λ k. find (has_number k) es) (sym (found_number n es r (sym e))) ∙ sym e, ap (is_of id) e ∙ t)

-- ---- the set after an entry came or went

pub placed_added : (d : ℕ) (e : SeenEntry) (es now : List SeenEntry) (old new : List (ℕ × ℕ)) → AreListed digest_of old es → d ≡ digest_of e
    → find (has_number e.number) es ≡ None → now ≡ insert_seen e es → Changes d e.number true old new → AreListed digest_of new now
placed_added d e es now old new l a none h u =
    subst (AreListed digest_of new) (sym h) (listed_added digest_of e es old new none (subst (λ p. Changes p e.number true old new) a u) l)

pub placed_undone : (d : ℕ) (e : SeenEntry) (es now : List SeenEntry) (old mid new : List (ℕ × ℕ)) → AreListed digest_of old es → d ≡ digest_of e
    → find (has_number e.number) es ≡ None → now ≡ es → Changes d e.number true old mid → Changes d e.number false mid new → AreListed digest_of new now
placed_undone d e es now old mid new l a none h u v =
    subst (AreListed digest_of new) (sym h)
    (listed_undone digest_of e es old mid new none (subst (λ p. Changes p e.number true old mid) a u) (subst (λ p. Changes p e.number false mid new) a v) l)

pub placed_removed : (d n : ℕ) (r : SeenEntry) (es now : List SeenEntry) (old new : List (ℕ × ℕ)) → AreListed digest_of old es
    → find (has_number n) es ≡ Some r → d ≡ digest_of r → now ≡ without_number n es → Changes d n false old new → AreListed digest_of new now
placed_removed d n r es now old new l found a h u =
    subst (AreListed digest_of new) (sym h) (listed_removed digest_of r n es old new found (subst (λ p. Changes p n false old new) a u) l)
