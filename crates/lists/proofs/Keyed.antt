-- Entries that a map keeps under keys of theirs: what the map's list of pairs is, and what an insert, a
-- removal and a look-up are on the list of entries.
use Rattle.std.proofs.Common.{◌≡◌, Bool, true, false, cond, not, List, [], ◌∷◌, Some, None, Option, refl, sym, ap, ◌∙◌, arith, map}
use Rattle.std.specs.List.{find, filter, AllByRecursion}
use Rattle.std.specs.Map.{keys_of, values_of, lookup, remove_entry}
use Rattle.std.specs.BTreeMap.{insert_entry, is_at}
use Rattle.std.specs.List.Sorted.{IsStrictlySortedBy}
use Rattle.std.specs.Cmp.{IsTotalOrder}
use Rattle.std.specs.Ordering.{is_eq, is_lt, match_ordering}
use Rattle.std.specs.declared.cmp.Ordering.{Ordering}
use Rattle.std.specs.declared.cmp.Ordering.TheVariants.{Less, Equal, Greater}
use Rattle.std.proofs.lemmas.Map.Keys.{sorted_head, sorted_tail}

-- ---- tests and lists

-- nothing is found: the first element fails the test, and nothing is found among the others
pub cond_none : {X : Type 0} (b : Bool) (x : X) (o : Option X) → cond b (Some x) o ≡ None → (b ≡ false) × (o ≡ None)
cond_none true x o h = cc
cond_none false x o h = (refl, h)

module _ {X : Type 0} where
  -- what isn't found isn't taken out
  pub filter_none : (t : X → Bool) (xs : List X) → find t xs ≡ None → filter (λ x. not (t x)) xs ≡ xs
  filter_none t [] h = refl
  filter_none t (x ∷ xs) h =
      let parts = cond_none (t x) x (find t xs) h in
      rw parts.0 (ap (λ r. x ∷ r) (filter_none t xs parts.1))

  -- what was taken out isn't found
  pub find_without : (t : X → Bool) (xs : List X) → find t (filter (λ x. not (t x)) xs) ≡ None
  find_without t [] = refl
  find_without t (x ∷ xs) = grind (arith, find_without t xs)

  -- a filter that keeps what a test passes keeps what it finds
  pub find_filter : (t p : X → Bool) → ((x : X) → t x ≡ true → p x ≡ true) → (xs : List X) → find t (filter p xs) ≡ find t xs
  find_filter t p h [] = refl
  find_filter t p h (x ∷ xs) = grind (arith, find_filter t p h xs, h x)

-- ---- a map's pairs

module _ {K X : Type 0} (cmp : K → K → Ordering) (key : X → K) where
  -- each entry under its key
  abbrev pub keyed : List X → List (K × X)
  keyed xs = map (λ x. (key x, x)) xs

  -- insert puts x before the first entry whose key is greater
  pub record Inserts (insert : X → List X → List X) : Type 0 where
    pub empty : (x : X) → insert x [] ≡ x ∷ []
    pub place : (x y : X) (ys : List X) → insert x (y ∷ ys) ≡ cond (is_lt (cmp (key x) (key y))) (x ∷ y ∷ ys) (y ∷ insert x ys)

  pub values_of-keyed : (xs : List X) → values_of (keyed xs) ≡ xs
  values_of-keyed [] = refl
  values_of-keyed (x ∷ xs) = ap (λ r. x ∷ r) (values_of-keyed xs)

  pub keys_of-keyed : (xs : List X) → keys_of (keyed xs) ≡ map key xs
  keys_of-keyed [] = refl
  keys_of-keyed (x ∷ xs) = ap (λ r. key x ∷ r) (keys_of-keyed xs)

  pub lookup-keyed : (t : K → Bool) (xs : List X) → lookup t (keyed xs) ≡ find (λ x. t (key x)) xs
  lookup-keyed t [] = refl
  lookup-keyed t (x ∷ xs) = ap (λ r. cond (t (key x)) (Some x) r) (lookup-keyed t xs)

  ordering_cond : {A : Type 0} (o : Ordering) (p q r : A) → is_eq o ≡ false → match_ordering o p q r ≡ cond (is_lt o) p r
  ordering_cond Less p q r h = refl
  ordering_cond Equal p q r h = cc
  ordering_cond Greater p q r h = refl

  cond_ap : {A B : Type 0} (f : A → B) (b : Bool) (x y : A) → f (cond b x y) ≡ cond b (f x) (f y)
  cond_ap f true x y = refl
  cond_ap f false x y = refl

  pub keyed-insert : {insert : X → List X → List X} → Inserts insert → (x : X) (ys : List X) → find (λ y. is_at (cmp (key x)) (key y)) ys ≡ None → insert_entry cmp (keyed ys) (key x) x ≡ keyed (insert x ys)
  keyed-insert i x [] h = sym (ap keyed (i.empty x))
  keyed-insert {insert} i x (y ∷ ys) h =
      let parts = cond_none (is_at (cmp (key x)) (key y)) y (find (λ z. is_at (cmp (key x)) (key z)) ys) h in
      ordering_cond (cmp (key x) (key y)) _ _ _ parts.0
      ∙ ap (λ r. cond (is_lt (cmp (key x) (key y))) ((key x, x) ∷ keyed (y ∷ ys)) ((key y, y) ∷ r)) (keyed-insert i x ys parts.1)
      ∙ sym (cond_ap keyed (is_lt (cmp (key x) (key y))) (x ∷ y ∷ ys) (y ∷ insert x ys))
      ∙ sym (ap keyed (i.place x y ys))

  -- a key below all of a list's isn't there
  none_above : (k : K) (xs : List X) → AllByRecursion (λ q. cmp k q ≡ Less) (map key xs) → find (λ x. is_at (cmp k) (key x)) xs ≡ None
  none_above k [] h = refl
  none_above k (x ∷ xs) h = rw h.0 (none_above k xs h.1)

  above_weaker : (k q : K) (xs : List K) → IsTotalOrder cmp → cmp k q ≡ Equal → AllByRecursion (λ r. cmp q r ≡ Less) xs → AllByRecursion (λ r. cmp k r ≡ Less) xs
  above_weaker k q [] o e h = tt
  above_weaker k q (x ∷ xs) o e h = (o.congr k q x e ∙ h.0, above_weaker k q xs o e h.1)

  pub keyed-remove : IsTotalOrder cmp → (k : K) (xs : List X) → IsStrictlySortedBy cmp (map key xs) → remove_entry (is_at (cmp k)) (keyed xs) ≡ keyed (filter (λ x. not (is_at (cmp k) (key x))) xs)
  keyed-remove o k [] s = refl
  keyed-remove o k (x ∷ xs) s = remove_by (cmp k (key x)) refl (keyed-remove o k xs (sorted_tail cmp (key x) (map key xs) s))
    where
      remove_by : (r : Ordering) → cmp k (key x) ≡ r → remove_entry (is_at (cmp k)) (keyed xs) ≡ keyed (filter (λ y. not (is_at (cmp k) (key y))) xs)
          → remove_entry (is_at (cmp k)) (keyed (x ∷ xs)) ≡ keyed (filter (λ y. not (is_at (cmp k) (key y))) (x ∷ xs))
      remove_by Less e more = rw e (ap (λ r. (key x, x) ∷ r) more)
      remove_by Equal e more = rw e (sym (ap keyed (filter_none (λ y. is_at (cmp k) (key y)) xs (none_above k xs (above_weaker k (key x) (map key xs) o e (sorted_head cmp (key x) (map key xs) s))))))
      remove_by Greater e more = rw e (ap (λ r. (key x, x) ∷ r) more)

  -- ---- an insert into a list, where the entry is new

  module _ {insert : X → List X → List X} (i : Inserts insert) where
    pub find-insert : (t : X → Bool) (x : X) (ys : List X) → (t x ≡ true → find t ys ≡ None) → find t (insert x ys) ≡ cond (t x) (Some x) (find t ys)
    find-insert t x [] h = ap (find t) (i.empty x)
    find-insert t x (y ∷ ys) h =
        ap (find t) (i.place x y ys) ∙ by_place (is_lt (cmp (key x) (key y))) (find-insert t x ys (λ e. (cond_none (t y) y (find t ys) (h e)).1))
      where
        by_place : (b : Bool) → find t (insert x ys) ≡ cond (t x) (Some x) (find t ys) → find t (cond b (x ∷ y ∷ ys) (y ∷ insert x ys)) ≡ cond (t x) (Some x) (find t (y ∷ ys))
        by_place true more = refl
        by_place false more = grind (arith, more, h, cond_none (t y) y (find t ys))

    -- an insert of what is taken out again
    pub without-insert : (t : X → Bool) (x : X) (ys : List X) → t x ≡ true → find t ys ≡ None → filter (λ y. not (t y)) (insert x ys) ≡ ys
    without-insert t x [] e h = ap (filter (λ y. not (t y))) (i.empty x) ∙ rw e refl
    without-insert t x (y ∷ ys) e h =
        let parts = cond_none (t y) y (find t ys) h in
        ap (filter (λ z. not (t z))) (i.place x y ys) ∙ by_place (is_lt (cmp (key x) (key y))) parts.0 (without-insert t x ys e parts.1)
      where
        by_place : (b : Bool) → t y ≡ false → filter (λ z. not (t z)) (insert x ys) ≡ ys → filter (λ z. not (t z)) (cond b (x ∷ y ∷ ys) (y ∷ insert x ys)) ≡ y ∷ ys
        by_place true n more = rw e (filter_none t (y ∷ ys) h)
        by_place false n more = rw n (ap (λ r. y ∷ r) more)

    insert_below : (x : X) (ys : List X) → AllByRecursion (λ q. cmp (key x) q ≡ Less) (map key ys) → insert x ys ≡ x ∷ ys
    insert_below x [] h = i.empty x
    insert_below x (y ∷ ys) h = i.place x y ys ∙ rw h.0 refl

    below_filter : (P : K → Type 0) (p : X → Bool) (ys : List X) → AllByRecursion P (map key ys) → AllByRecursion P (map key (filter p ys))
    below_filter P p [] h = tt
    below_filter P p (y ∷ ys) h = by_test (p y) (below_filter P p ys h.1)
      where
        by_test : (b : Bool) → AllByRecursion P (map key (filter p ys)) → AllByRecursion P (map key (cond b (y ∷ filter p ys) (filter p ys)))
        by_test true more = (h.0, more)
        by_test false more = more

    below_trans : (k q : K) (xs : List K) → IsTotalOrder cmp → cmp k q ≡ Less → AllByRecursion (λ r. cmp q r ≡ Less) xs → AllByRecursion (λ r. cmp k r ≡ Less) xs
    below_trans k q [] o e h = tt
    below_trans k q (x ∷ xs) o e h = (o.trans k q x e h.0, below_trans k q xs o e h.1)

    is_less : (o : Ordering) → is_lt o ≡ true → o ≡ Less
    is_less Less h = refl
    is_less Equal h = cc
    is_less Greater h = cc

    -- a filter of a list in order, and the new entry where it passes
    pub filter-insert : IsTotalOrder cmp → (p : X → Bool) (x : X) (ys : List X) → IsStrictlySortedBy cmp (map key ys) → filter p (insert x ys) ≡ cond (p x) (insert x (filter p ys)) (filter p ys)
    filter-insert o p x [] s = ap (filter p) (i.empty x) ∙ ap (λ r. cond (p x) r []) (sym (i.empty x))
    filter-insert o p x (y ∷ ys) s =
        ap (filter p) (i.place x y ys) ∙ by_place (is_lt (cmp (key x) (key y))) refl (filter-insert o p x ys (sorted_tail cmp (key y) (map key ys) s))
      where
        all_above : cmp (key x) (key y) ≡ Less → AllByRecursion (λ r. cmp (key x) r ≡ Less) (map key (y ∷ ys))
        all_above e = (e, below_trans (key x) (key y) (map key ys) o e (sorted_head cmp (key y) (map key ys) s))

        later : (b : Bool) → is_lt (cmp (key x) (key y)) ≡ false → filter p (insert x ys) ≡ cond (p x) (insert x (filter p ys)) (filter p ys)
            → cond b (y ∷ filter p (insert x ys)) (filter p (insert x ys)) ≡ cond (p x) (insert x (cond b (y ∷ filter p ys) (filter p ys))) (cond b (y ∷ filter p ys) (filter p ys))
        later true e more = ap (λ r. y ∷ r) more ∙ cond_ap (λ r. y ∷ r) (p x) (insert x (filter p ys)) (filter p ys) ∙ ap (λ r. cond (p x) r (y ∷ filter p ys)) (sym (i.place x y (filter p ys) ∙ rw e refl))
        later false e more = more

        by_place : (b : Bool) → is_lt (cmp (key x) (key y)) ≡ b → filter p (insert x ys) ≡ cond (p x) (insert x (filter p ys)) (filter p ys)
            → filter p (cond b (x ∷ y ∷ ys) (y ∷ insert x ys)) ≡ cond (p x) (insert x (filter p (y ∷ ys))) (filter p (y ∷ ys))
        by_place true e more = ap (λ r. cond (p x) r (filter p (y ∷ ys))) (sym (insert_below x (filter p (y ∷ ys)) (below_filter (λ r. cmp (key x) r ≡ Less) p (y ∷ ys) (all_above (is_less (cmp (key x) (key y)) e)))))
        by_place false e more = later (p y) e more
