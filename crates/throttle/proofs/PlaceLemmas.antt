-- The places of cells and the entries there, after an entry came or went.
use Rattle.std.proofs.Common.{◌≡◌, ℕ, suc, ◌+◌, ◌<◌, ◌≤◌, nat_lt, Bool, true, false, cond, List, [], ◌∷◌, Option, Some, None, refl, sym, ap, ◌∙◌, subst, arith, length}
use Rattle.std.specs.BTreeMap.{insert_entry, is_at}
use Rattle.std.specs.List.{find, AllByRecursion}
use Rattle.std.specs.List.Sorted.{IsStrictlySortedBy}
use Rattle.std.specs.Map.{keys_of, lookup, remove_entry}
use Rattle.std.specs.Ordering.{is_eq, is_gt, nat_cmp, match_ordering}
use Rattle.std.specs.declared.cmp.Ordering.{Ordering}
use Rattle.std.specs.declared.cmp.Ordering.TheVariants.{Less, Equal, Greater}
use Rattle.std.proofs.lemmas.Bool.Decides.{nat_tests}
use Rattle.std.proofs.lemmas.Cmp.{tied_itself}
use Rattle.std.proofs.lemmas.Map.Keys.{sorted_head, sorted_tail}
use Rattle.std.proofs.lemmas.Map.Lookups.{exact_pairs, exact_unsigned}
use Rattle.std.proofs.lemmas.Option.{same_Some}
use Rattle.kinds.proofs.CellLemmas.{cell_total, cell_tied}
use Rattle.kinds.specs.Cells.{cell_cmp, has_start, greatest_in, greatest_at, put_start, later_starts}
use Rattle.kinds.specs.declared.cell.Cell.{Cell}
use Rattle.kinds.specs.declared.cell.StartEntry.{StartEntry}
use Rattle.lists.specs.Entries.{pair_cmp}
use Rattle.throttle.specs.Places.{Places, Placed, entry_of, entries_of, place_at, entry_at, AreLinked, IsIndexed, AreFound, Changes, Settles}

-- ---- tests

tied : (o : Ordering) → is_eq o ≡ true → o ≡ Equal
tied Less h = cc
tied Equal h = refl
tied Greater h = cc

same_cell : (c d : Cell) → is_at (cell_cmp c) d ≡ true → c ≡ d
same_cell c d h = cell_tied c d (tied (cell_cmp c d) h)

at_itself : (c : Cell) → is_at (cell_cmp c) c ≡ true
at_itself c = ap is_eq (tied_itself cell_total c)

same_place : (p q : ℕ × ℕ) → is_at (pair_cmp p) q ≡ true → p ≡ q
same_place p q h = exact_pairs nat_cmp nat_cmp exact_unsigned exact_unsigned p q (tied (pair_cmp p q) h)

at_place : (p : ℕ × ℕ) → is_at (pair_cmp p) p ≡ true
at_place p = grind (arith, nat_tests)

denied : (b : Bool) → (b ≡ true → ⊥) → b ≡ false
denied true h = absurd (h refl)
denied false h = refl

-- what is there after something went wasn't what went
kept : {X : Type 0} (b : Bool) (o : Option X) (x : X) → cond b None o ≡ Some x → (b ≡ false) × (o ≡ Some x)
kept true o x h = cc
kept false o x h = (refl, h)

none_some : {X : Type 0} (o : Option X) (x : X) → o ≡ None → o ≡ Some x → ⊥
none_some o x n s = let no = sym n ∙ s in cc

-- ---- an entry went, came, or came over one of its cell

module _ {place now : Cell → Option (ℕ × ℕ)} {entry new : ℕ × ℕ → Option StartEntry} {next : ℕ} where
  pub linked_left : (c : Cell) (l : ℕ × ℕ) → AreLinked place entry next → place c ≡ Some l
      → ((d : Cell) → now d ≡ cond (is_at (cell_cmp c) d) None (place d)) → ((q : ℕ × ℕ) → new q ≡ cond (is_at (pair_cmp l) q) None (entry q))
      → AreLinked now new next
  linked_left c l k there u v = record {
    stands = λ d q h.
        let was = kept (is_at (cell_cmp c) d) (place d) q (sym (u d) ∙ h) in
        let other : is_at (pair_cmp l) q ≡ false = denied (is_at (pair_cmp l) q) (λ t.
        let same = same_Some (entry_of (c, l)) (entry_of (d, q)) (sym (k.stands c l there) ∙ ap entry (same_place l q t) ∙ k.stands d q was.1) in
        let both = sym was.0 ∙ subst (λ r. is_at (cell_cmp c) r ≡ true) (ap (λ (e : StartEntry). e.cell) same) (at_itself c) in cc) in
        v q ∙ rw other (k.stands d q was.1);
    placed = λ q e h.
        let was = kept (is_at (pair_cmp l) q) (entry q) e (sym (v q) ∙ h) in
        let at = k.placed q e was.1 in
        let other : is_at (cell_cmp c) e.cell ≡ false = denied (is_at (cell_cmp c) e.cell) (λ t.
        let same = same_Some l q (sym there ∙ ap place (same_cell c e.cell t) ∙ at) in
        let both = sym was.0 ∙ subst (λ r. is_at (pair_cmp l) r ≡ true) same (at_place l) in cc) in
        u e.cell ∙ rw other at;
    below = λ q e h. k.below q e (kept (is_at (pair_cmp l) q) (entry q) e (sym (v q) ∙ h)).1;
  }

  pub linked_come : (c : Cell) (p : ℕ × ℕ) → AreLinked place entry next → place c ≡ None → p.1 ≡ next
      → ((d : Cell) → now d ≡ cond (is_at (cell_cmp c) d) (Some p) (place d)) → ((q : ℕ × ℕ) → new q ≡ cond (is_at (pair_cmp p) q) (Some (entry_of (c, p))) (entry q))
      → AreLinked now new (next + 1)
  linked_come c p k none n u v = record {
    stands = λ d q h. by_cell d q (is_at (cell_cmp c) d) refl (sym (u d) ∙ h);
    placed = λ q e h. by_place q e (is_at (pair_cmp p) q) refl (sym (v q) ∙ h);
    below = λ q e h. by_number q e (is_at (pair_cmp p) q) refl (sym (v q) ∙ h);
  }
    where
      differs : (q : ℕ × ℕ) (e : StartEntry) → entry q ≡ Some e → is_at (pair_cmp p) q ≡ false
      differs q e h = denied (is_at (pair_cmp p) q) (λ t.
          let lower = subst (λ (r : ℕ × ℕ). r.1 < next) (sym (same_place p q t)) (k.below q e h) in
          omega (arith, n, lower))

      by_cell : (d : Cell) (q : ℕ × ℕ) (b : Bool) → is_at (cell_cmp c) d ≡ b → cond b (Some p) (place d) ≡ Some q → new q ≡ Some (entry_of (d, q))
      by_cell d q true t h =
          let same = same_Some p q h in
          v q ∙ ap (λ r. cond (is_at (pair_cmp p) r) (Some (entry_of (c, p))) (entry r)) (sym same) ∙ rw (at_place p) (ap (λ r. Some (entry_of (r, p))) (same_cell c d t) ∙ ap (λ r. Some (entry_of (d, r))) same)
      by_cell d q false t h = v q ∙ rw (differs q (entry_of (d, q)) (k.stands d q h)) (k.stands d q h)

      by_place : (q : ℕ × ℕ) (e : StartEntry) (b : Bool) → is_at (pair_cmp p) q ≡ b → cond b (Some (entry_of (c, p))) (entry q) ≡ Some e → now e.cell ≡ Some q
      by_place q e true t h =
          let same = same_Some (entry_of (c, p)) e h in
          ap now (sym (ap (λ (r : StartEntry). r.cell) same)) ∙ u c ∙ rw (at_itself c) (ap Some (same_place p q t))
      by_place q e false t h =
          let other : is_at (cell_cmp c) e.cell ≡ false = denied (is_at (cell_cmp c) e.cell) (λ a. none_some (place c) q none (ap place (same_cell c e.cell a) ∙ k.placed q e h)) in
          u e.cell ∙ rw other (k.placed q e h)

      by_number : (q : ℕ × ℕ) (e : StartEntry) (b : Bool) → is_at (pair_cmp p) q ≡ b → cond b (Some (entry_of (c, p))) (entry q) ≡ Some e → q.1 < next + 1
      by_number q e true t h = let same = ap (λ (r : ℕ × ℕ). r.1) (same_place p q t) in omega (arith, n, same)
      by_number q e false t h = let lower = k.below q e h in omega (arith, lower)

  -- its place had come and went again, as there was no memory for the cell
  pub linked_back : (p : ℕ × ℕ) (x : StartEntry) → AreLinked place entry next → p.1 ≡ next
      → ((d : Cell) → now d ≡ place d) → ((q : ℕ × ℕ) → new q ≡ cond (is_at (pair_cmp p) q) None (cond (is_at (pair_cmp p) q) (Some x) (entry q)))
      → AreLinked now new (next + 1)
  linked_back p x k n u v = record {
    stands = λ d q h. same q ∙ k.stands d q (sym (u d) ∙ h);
    placed = λ q e h. u e.cell ∙ k.placed q e (sym (same q) ∙ h);
    below = λ q e h. let lower = k.below q e (sym (same q) ∙ h) in omega (arith, lower);
  }
    where
      absent : (q : ℕ × ℕ) (o : Option StartEntry) → is_at (pair_cmp p) q ≡ true → entry q ≡ o → None ≡ o
      absent q None t h = refl
      absent q (Some e) t h =
          let lower = subst (λ (r : ℕ × ℕ). r.1 < next) (sym (same_place p q t)) (k.below q e h) in
          absurd (omega (arith, n, lower))

      by_test : (q : ℕ × ℕ) (b : Bool) → is_at (pair_cmp p) q ≡ b → cond b None (cond b (Some x) (entry q)) ≡ entry q
      by_test q true t = absent q (entry q) t refl
      by_test q false t = refl

      same : (q : ℕ × ℕ) → new q ≡ entry q
      same q = v q ∙ by_test q (is_at (pair_cmp p) q) refl

module _ {place now : Cell → Option (ℕ × ℕ)} {entry new : ℕ × ℕ → Option StartEntry} {next : ℕ} where
  -- the cell had a place, which it leaves
  pub linked_over : (c : Cell) (l p : ℕ × ℕ) → AreLinked place entry next → Some l ≡ place c → p.1 ≡ next
      → ((d : Cell) → now d ≡ cond (is_at (cell_cmp c) d) (Some p) (place d))
      → ((q : ℕ × ℕ) → new q ≡ cond (is_at (pair_cmp l) q) None (cond (is_at (pair_cmp p) q) (Some (entry_of (c, p))) (entry q)))
      → AreLinked now new (next + 1)
  linked_over c l p k there n u v =
      linked_come {place = λ d. cond (is_at (cell_cmp c) d) None (place d)} {entry = λ q. cond (is_at (pair_cmp l) q) None (entry q)} c p
      (linked_left c l k (sym there) (λ d. refl) (λ q. refl)) (ap (λ b. cond b None (place c)) (at_itself c)) n
      (λ d. u d ∙ twice (is_at (cell_cmp c) d) (Some p) (place d)) (λ q. v q ∙ turned q)
    where
      twice : {X : Type 0} (b : Bool) (x o : Option X) → cond b x o ≡ cond b x (cond b None o)
      twice true x o = refl
      twice false x o = refl

      lower : l.1 < next
      lower = k.below l (entry_of (c, l)) (k.stands c l (sym there))

      by_tests : (q : ℕ × ℕ) (a b : Bool) → is_at (pair_cmp l) q ≡ a → is_at (pair_cmp p) q ≡ b
          → cond a None (cond b (Some (entry_of (c, p))) (entry q)) ≡ cond b (Some (entry_of (c, p))) (cond a None (entry q))
      by_tests q true true s t = let same = ap (λ (r : ℕ × ℕ). r.1) (same_place l q s ∙ sym (same_place p q t)) in absurd (omega (arith, n, lower, same))
      by_tests q true false s t = refl
      by_tests q false b s t = refl

      turned : (q : ℕ × ℕ) → cond (is_at (pair_cmp l) q) None (cond (is_at (pair_cmp p) q) (Some (entry_of (c, p))) (entry q))
          ≡ cond (is_at (pair_cmp p) q) (Some (entry_of (c, p))) (cond (is_at (pair_cmp l) q) None (entry q))
      turned q = by_tests q (is_at (pair_cmp l) q) (is_at (pair_cmp p) q) refl refl

-- ---- the same of the maps

module _ (old new : Places) (es out : Placed) (n : ℕ) (k : IsIndexed old es n) where
  pub indexed_left : (c : Cell) (l : ℕ × ℕ) → place_at old c ≡ Some l → ((d : Cell) → place_at new d ≡ cond (is_at (cell_cmp c) d) None (place_at old d))
      → IsStrictlySortedBy cell_cmp (keys_of new) → Changes l None es out → IsIndexed new out n
  indexed_left c l there u s v = record { ordered = s; linked = linked_left c l k.linked there u v }

  module _ (c : Cell) (p : ℕ × ℕ) (mid : Placed) (m : ℕ) (is : p.1 ≡ n) (more : m ≡ n + 1) (u : Changes p (Some (entry_of (c, p))) es mid) where
    pub indexed_over : (l : ℕ × ℕ) → Settles c p (Some l) old new → Changes l None mid out → IsIndexed new out m
    indexed_over l s v = record {
      ordered = s.ordered;
      linked = subst (AreLinked (place_at new) (entry_at out)) (sym more) (linked_over c l p k.linked s.had is s.placed (λ q. v q ∙ ap (cond (is_at (pair_cmp l) q) None) (u q)));
    }

    pub indexed_new : Settles c p None old new → out ≡ mid → IsIndexed new out m
    indexed_new s same = record {
      ordered = s.ordered;
      linked = subst (AreLinked (place_at new) (entry_at out)) (sym more) (linked_come c p k.linked (sym s.had) is s.placed (λ q. ap (λ (r : Placed). entry_at r q) same ∙ u q));
    }

    pub indexed_back : new ≡ old → Changes p None mid out → IsIndexed new out m
    indexed_back same v = record {
      ordered = subst (λ (r : Places). IsStrictlySortedBy cell_cmp (keys_of r)) (sym same) k.ordered;
      linked = subst (AreLinked (place_at new) (entry_at out)) (sym more)
          (linked_back p (entry_of (c, p)) k.linked is (λ d. ap (λ (r : Places). place_at r d) same) (λ q. v q ∙ ap (cond (is_at (pair_cmp p) q) None) (u q)));
    }

-- ---- the list of entries

abbrev pub greatest_of_place : Option (ℕ × ℕ) → ℕ
greatest_of_place None = 0
greatest_of_place (Some p) = p.0

pub place_found : (c : Cell) (places : Places) → greatest_of_place (place_at places c) ≡ greatest_at c (entries_of places)
place_found c [] = refl
place_found c (p ∷ ps) = by_test (is_at (cell_cmp c) p.0) (place_found c ps)
  where
    by_test : (b : Bool) → greatest_of_place (place_at ps c) ≡ greatest_at c (entries_of ps)
        → greatest_of_place (cond b (Some p.1) (place_at ps c)) ≡ greatest_in (cond b (Some (entry_of p)) (find (has_start c) (entries_of ps)))
    by_test true more = refl
    by_test false more = more

pub place_put : (c : Cell) (p : ℕ × ℕ) (places : Places) → entries_of (insert_entry cell_cmp places c p) ≡ put_start (entry_of (c, p)) (entries_of places)
place_put c p [] = refl
place_put c p (e ∷ es) = by_order (cell_cmp c e.0) refl (place_put c p es)
  where
    by_order : (o : Ordering) → cell_cmp c e.0 ≡ o → entries_of (insert_entry cell_cmp es c p) ≡ put_start (entry_of (c, p)) (entries_of es)
        → entries_of (match_ordering o ((c, p) ∷ e ∷ es) ((e.0, p) ∷ es) (e ∷ insert_entry cell_cmp es c p))
        ≡ match_ordering o (entry_of (c, p) ∷ entry_of e ∷ entries_of es) (entry_of (c, p) ∷ entries_of es) (entry_of e ∷ put_start (entry_of (c, p)) (entries_of es))
    by_order Less h more = refl
    by_order Equal h more = ap (λ d. entry_of (d, p) ∷ entries_of es) (sym (cell_tied c e.0 h))
    by_order Greater h more = ap (λ r. entry_of e ∷ r) more

-- an entry that tells nothing goes, and what tells stays
pub place_gone : (t : Cell → Bool) (m : ℕ) (l : ℕ × ℕ) (places : Places) → lookup t places ≡ Some l → nat_lt m l.0 ≡ false
    → (later_starts m (entries_of (remove_entry t places)) ≡ later_starts m (entries_of places)) × (length (entries_of (remove_entry t places)) < length (entries_of places))
place_gone t m l [] h f = cc
place_gone t m l (p ∷ ps) h f = by_test (t p.0) h (place_gone t m l ps)
  where
    later : (b : Bool) (x : StartEntry) (xs ys : List StartEntry) → xs ≡ ys → cond b (x ∷ xs) xs ≡ cond b (x ∷ ys) ys
    later b x xs ys e = ap (λ r. cond b (x ∷ r) r) e

    dropped : p.1 ≡ l → later_starts m (entries_of ps) ≡ cond (nat_lt m p.1.0) (entry_of p ∷ later_starts m (entries_of ps)) (later_starts m (entries_of ps))
    dropped e = rw (ap (λ (q : ℕ × ℕ). nat_lt m q.0) e ∙ f) refl

    one_more : (n : ℕ) → n < suc n
    one_more n = omega arith

    more_fewer : (n k : ℕ) → n < k → suc n < suc k
    more_fewer n k h = omega (arith, h)

    by_test : (b : Bool) → cond b (Some p.1) (lookup t ps) ≡ Some l
        → (lookup t ps ≡ Some l → nat_lt m l.0 ≡ false → (later_starts m (entries_of (remove_entry t ps)) ≡ later_starts m (entries_of ps)) × (length (entries_of (remove_entry t ps)) < length (entries_of ps)))
        → (later_starts m (entries_of (cond b ps (p ∷ remove_entry t ps))) ≡ later_starts m (entries_of (p ∷ ps))) × (length (entries_of (cond b ps (p ∷ remove_entry t ps))) < length (entries_of (p ∷ ps)))
    by_test true h more = (dropped (same_Some p.1 l h), one_more (length (entries_of ps)))
    by_test false h more = let both = more h f in (later (nat_lt m p.1.0) (entry_of p) _ _ both.0, more_fewer _ _ both.1)

-- ---- each entry is found

found_each : (places : Places) → IsStrictlySortedBy cell_cmp (keys_of places) → AllByRecursion (λ (p : Cell × (ℕ × ℕ)). place_at places p.0 ≡ Some p.1) places
found_each [] s = tt
found_each (p ∷ ps) s = (
  ap (λ b. cond b (Some p.1) (place_at ps p.0)) (at_itself p.0),
  past ps (sorted_head cell_cmp p.0 (keys_of ps) s) (found_each ps (sorted_tail cell_cmp p.0 (keys_of ps) s)),
)
  where
    past : (qs : Places) → AllByRecursion (λ k. cell_cmp p.0 k ≡ Less) (keys_of qs) → AllByRecursion (λ (q : Cell × (ℕ × ℕ)). place_at ps q.0 ≡ Some q.1) qs
        → AllByRecursion (λ (q : Cell × (ℕ × ℕ)). place_at (p ∷ ps) q.0 ≡ Some q.1) qs
    past [] a h = tt
    past (q ∷ qs) a h =
        let other : is_at (cell_cmp q.0) p.0 ≡ false = denied (is_at (cell_cmp q.0) p.0) (λ t.
        let clash = sym a.0 ∙ ap (cell_cmp p.0) (same_cell q.0 p.0 t) ∙ tied_itself cell_total p.0 in cc) in
        (rw other h.0, past qs a.1 h.1)

pub all_found : (places : Places) (entries : Placed) (next : ℕ) → IsIndexed places entries next → AreFound entries places
all_found places entries next k = each places (found_each places k.ordered)
  where
    each : (ps : Places) → AllByRecursion (λ (p : Cell × (ℕ × ℕ)). place_at places p.0 ≡ Some p.1) ps → AreFound entries ps
    each [] h = tt
    each (p ∷ ps) h = (k.linked.stands p.0 p.1 h.0, each ps h.1)

-- all entries are after the moment
pub all_later : (m : ℕ) (places : Places) (entries : Placed) (next : ℕ) → IsIndexed places entries next
    → ((p : ℕ × ℕ) (e : StartEntry) → entry_at entries p ≡ Some e → nat_lt m p.0 ≡ true) → entries_of places ≡ later_starts m (entries_of places)
all_later m places entries next k late = each places (all_found places entries next k)
  where
    each : (ps : Places) → AreFound entries ps → entries_of ps ≡ later_starts m (entries_of ps)
    each [] h = refl
    each (p ∷ ps) h = sym (ap (λ b. cond b (entry_of p ∷ later_starts m (entries_of ps)) (later_starts m (entries_of ps))) (late p.1 (entry_of p) h.0) ∙ ap (λ r. entry_of p ∷ r) (sym (each ps h.1)))

-- ---- the least place

pub none_held : (entries : Placed) → (0 < length entries → false ≡ true) → (p : ℕ × ℕ) (e : StartEntry) → entry_at entries p ≡ Some e → ⊥
none_held [] empty p e h = none_some None e refl h
none_held (x ∷ xs) empty p e h = let clash : false ≡ true = empty (grind arith) in cc

pub not_later : (m l : ℕ) → l ≤ m → nat_lt m l ≡ false
not_later m l h = grind (arith, nat_tests, h)

pub later_than : (m : ℕ) (p q : ℕ × ℕ) → m < p.0 → is_gt (pair_cmp p q) ≡ false → nat_lt m q.0 ≡ true
later_than m p q h g = by_parts p.0 p.1 q.0 q.1 h g
  where
    by_parts : (a b x y : ℕ) → m < a → is_gt (pair_cmp (a, b) (x, y)) ≡ false → nat_lt m x ≡ true
    by_parts a b x y h g = grind (arith, nat_tests, h)
