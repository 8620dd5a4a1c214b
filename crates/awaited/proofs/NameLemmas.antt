-- Pairs of names and numbers when one comes or goes.
use Rattle.std.proofs.Common.{◌≡◌, ℕ, ◌==◌, Bool, true, false, cond, not, ◌&&◌, ◌||◌, List, [], ◌∷◌, ◌++◌, Some, None, Option, refl, sym, ap, ◌∙◌, eqb-true, arith, ◌<◌, ◌≤◌, ◌+◌, length, take, get_or, map}
use Rattle.std.specs.List.{list_any}
use Rattle.std.specs.BTreeMap.{is_at}
use Rattle.std.specs.Ordering.{is_gt}
use Rattle.std.proofs.lemmas.Bool.Decides.{nat_tests}
use Rattle.std.proofs.lemmas.List.{map_more, take_all}
use Rattle.lists.specs.Entries.{pair_cmp}
use Rattle.ordered.proofs.Apart.{number_tells}
use Rattle.ordered.proofs.Listed.{no_other}
use Rattle.ordered.proofs.Sorted.{pair_at}
use Rattle.awaited.specs.Named.{is_in, is_one, has_pair, IsNamed, Renames}

-- what a set's `updates` says of a pair that came or went
abbrev pub Changes : ℕ → ℕ → Bool → List (ℕ × ℕ) → List (ℕ × ℕ) → Type 0
Changes name number b old new = (q : ℕ × ℕ) → list_any (is_at (pair_cmp q)) new ≡ cond (is_at (pair_cmp (name, number)) q) b (list_any (is_at (pair_cmp q)) old)

pub renames_as : (number : ℕ) (named same : ℕ → Bool) (old new : List (ℕ × ℕ)) → ((name : ℕ) → named name ≡ same name) → Renames number named old new → Renames number same old new
renames_as number named same old new h r name other = r name other ∙ ap (λ b. cond (number == other) b (has_pair old name other)) (h name)

pub renames_none : (number : ℕ) (old : List (ℕ × ℕ)) → Renames number (λ name. has_pair old name number) old old
renames_none number old name other = by_test (number == other) refl
  where
    by_test : (b : Bool) → (number == other) ≡ b → has_pair old name other ≡ cond b (has_pair old name number) (has_pair old name other)
    by_test true t = ap (has_pair old name) (sym (eqb-true number other t))
    by_test false f = refl

module _ (number : ℕ) (named : ℕ → Bool) (old mid new : List (ℕ × ℕ)) (r : Renames number named old mid) (a : ℕ) where
  changed : (b : Bool) → Changes a number b mid new → (name other : ℕ) → has_pair new name other ≡ cond ((a == name) && (number == other)) b (cond (number == other) (named name) (has_pair old name other))
  changed b u name other =
      u (name, other) ∙ ap (λ t. cond t b (has_pair mid name other)) (pair_at a number name other)
      ∙ ap (cond ((a == name) && (number == other)) b) (r name other)

  pub removed : Changes a number false mid new → Renames number (λ name. not (name == a) && named name) old new
  removed u name other = changed false u name other ∙ by_tests (a == name) (name == a) (number == other) (number_tells.flip a name)
    where
      by_tests : (x y z : Bool) → x ≡ y → cond (x && z) false (cond z (named name) (has_pair old name other)) ≡ cond z (not y && named name) (has_pair old name other)
      by_tests true true true h = refl
      by_tests true true false h = refl
      by_tests true false z h = cc
      by_tests false true z h = cc
      by_tests false false true h = refl
      by_tests false false false h = refl

  pub inserted : Changes a number true mid new → Renames number (λ name. (name == a) || named name) old new
  inserted u name other = changed true u name other ∙ by_tests (a == name) (name == a) (number == other) (number_tells.flip a name)
    where
      by_tests : (x y z : Bool) → x ≡ y → cond (x && z) true (cond z (named name) (has_pair old name other)) ≡ cond z (y || named name) (has_pair old name other)
      by_tests true true true h = refl
      by_tests true true false h = refl
      by_tests true false z h = cc
      by_tests false true z h = cc
      by_tests false false true h = refl
      by_tests false false false h = refl

in_more : (name a : ℕ) (names : List ℕ) → is_in name (names ++ a ∷ []) ≡ (is_in name names || (name == a))
in_more name a [] = by_test (name == a)
  where
    by_test : (b : Bool) → (b || false) ≡ b
    by_test true = refl
    by_test false = refl
in_more name a (n ∷ ns) = ap (λ b. (name == n) || b) (in_more name a ns) ∙ by_test (name == n)
  where
    by_test : (b : Bool) → (b || (is_in name ns || (name == a))) ≡ ((b || is_in name ns) || (name == a))
    by_test true = refl
    by_test false = refl

-- one name more went
pub unnamed_more : (number a : ℕ) (names : List ℕ) (old mid new : List (ℕ × ℕ)) → Renames number (λ name. not (is_in name names) && has_pair old name number) old mid → Changes a number false mid new
    → Renames number (λ name. not (is_in name (names ++ a ∷ [])) && has_pair old name number) old new
unnamed_more number a names old mid new r u =
    renames_as number _ _ old new (λ name. sym (ap (λ b. not b && has_pair old name number) (in_more name a names) ∙ by_tests (is_in name names) (name == a) (has_pair old name number)))
    (removed number (λ name. not (is_in name names) && has_pair old name number) old mid new r a u)
  where
    by_tests : (x y z : Bool) → (not (x || y) && z) ≡ (not y && (not x && z))
    by_tests true true z = refl
    by_tests true false z = refl
    by_tests false true z = refl
    by_tests false false z = refl

-- one name went, where it is given
pub unnamed_one : (number a : ℕ) (old new : List (ℕ × ℕ)) → Changes a number false old new → Renames number (λ name. not (is_one (Some a) name) && has_pair old name number) old new
unnamed_one number a old new u =
    renames_as number _ _ old new (λ name. ap (λ b. not b && has_pair old name number) (number_tells.flip name a))
    (removed number (λ name. has_pair old name number) old old new (renames_none number old) a u)

-- none went, where none is given
pub unnamed_none : (number : ℕ) (o : Option ℕ) (old : List (ℕ × ℕ)) → ((a : ℕ) → o ≡ Some a → ⊥) → Renames number (λ name. not (is_one o name) && has_pair old name number) old old
unnamed_none number None old h = renames_none number old
unnamed_none number (Some a) old h = absurd (h a refl)

-- ---- the first pair of a name

pub zero_first : (name n : ℕ) → is_gt (pair_cmp (name, 0) (name, n)) ≡ false
zero_first name n = grind (arith, nat_tests)

-- the first pair from a name on tells whether there is one of the name
pub first_named : (pairs : List (ℕ × ℕ)) (name a n : ℕ) → has_pair pairs a n ≡ true → is_gt (pair_cmp (name, 0) (a, n)) ≡ false → ((m : ℕ) → has_pair pairs name m ≡ true → is_gt (pair_cmp (a, n) (name, m)) ≡ false) → IsNamed pairs name (a == name)
first_named pairs name a n h from least = by_test (a == name) refl
  where
    differ : (a == name) ≡ false → a ≡ name → ⊥
    differ f e = let no : true ≡ false = sym (number_tells.self name) ∙ ap (λ x. x == name) (sym e) ∙ f in cc

    by_test : (b : Bool) → (a == name) ≡ b → IsNamed pairs name b
    by_test true t = (n, ap (λ x. has_pair pairs x n) (sym (eqb-true a name t)) ∙ h)
    by_test false f = λ m. by_pair m (has_pair pairs name m) refl
      where
        by_pair : (m : ℕ) (b : Bool) → has_pair pairs name m ≡ b → b ≡ false
        by_pair m true t = no_other name m a n from (least m t) (differ f)
        by_pair m false t = refl

-- ---- names one by one

same_map : (ns : List ℕ) → map (λ n. n) ns ≡ ns
same_map [] = refl
same_map (n ∷ ns) = ap (λ l. n ∷ l) (same_map ns)

one_more : (ns : List ℕ) (i : ℕ) → i < length ns → take (i + 1) ns ≡ take i ns ++ get_or ns i 0 ∷ []
one_more ns i h = sym (same_map (take (i + 1) ns)) ∙ map_more (λ n. n) ns i 0 h ∙ ap (λ l. l ++ get_or ns i 0 ∷ []) (same_map (take i ns))

pub unnamed_next : (number : ℕ) (names : List ℕ) (i : ℕ) → i < length names → (old mid new : List (ℕ × ℕ)) → Renames number (λ name. not (is_in name (take i names)) && has_pair old name number) old mid → Changes (get_or names i 0) number false mid new
    → Renames number (λ name. not (is_in name (take (i + 1) names)) && has_pair old name number) old new
unnamed_next number names i h old mid new r u =
    renames_as number _ _ old new (λ name. ap (λ l. not (is_in name l) && has_pair old name number) (sym (one_more names i h)))
    (unnamed_more number (get_or names i 0) (take i names) old mid new r u)

pub unnamed_all : (number : ℕ) (names : List ℕ) (i : ℕ) → length names ≤ i → (old new : List (ℕ × ℕ)) → Renames number (λ name. not (is_in name (take i names)) && has_pair old name number) old new
    → Renames number (λ name. not (is_in name names) && has_pair old name number) old new
unnamed_all number names i h old new r = renames_as number _ _ old new (λ name. ap (λ l. not (is_in name l) && has_pair old name number) (take_all i names h)) r
