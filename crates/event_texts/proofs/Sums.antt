-- The sum of the bytes of events that count, and the events under their numbers.
use Rattle.std.proofs.Common.{◌≡◌, SomeIff, ℕ, ◌<◌, ◌≤◌, ◌+◌, ◌-◌, ◌==◌, nat_lt, Bool, true, false, not, cond, List, [], ◌∷◌, ◌++◌, map, filter, length, None, Some, Option, refl, sym, ap, ◌∙◌, arith, subst, eqb-true}
use Rattle.std.specs.BTreeMap.{insert_entry, is_at}
use Rattle.std.specs.List.{AllByRecursion}
use Rattle.std.specs.List.Sorted.{IsStrictlySortedBy}
use Rattle.std.specs.Map.{keys_of, values_of, remove_entry}
use Rattle.std.specs.Ordering.{nat_cmp, is_lt}
use Rattle.std.specs.declared.cmp.Ordering.TheVariants.{Less}
use Rattle.std.proofs.lemmas.Bool.{cond-false}
use Rattle.std.proofs.lemmas.Bool.Decides.{nat_tests}
use Rattle.std.proofs.lemmas.Map.Keys.{sorted_head, sorted_tail}
use Rattle.lists.specs.Entries.{without, insert_by, AreApart}
use Rattle.lists.proofs.Keyed.{cond_none}
use Rattle.lists.proofs.Stored.{InsertsByNumber, numbered_left, numbered_put}
use Rattle.event_texts.specs.Texts.{IsHeld, IsSummed, bytes_of_texts, event_number, has_number, text_at}
use Rattle.event_texts.specs.declared.texts.EventText.{EventText}

-- the bytes of those whose numbers pass
abbrev total : (ℕ → Bool) → List EventText → ℕ
total p es = bytes_of_texts (filter (λ (e : EventText). p e.number) es)

abbrev part : Bool → EventText → ℕ
part b e = cond b (length e.text) 0

from-zero : (n : ℕ) → n ≡ 0 + n
from-zero n = omega arith

total-first : (b : Bool) (e : EventText) (es : List EventText)
    → bytes_of_texts (cond b (e ∷ es) es) ≡ part b e + bytes_of_texts es
total-first true e es = refl
total-first false e es = from-zero (bytes_of_texts es)

total-cons : (p : ℕ → Bool) (e : EventText) (es : List EventText) → total p (e ∷ es) ≡ part (p e.number) e + total p es
total-cons p e es = total-first (p e.number) e (filter (λ (x : EventText). p x.number) es)

differs : (n m : ℕ) → m < n → (n == m) ≡ false
differs n m l = grind (arith, nat_tests, l)

flips : (n m : ℕ) → (n == m) ≡ false → (m == n) ≡ false
flips n m h = grind (arith, nat_tests, h)

-- ## What isn't there

below-none : (n : ℕ) (es : List EventText) → AllByRecursion (λ (e : EventText). e.number < n) es
    → text_at n es ≡ None
below-none n [] h = refl
below-none n (e ∷ es) h =
    cond-false (n == e.number) (Some e) (text_at n es) (differs n e.number h.0) ∙ below-none n es h.1

none-differs : (n : ℕ) (es : List EventText) → text_at n es ≡ None
    → AllByRecursion (λ (e : EventText). (n == e.number) ≡ false) es
none-differs n [] h = tt
none-differs n (e ∷ es) h =
    let parts = cond_none (n == e.number) e (text_at n es) h in (parts.0, none-differs n es parts.1)

-- where the tests agree, so do the sums
total-same : (p q : ℕ → Bool) (es : List EventText) → AllByRecursion (λ (e : EventText). q e.number ≡ p e.number) es
    → total q es ≡ total p es
total-same p q [] h = refl
total-same p q (e ∷ es) h =
    total-cons q e es ∙ ap (λ b. part b e + total q es) h.0
    ∙ ap (λ t. part (p e.number) e + t) (total-same p q es h.1) ∙ sym (total-cons p e es)

-- ## One more counts

agrees : (n : ℕ) (p q : ℕ → Bool) (es : List EventText) → ((k : ℕ) → (k == n) ≡ false → q k ≡ p k)
    → AllByRecursion (λ (e : EventText). (n == e.number) ≡ false) es
    → AllByRecursion (λ (e : EventText). q e.number ≡ p e.number) es
agrees n p q [] same h = tt
agrees n p q (e ∷ es) same h = (same e.number (flips n e.number h.0), agrees n p q es same h.1)

some-is : (b : Bool) (e x : EventText) (rest : Option EventText) → b ≡ true → cond b (Some e) rest ≡ Some x → e ≡ x
some-is true e x rest t h = cc
some-is false e x rest t h = cc

abbrev One : (p q : ℕ → Bool) (n : ℕ) (x : EventText) (es : List EventText) → Type 0
One p q n x es = total q es ≡ total p es + length x.text

more-here : (p q : ℕ → Bool) (n : ℕ) (x : EventText) (es : List EventText) → x.number ≡ n
    → p n ≡ false → q n ≡ true → total q es ≡ total p es → One p q n x (x ∷ es)
more-here p q n x es at off on rest =
    total-cons q x es ∙ ap (λ b. part b x + total q es) (ap q at ∙ on) ∙ ap (λ t. length x.text + t) rest
    ∙ swap (length x.text) (total p es)
    ∙ ap (λ t. t + length x.text)
    (sym (total-cons p x es ∙ ap (λ b. part b x + total p es) (ap p at ∙ off) ∙ sym (from-zero (total p es))))
  where
    swap : (a b : ℕ) → a + b ≡ b + a
    swap a b = omega arith

more-behind : (p q : ℕ → Bool) (n : ℕ) (x e : EventText) (es : List EventText) → q e.number ≡ p e.number
    → One p q n x es → One p q n x (e ∷ es)
more-behind p q n x e es same rest =
    total-cons q e es ∙ ap (λ b. part b e + total q es) same ∙ ap (λ t. part (p e.number) e + t) rest
    ∙ join (part (p e.number) e) (total p es) (length x.text) ∙ ap (λ t. t + length x.text) (sym (total-cons p e es))
  where
    join : (a b c : ℕ) → a + (b + c) ≡ (a + b) + c
    join a b c = omega arith

more-by : (p q : ℕ → Bool) (n : ℕ) (x e : EventText) (es : List EventText) → text_at (event_number e) es ≡ None
    → text_at n (e ∷ es) ≡ Some x → p n ≡ false → q n ≡ true → ((k : ℕ) → (k == n) ≡ false → q k ≡ p k)
    → (text_at n es ≡ Some x → One p q n x es) → (b : Bool) → (n == e.number) ≡ b → One p q n x (e ∷ es)
more-by p q n x e es apart found off on same rest true t =
    let at : n ≡ e.number = eqb-true n e.number t in
    let is : e ≡ x = some-is (n == e.number) e x (text_at n es) t found in
    let left : total q es ≡ total p es = total-same p q es
    (agrees n p q es same (none-differs n es (subst (λ m. text_at m es ≡ None) (sym at) apart))) in
    subst (λ y. One p q n x (y ∷ es)) (sym is)
    (more-here p q n x es (sym (at ∙ ap (λ (y : EventText). y.number) is)) off on left)
more-by p q n x e es apart found off on same rest false f =
    more-behind p q n x e es (same e.number (flips n e.number f))
    (rest (sym (cond-false (n == e.number) (Some e) (text_at n es) f) ∙ found))

pub total-more : (p q : ℕ → Bool) (n : ℕ) (x : EventText) (es : List EventText) → AreApart event_number es
    → text_at n es ≡ Some x → p n ≡ false → q n ≡ true → ((k : ℕ) → (k == n) ≡ false → q k ≡ p k)
    → One p q n x es
total-more p q n x [] apart found off on same = cc
total-more p q n x (e ∷ es) apart found off on same =
    more-by p q n x e es apart.0 found off on same
    (λ there. total-more p q n x es apart.1 there off on same) (n == e.number) refl

-- ## One goes

without-by : (p : ℕ → Bool) (n : ℕ) (e : EventText) (left es : List EventText) → p n ≡ false
    → total p left ≡ total p es → (b : Bool) → (n == e.number) ≡ b
    → total p (cond (not b) (e ∷ left) left) ≡ total p (e ∷ es)
without-by p n e left es off rest true t =
    rest ∙ from-zero (total p es)
    ∙ sym (total-cons p e es ∙ ap (λ b. part b e + total p es) (ap p (sym (eqb-true n e.number t)) ∙ off))
without-by p n e left es off rest false f =
    total-cons p e left ∙ ap (λ t. part (p e.number) e + t) rest ∙ sym (total-cons p e es)

total-without : (p : ℕ → Bool) (n : ℕ) (es : List EventText) → p n ≡ false
    → total p (without event_number n es) ≡ total p es
total-without p n [] off = refl
total-without p n (e ∷ es) off =
    without-by p n e (without event_number n es) es off (total-without p n es off) (n == e.number) refl

found-by : (k n : ℕ) (e : EventText) (left es : List EventText) → (k == n) ≡ false
    → text_at k left ≡ text_at k es → (b : Bool) → (n == e.number) ≡ b
    → text_at k (cond (not b) (e ∷ left) left) ≡ text_at k (e ∷ es)
found-by k n e left es other rest true t =
    rest ∙ sym (cond-false (k == e.number) (Some e) (text_at k es) (ap (λ m. k == m) (sym (eqb-true n e.number t)) ∙ other))
found-by k n e left es other rest false f = ap (λ r. cond (k == e.number) (Some e) r) rest

found-without : (k n : ℕ) (es : List EventText) → (k == n) ≡ false
    → text_at k (without event_number n es) ≡ text_at k es
found-without k n [] other = refl
found-without k n (e ∷ es) other =
    found-by k n e (without event_number n es) es other (found-without k n es other) (n == e.number) refl

-- ## One comes behind all

last-place : (n m : ℕ) → m < n → is_lt (nat_cmp n m) ≡ false
last-place n m l = grind (arith, nat_tests, l)

insert-last : (x : EventText) (es : List EventText) → AllByRecursion (λ (e : EventText). e.number < x.number) es
    → insert_by event_number x es ≡ es ++ x ∷ []
insert-last x [] h = refl
insert-last x (e ∷ es) h =
    cond-false (is_lt (nat_cmp x.number e.number)) (x ∷ e ∷ es) (e ∷ insert_by event_number x es)
    (last-place x.number e.number h.0)
    ∙ ap (λ r. e ∷ r) (insert-last x es h.1)

total-last : (p : ℕ → Bool) (x : EventText) (es : List EventText) → p x.number ≡ false
    → total p (es ++ x ∷ []) ≡ total p es
total-last p x [] off = ap (λ b. bytes_of_texts (cond b (x ∷ []) [])) off
total-last p x (e ∷ es) off =
    total-cons p e (es ++ x ∷ []) ∙ ap (λ t. part (p e.number) e + t) (total-last p x es off) ∙ sym (total-cons p e es)

none-front : (k : ℕ) (x : EventText) (es : List EventText) → text_at k (es ++ x ∷ []) ≡ None → text_at k es ≡ None
none-front k x [] h = refl
none-front k x (e ∷ es) h =
    let parts = cond_none (k == e.number) e (text_at k (es ++ x ∷ [])) h in
    cond-false (k == e.number) (Some e) (text_at k es) parts.0 ∙ none-front k x es parts.1

-- ## The sum is kept

summed-last : (x : EventText) (es : List EventText) (counted : List ℕ) (bytes : ℕ)
    → AllByRecursion (λ (e : EventText). e.number < x.number) es → IsSummed es counted bytes
    → IsSummed (es ++ x ∷ []) counted bytes
summed-last x es counted bytes below h = record {
  there = λ n none. h.there n (none-front n x es none);
  sum = h.sum ∙ sym (total-last (has_number counted) x es (h.there x.number (below-none x.number es below)));
}

summed-without : (n : ℕ) (es : List EventText) (counted : List ℕ) (bytes : ℕ) → has_number counted n ≡ false
    → IsSummed es counted bytes → IsSummed (without event_number n es) counted bytes
summed-without n es counted bytes off h = record {
  there = λ k none. by_test k none (k == n) refl;
  sum = h.sum ∙ sym (total-without (has_number counted) n es off);
}
  where
    by_test : (k : ℕ) → text_at k (without event_number n es) ≡ None → (b : Bool) → (k == n) ≡ b
        → has_number counted k ≡ false
    by_test k none true t = ap (has_number counted) (eqb-true k n t) ∙ off
    by_test k none false f = h.there k (sym (found-without k n es f) ∙ none)

at_number : (a b : ℕ) → is_at (nat_cmp a) b ≡ (a == b)
at_number a b = grind (arith, nat_tests)

-- what an update of the numbers makes of another number
other-one : (n k : ℕ) (b c : Bool) → (k == n) ≡ false → cond (is_at (nat_cmp n) k) b c ≡ c
other-one n k b c other = cond-false (is_at (nat_cmp n) k) b c (at_number n k ∙ flips k n other)

this-one : (n : ℕ) (b c : Bool) → cond (is_at (nat_cmp n) n) b c ≡ b
this-one n b c = ap (λ t. cond t b c) (at_number n n ∙ self n)
  where
    self : (n : ℕ) → (n == n) ≡ true
    self n = grind (arith, nat_tests)

abbrev Updated : ℕ → Bool → List ℕ → List ℕ → Type 0
Updated n value old new = (k : ℕ) → has_number new k ≡ cond (is_at (nat_cmp n) k) value (has_number old k)

missing : (n k : ℕ) (x : EventText) (es : List EventText) → text_at n es ≡ Some x → text_at k es ≡ None
    → (k == n) ≡ false
missing n k x es found none = by_test (k == n) refl
  where
    by_test : (b : Bool) → (k == n) ≡ b → b ≡ false
    by_test false f = refl
    by_test true t =
        let clash : Some x ≡ None = sym found ∙ ap (λ m. text_at m es) (sym (eqb-true k n t)) ∙ none in cc

pub summed-counted : (n : ℕ) (x : EventText) (es : List EventText) (old new : List ℕ) (bytes : ℕ)
    → AreApart event_number es → text_at n es ≡ Some x → has_number old n ≡ false → Updated n true old new
    → IsSummed es old bytes → IsSummed es new (bytes + length x.text)
summed-counted n x es old new bytes apart found off now h = record {
  there = λ k none. now k ∙ other-one n k true (has_number old k) (missing n k x es found none) ∙ h.there k none;
  sum = ap (λ t. t + length x.text) h.sum
      ∙ sym (total-more (has_number old) (has_number new) n x es apart found off
      (now n ∙ this-one n true (has_number old n))
      (λ k other. now k ∙ other-one n k true (has_number old k) other));
}

pub discounted-sum : (n : ℕ) (x : EventText) (es : List EventText) (old new : List ℕ)
    → AreApart event_number es → text_at n es ≡ Some x → has_number old n ≡ true → Updated n false old new
    → total (has_number old) es ≡ total (has_number new) es + length x.text
discounted-sum n x es old new apart found on now =
    total-more (has_number new) (has_number old) n x es apart found (now n ∙ this-one n false (has_number old n)) on
    (λ k other. sym (now k ∙ other-one n k false (has_number old k) other))

pub summed-discounted : (n : ℕ) (x : EventText) (es : List EventText) (old new : List ℕ) (bytes : ℕ)
    → AreApart event_number es → text_at n es ≡ Some x → has_number old n ≡ true → Updated n false old new
    → IsSummed es old bytes → IsSummed es new (bytes - length x.text)
summed-discounted n x es old new bytes apart found on now h = record {
  there = λ k none. now k ∙ other-one n k false (has_number old k) (missing n k x es found none) ∙ h.there k none;
  sum = less bytes (total (has_number new) es) (length x.text) (h.sum ∙ discounted-sum n x es old new apart found on now);
}
  where
    less : (a b c : ℕ) → a ≡ b + c → a - c ≡ b
    less a b c e = omega (arith, e)

-- the bytes of one that counts are in the sum
pub discounted-fits : (n : ℕ) (x : EventText) (es : List EventText) (old new : List ℕ) (bytes : ℕ)
    → AreApart event_number es → text_at n es ≡ Some x → has_number old n ≡ true → Updated n false old new
    → IsSummed es old bytes → length x.text ≤ bytes
discounted-fits n x es old new bytes apart found on now h =
    within bytes (total (has_number new) es) (length x.text) (h.sum ∙ discounted-sum n x es old new apart found on now)
  where
    within : (a b c : ℕ) → a ≡ b + c → c ≤ a
    within a b c e = omega (arith, e)

-- a checked sum
pub sum-is : (o : Option ℕ) (n m : ℕ) (P : Type 0) → SomeIff o P m → o ≡ Some n → n ≡ m
sum-is None n m P h e = cc
sum-is (Some x) n m P h e = some-same e ∙ h.1
  where
    some-same : Some x ≡ Some n → n ≡ x
    some-same h = cc

-- ## Events under their numbers

above-differs : (n m : ℕ) → nat_cmp n m ≡ Less → (n == m) ≡ false
above-differs n m l = grind (arith, nat_tests, l)

above-none : (n : ℕ) (es : List EventText) → AllByRecursion (λ m. nat_cmp n m ≡ Less) (map event_number es)
    → text_at n es ≡ None
above-none n [] h = refl
above-none n (e ∷ es) h =
    cond-false (n == e.number) (Some e) (text_at n es) (above-differs n e.number h.0) ∙ above-none n es h.1

pub sorted-apart : (es : List EventText) → IsStrictlySortedBy nat_cmp (map event_number es) → AreApart event_number es
sorted-apart [] s = tt
sorted-apart (e ∷ es) s = (
  above-none e.number es (sorted_head nat_cmp e.number (map event_number es) s),
  sorted-apart es (sorted_tail nat_cmp e.number (map event_number es) s),
)

lt-is : (n m : ℕ) → is_lt (nat_cmp n m) ≡ nat_lt n m
lt-is n m = grind (arith, nat_tests)

by-number : InsertsByNumber event_number (insert_by event_number)
by-number = record {
  empty = λ x. refl;
  place = λ x e es. ap (λ b. cond b (x ∷ e ∷ es) (e ∷ insert_by event_number x es)) (lt-is x.number e.number);
}

-- one that is above all comes
pub held-last : (x : EventText) (old new : List (ℕ × EventText)) (counted : List ℕ) (bytes : ℕ)
    → AllByRecursion (λ (e : EventText). e.number < x.number) (values_of old) → IsHeld old counted bytes
    → new ≡ insert_entry nat_cmp old x.number x → IsStrictlySortedBy nat_cmp (keys_of new)
    → (values_of new ≡ values_of old ++ x ∷ []) × IsHeld new counted bytes
held-last x old new counted bytes below h e s =
    let put = numbered_put event_number by-number old new x h.stored (below-none x.number (values_of old) below) e s in
    let now = put.0 ∙ insert-last x (values_of old) below in (
      now,
      record {
        stored = put.1;
        summed = subst (λ es. IsSummed es counted bytes) (sym now)
            (summed-last x (values_of old) counted bytes below h.summed);
      },
    )

-- one that doesn't count goes
pub held-without : (n : ℕ) (old new : List (ℕ × EventText)) (counted : List ℕ) (bytes : ℕ)
    → has_number counted n ≡ false → IsHeld old counted bytes → new ≡ remove_entry (is_at (nat_cmp n)) old
    → IsStrictlySortedBy nat_cmp (keys_of new)
    → (values_of new ≡ without event_number n (values_of old)) × IsHeld new counted bytes
held-without n old new counted bytes off h e s =
    let left = numbered_left event_number old new n h.stored e s in (
      left.0,
      record {
        stored = left.1;
        summed = subst (λ es. IsSummed es counted bytes) (sym left.0)
            (summed-without n (values_of old) counted bytes off h.summed);
      },
    )
