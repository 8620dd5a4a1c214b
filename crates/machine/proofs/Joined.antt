-- Numbers that join a set.
use Rattle.std.proofs.Common.{◌≡◌, ◌<◌, ◌≤◌, ◌↔◌, IfSome, IfNone, IsSome, Option, Some, None, length, ℕ, ◌==◌, Bool, true, false, cond, List, [], ◌∷◌, ◌++◌, refl, sym, ap, ◌∙◌, arith, subst}
use Rattle.std.specs.BTreeMap.{is_at}
use Rattle.std.specs.List.{AllByRecursion}
use Rattle.std.specs.Ordering.{is_gt, nat_cmp}
use Rattle.std.proofs.lemmas.Bool.Decides.{nat_tests}
use Rattle.machine.specs.Numbers.{AreJoined, IsJoined, IsRest, Keeps, has_number}

pub at-number : (k n : ℕ) → is_at (nat_cmp k) n ≡ (k == n)
at-number k n = grind (arith, nat_tests)

abbrev Added : ℕ → List ℕ → List ℕ → Type 0
Added n old new = (k : ℕ) → has_number new k ≡ cond (is_at (nat_cmp n) k) true (has_number old k)

own : (n : ℕ) → is_at (nat_cmp n) n ≡ true
own n = grind (arith, nat_tests)

stays : (b c : Bool) → c ≡ true → cond b true c ≡ true
stays true c h = refl
stays false c h = h

pub joined-by : (n : ℕ) (old new : List ℕ) → Added n old new → IsJoined n old new
joined-by n old new h = record {
  there = h n ∙ ap (λ b. cond b true (has_number old n)) (own n);
  kept = λ k here. h k ∙ stays (is_at (nat_cmp n) k) (has_number old k) here;
}

pub all-kept : (ns old new : List ℕ) → Keeps old new → AllByRecursion (λ n. has_number old n ≡ true) ns
    → AllByRecursion (λ n. has_number new n ≡ true) ns
all-kept [] old new kept h = tt
all-kept (n ∷ ns) old new kept h = (kept n h.0, all-kept ns old new kept h.1)

pub all-joined : (ns more : List ℕ) (n : ℕ) (before old new : List ℕ) → more ≡ ns ++ n ∷ []
    → AreJoined ns before old → IsJoined n old new → AreJoined more before new
all-joined ns more n before old new is h one = subst (λ ks. AreJoined ks before new) (sym is) (record {
  there = last ns (all-kept ns old new one.kept h.there);
  kept = λ k here. one.kept k (h.kept k here);
})
  where
    last : (ms : List ℕ) → AllByRecursion (λ k. has_number new k ≡ true) ms
        → AllByRecursion (λ k. has_number new k ≡ true) (ms ++ n ∷ [])
    last [] all = (one.there, tt)
    last (m ∷ ms) all = (all.0, last ms all.1)

pub none-joined : (old : List ℕ) → AreJoined [] old old
none-joined old = record { there = tt; kept = λ k here. here }

empty-by : (old : List ℕ) → (0 < length old → false ≡ true) → old ≡ []
empty-by [] h = refl
empty-by (n ∷ ns) h = let clash : false ≡ true = h (omega arith) in cc

pub rest-by : (r : Option ℕ) (old new : List ℕ) → (IsSome r ↔ (0 < length old))
    → IfSome r (λ n. old ≡ n ∷ new)
    → IfSome r (λ n. (k : ℕ) → has_number old k ≡ true → is_gt (nat_cmp n k) ≡ false)
    → IfSome r (λ n. (k : ℕ) → has_number new k ≡ cond (is_at (nat_cmp n) k) false (has_number old k))
    → IfNone r (new ≡ old) → IsRest r old new
rest-by (Some n) old new some removed least left same = record {
  first = removed;
  least = λ k here. within n k (least k here);
  left = left;
}
  where
    within : (n k : ℕ) → is_gt (nat_cmp n k) ≡ false → n ≤ k
    within n k h = grind (arith, nat_tests, h)
rest-by None old new some removed least left same =
    let none : old ≡ [] = empty-by old (λ more. some.1 more) in (none, same ∙ none)

pub left-by : (r : Option ℕ) (P Q : ℕ → Type 0) → ((n : ℕ) → P n → Q n) → IfSome r P → IfSome r Q
left-by (Some n) P Q f h = f n h
left-by None P Q f h = tt
