-- The least limit of open calls, and the first of the set that has each of them.
use Rattle.std.proofs.Common.{◌≡◌, ℕ, ◌<◌, ◌==◌, nat_lt, Bool, true, false, cond, ◌&&◌, ◌||◌, List, [], ◌∷◌, Some, None, Option, refl, sym, ap, ◌∙◌, arith, map, subst, length}
use Rattle.std.specs.Bool.{IsTrue}
use Rattle.std.specs.List.{find, list_any, AllByRecursion}
use Rattle.std.specs.BTreeMap.{is_at}
use Rattle.std.specs.Option.{option_map}
use Rattle.std.specs.Ordering.{nat_cmp, is_gt}
use Rattle.std.specs.declared.cmp.Ordering.TheVariants.{Less}
use Rattle.std.proofs.lemmas.Bool.Decides.{nat_tests}
use Rattle.std.proofs.lemmas.Map.Keys.{sorted_head, sorted_tail}
use Rattle.std.proofs.lemmas.Option.{same_Some}
use Rattle.lists.specs.Entries.{has, pair_cmp}
use Rattle.lists.proofs.Elements.{all-weaker}
use Rattle.ordered.specs.Indexes.{group_cmp, IsListed}
use Rattle.ordered.proofs.Apart.{number_tells, found}
use Rattle.admission.specs.Indexes.{Keys, has_key, limit_key}
use Rattle.admission.specs.Issues.{AreInOrder, call_of, comes_before, earlier, first_due, has_call, limit_of}
use Rattle.admission.specs.declared.issue.CallLimit.{CallLimit}
use Rattle.admission.specs.declared.issue.Issue.{Issue}
use Rattle.admission.proofs.Found.{key_found, has_own_key}

-- a limit isn't after another: by due, by number, and by call
abbrev NotAfter : (ℕ × ℕ) × ℕ → (ℕ × ℕ) × ℕ → Type 0
NotAfter a b = is_gt (group_cmp pair_cmp a b) ≡ false

abbrev key_of : Issue → (ℕ × ℕ) × ℕ
key_of i = (limit_key i, i.call)

goes_before : (a b c d e f : ℕ) → (nat_lt a d || ((a == d) && nat_lt b e)) ≡ true → NotAfter ((a, b), c) ((d, e), f)
goes_before a b c d e f h = grind (arith, nat_tests)

not_behind : (a b c d e f : ℕ) → (nat_lt d a || ((d == a) && nat_lt e b)) ≡ false → c < f → NotAfter ((a, b), c) ((d, e), f)
not_behind a b c d e f h k = grind (arith, nat_tests)

itself : (a b c : ℕ) → NotAfter ((a, b), c) ((a, b), c)
itself a b c = grind (arith, nat_tests)

not_after_trans : (a b c d e f g h i : ℕ) → NotAfter ((a, b), c) ((d, e), f) → NotAfter ((d, e), f) ((g, h), i) → NotAfter ((a, b), c) ((g, h), i)
not_after_trans a b c d e f g h i x y = grind (arith, nat_tests)

same_due : (a b c d e f : ℕ) → NotAfter ((a, b), c) ((d, e), f) → NotAfter ((d, e), f) ((a, b), c) → a ≡ d
same_due a b c d e f x y = grind (arith, nat_tests)

same_limit : (a b c d e f : ℕ) → NotAfter ((a, b), c) ((d, e), f) → NotAfter ((d, e), f) ((a, b), c) → b ≡ e
same_limit a b c d e f x y = grind (arith, nat_tests)

same_call : (a b c d e f : ℕ) → NotAfter ((a, b), c) ((d, e), f) → NotAfter ((d, e), f) ((a, b), c) → c ≡ f
same_call a b c d e f x y = grind (arith, nat_tests)

less_number : (a b : ℕ) → nat_cmp a b ≡ Less → a < b
less_number a b h = grind (arith, nat_tests)

other_number : (a b : ℕ) → nat_cmp a b ≡ Less → (b == a) ≡ false
other_number a b h = grind (arith, nat_tests)

none_due : (es : List Issue) → first_due es ≡ None → es ≡ []
unfolding first_due
none_due [] h = refl
none_due (x ∷ es) h = by_rest (first_due es) h
  where
    by_test : (b : Bool) (o : Issue) → cond b (Some o) (Some x) ≡ None → x ∷ es ≡ []
    by_test true o h = cc
    by_test false o h = cc

    by_rest : (o : Option Issue) → earlier x o ≡ None → x ∷ es ≡ []
    by_rest None h = cc
    by_rest (Some o) h = by_test (comes_before o x) o h

all_found : (P : Issue → Type 0) (t : Issue → Bool) (es : List Issue) (i : Issue) → AllByRecursion P es → find t es ≡ Some i → P i
all_found P t [] i a f = cc
all_found P t (x ∷ es) i a f = by_test (t x) f (all_found P t es i a.1)
  where
    by_test : (b : Bool) → cond b (Some x) (find t es) ≡ Some i → (find t es ≡ Some i → P i) → P i
    by_test true e more = subst P (same_Some x i e) a.0
    by_test false e more = more e

from_keys : (P : ℕ → Type 0) (es : List Issue) → AllByRecursion P (map call_of es) → AllByRecursion (λ (i : Issue). P i.call) es
from_keys P [] h = tt
from_keys P (x ∷ es) h = (h.0, from_keys P es h.1)

-- the least is there, and not after any
record IsLeast (es : List Issue) (i : Issue) : Type 0 where
  held : find (has_call i.call) es ≡ Some i
  least : AllByRecursion (λ (e : Issue). NotAfter (key_of i) (key_of e)) es

least_due : (es : List Issue) → AreInOrder es → (i : Issue) → first_due es ≡ Some i → IsLeast es i
unfolding first_due
least_due [] s i h = cc
least_due (x ∷ es) s i h = by_rest (first_due es) refl h (least_due es (sorted_tail nat_cmp x.call (map call_of es) s))
  where
    above : AllByRecursion (λ (e : Issue). nat_cmp x.call e.call ≡ Less) es
    above = from_keys (λ n. nat_cmp x.call n ≡ Less) es (sorted_head nat_cmp x.call (map call_of es) s)

    here : find (has_call x.call) (x ∷ es) ≡ Some x
    here = ap (λ b. cond b (Some x) (find (has_call x.call) es)) (number_tells.self x.call)

    first : AllByRecursion (λ (e : Issue). NotAfter (key_of x) (key_of e)) es → IsLeast (x ∷ es) x
    first all = record { held = here; least = (itself x.due x.limit x.call, all) }

    by_test : (b : Bool) (o : Issue) → comes_before o x ≡ b → IsLeast es o → cond b (Some o) (Some x) ≡ Some i → IsLeast (x ∷ es) i
    by_test true o t l e = subst (IsLeast (x ∷ es)) (same_Some o i e) (record {
      held = ap (λ b. cond b (Some x) (find (has_call o.call) es)) (other_number x.call o.call (all_found (λ (e : Issue). nat_cmp x.call e.call ≡ Less) (has_call o.call) es o above l.held)) ∙ l.held;
      least = (goes_before o.due o.limit o.call x.due x.limit x.call t, l.least);
    })
    by_test false o t l e = subst (IsLeast (x ∷ es)) (same_Some x i e) (first (all-weaker (λ (e : Issue). NotAfter (key_of o) (key_of e)) (λ (e : Issue). NotAfter (key_of x) (key_of e)) es
        (λ y h. not_after_trans x.due x.limit x.call o.due o.limit o.call y.due y.limit y.call
        (not_behind x.due x.limit x.call o.due o.limit o.call t (less_number x.call o.call (all_found (λ (e : Issue). nat_cmp x.call e.call ≡ Less) (has_call o.call) es o above l.held))) h) l.least))

    alone : (ys : List Issue) → ys ≡ [] → AllByRecursion (λ (e : Issue). NotAfter (key_of x) (key_of e)) ys
    alone [] h = tt
    alone (y ∷ ys) h = cc

    by_rest : (o : Option Issue) → first_due es ≡ o → earlier x o ≡ Some i → ((j : Issue) → first_due es ≡ Some j → IsLeast es j) → IsLeast (x ∷ es) i
    by_rest None f e more = subst (IsLeast (x ∷ es)) (same_Some x i e) (first (alone es (none_due es f)))
    by_rest (Some o) f e more = by_test (comes_before o x) o refl (more o f) e

empty_keys : (ks : Keys) → (0 < length ks → false ≡ true) → (p : ℕ × ℕ) (n : ℕ) → has_key ks p n ≡ false
unfolding has_key
empty_keys [] h p n = refl
empty_keys (k ∷ ks) h p n = let no : false ≡ true = h (grind arith) in cc

as_key : (keys : Keys) (p : ℕ × ℕ) (m : ℕ) → has_key keys p m ≡ true → IsTrue (list_any (is_at (group_cmp pair_cmp (p, m))) keys)
unfolding has_key
as_key keys p m h = h

key_as : (keys : Keys) (p : ℕ × ℕ) (m : ℕ) → IsTrue (list_any (is_at (group_cmp pair_cmp (p, m))) keys) → has_key keys p m ≡ true
unfolding has_key
key_as keys p m h = h

none_there : (es : List Issue) (keys : Keys) → IsListed pair_cmp limit_key call_of es keys → (0 < length keys → false ≡ true) → es ≡ []
none_there [] keys l none = refl
none_there (y ∷ ys) keys l none =
    let own = has_own_key limit_key call_of (λ _. true) (y ∷ ys) keys y l refl in
    let no : true ≡ false = sym own.0 ∙ empty_keys keys none (limit_key y) y.call in
    cc

-- no key is there, so no call
pub no_limit : (es : List Issue) (keys : Keys) → IsListed pair_cmp limit_key call_of es keys → (0 < length keys → false ≡ true) → None ≡ option_map limit_of (first_due es)
unfolding first_due
no_limit es keys l none = subst (λ r. None ≡ option_map limit_of (first_due r)) (sym (none_there es keys l none)) refl

same_number : (a b : ℕ) → (a == b) ≡ true → a ≡ b
same_number a b h = grind (arith, nat_tests)

same_record : (a b c x y z : ℕ) → a ≡ x → b ≡ y → c ≡ z → ◌≡◌ {A = CallLimit} (record { due = a; number = b; call = c }) (record { due = x; number = y; call = z })
same_record a b c x y z p q r = cc

at_key : (d l n : ℕ) (j e : Issue) → d ≡ e.due → l ≡ e.limit → (n == e.call) ≡ true → NotAfter (key_of j) (key_of e) → NotAfter ((j.due, j.limit), j.call) ((d, l), n)
at_key d l n j e a b c h =
    subst (λ x. NotAfter (key_of j) ((x, l), n)) (sym a) (subst (λ x. NotAfter (key_of j) ((e.due, x), n)) (sym b) (subst (λ x. NotAfter (key_of j) ((e.due, e.limit), x)) (sym (same_number n e.call c)) h))

-- the first key is the least limit's
pub first_limit : (es : List Issue) (keys : Keys) (d l n : ℕ) → AreInOrder es → IsListed pair_cmp limit_key call_of es keys → IsTrue (list_any (is_at (group_cmp pair_cmp ((d, l), n))) keys)
    → ((q : (ℕ × ℕ) × ℕ) → IsTrue (list_any (is_at (group_cmp pair_cmp q)) keys) → is_gt (group_cmp pair_cmp ((d, l), n) q) ≡ false)
    → Some (record { due = d; number = l; call = n }) ≡ option_map limit_of (first_due es)
first_limit es keys d l n s i member least = by_first (first_due es) refl
  where
    by_first : (o : Option Issue) → first_due es ≡ o → Some (record { due = d; number = l; call = n }) ≡ option_map limit_of o
    by_first None f =
        let k = key_found limit_key call_of es keys (d, l) n i (key_as keys (d, l) n member) in
        let no : None ≡ Some k.entry = ap (find (has call_of n)) (sym (none_due es f)) ∙ k.held in
        cc
    by_first (Some j) f =
        let k = key_found limit_key call_of es keys (d, l) n i (key_as keys (d, l) n member) in
        let e = k.entry in
        let number : (n == e.call) ≡ true = found (has call_of n) es e k.held in
        let first = least_due es s j f in
        let own = has_own_key limit_key call_of (has_call j.call) es keys j i first.held in
        let up = least (limit_key j, j.call) (as_key keys (limit_key j) j.call own.0) in
        let down = all_found (λ (x : Issue). NotAfter (key_of j) (key_of x)) (has call_of n) es e first.least k.held in
        let back : NotAfter ((j.due, j.limit), j.call) ((d, l), n) = at_key d l n j e k.first k.second number down in
        ap Some (same_record d l n j.due j.limit j.call (same_due d l n j.due j.limit j.call up back) (same_limit d l n j.due j.limit j.call up back) (same_call d l n j.due j.limit j.call up back))
