-- Nothing is overdue, and no run is dated after the moment, at each change and so through each step.
use Rattle.std.proofs.Common.{◌≡◌, ℕ, ◌≤◌, ◌==◌, Bool, true, false, ◌&&◌, ◌||◌, cond, List, [], ◌∷◌, ◌++◌, map, Option, Some, None, IfSome, refl, sym, subst, nat_lt, nat_le, eqb-true, arith}
use Rattle.std.specs.List.{AllByRecursion}
use Rattle.kinds.specs.Windows as windows
use Rattle.kinds.specs.Windows.{after_event, capped, insert_window, is_full, joined, opened, others}
use Rattle.kinds.specs.declared.store.Rule.{Rule}
use Rattle.kinds.specs.declared.window.Window.{Window}
use Rattle.lists.proofs.Elements.{all-weaker}
use Rattle.run_model.specs.Advance.{Next, Timed, sleep_end, wait_end, invocation_end, window_end, rule_end, call_limit, comes_before, due_by, due_of, earlier, least, number_of, timed, with_due, within}
use Rattle.run_model.specs.State.{State, Run, Issue, Invocation, Sleep, Waiting}
use Rattle.run_model.proofs.Apart.{all-unmap}
use Rattle.run_model.proofs.Members.{all-map}
use Rattle.run_model.proofs.SettlingLists.{all-append}

-- ## Lists

pub record AreLate (m : ℕ) (sleeps : List Sleep) (waits : List Waiting) (invocations : List Invocation)
    (ws : List Window) (rules : List Rule) (issues : List Issue) : Type 0 where
  pub late_sleeps : AllByRecursion (λ (e : Sleep). m ≤ e.due) sleeps
  pub late_waits : AllByRecursion (λ (e : Waiting). m ≤ e.wait.due) waits
  pub late_invocations : AllByRecursion (λ (e : Invocation). IfSome e.due (λ due. m ≤ due)) invocations
  pub late_windows : AllByRecursion (λ w. m ≤ windows.due_of w) ws
  pub late_rules : AllByRecursion (λ (e : Rule). IfSome e.due (λ due. m ≤ due)) rules
  pub late_issues : AllByRecursion (λ (i : Issue). m ≤ i.due) issues

abbrev pub AreBy : ℕ → List Run → Type 0
AreBy m rs = AllByRecursion (λ (r : Run). r.moment ≤ m) rs

pub record IsLate (m : ℕ) (sleeps : List Sleep) (waits : List Waiting) (invocations : List Invocation)
    (ws : List Window) (rules : List Rule) (issues : List Issue) (live closing : List Run) : Type 0 where
  pub dues : AreLate m sleeps waits invocations ws rules issues
  pub live_by : AreBy m live
  pub closing_by : AreBy m closing

abbrev pub Late : State → Type 0
Late s = IsLate s.moment s.sleeps s.waits s.invocations s.windows s.rules s.issues s.live s.closing

pub late-of : (s : State) → AllByRecursion (λ (e : Sleep). s.moment ≤ e.due) s.sleeps
    → AllByRecursion (λ (e : Waiting). s.moment ≤ e.wait.due) s.waits
    → AllByRecursion (λ (e : Invocation). IfSome e.due (λ due. s.moment ≤ due)) s.invocations
    → AllByRecursion (λ w. s.moment ≤ windows.due_of w) s.windows
    → AllByRecursion (λ (e : Rule). IfSome e.due (λ due. s.moment ≤ due)) s.rules
    → AllByRecursion (λ (i : Issue). s.moment ≤ i.due) s.issues → AreBy s.moment s.live → AreBy s.moment s.closing
    → Late s
late-of s sleeps waits invocations ws rules issues live closing = record {
  dues = record {
    late_sleeps = sleeps;
    late_waits = waits;
    late_invocations = invocations;
    late_windows = ws;
    late_rules = rules;
    late_issues = issues;
  };
  live_by = live;
  closing_by = closing;
}

-- ## All that is timed

abbrev FromDue : ℕ → Timed → Type 0
FromDue m e = IfSome (due_of e) (λ due. m ≤ due)

all-front_of : {X : Type 0} (P : X → Type 0) (xs ys : List X) → AllByRecursion P (xs ++ ys) → AllByRecursion P xs
all-front_of P [] ys h = tt
all-front_of P (x ∷ xs) ys h = (h.0, all-front_of P xs ys h.1)

all-back_of : {X : Type 0} (P : X → Type 0) (xs ys : List X) → AllByRecursion P (xs ++ ys) → AllByRecursion P ys
all-back_of P [] ys h = h
all-back_of P (x ∷ xs) ys h = all-back_of P xs ys h.1

pub timed-late : (m : ℕ) (s : State) → AreLate m s.sleeps s.waits s.invocations s.windows s.rules s.issues
    → AllByRecursion (FromDue m) (timed s)
unfolding timed
timed-late m s h =
    let P : Timed → Type 0 = FromDue m in
    let a : List Timed = map sleep_end s.sleeps in
    let b : List Timed = map wait_end s.waits in
    let c : List Timed = map invocation_end s.invocations in
    let d : List Timed = map window_end s.windows in
    let e : List Timed = map rule_end s.rules in
    all-append P (a ++ b ++ c ++ d ++ e) (map call_limit s.issues)
    (all-append P (a ++ b ++ c ++ d) e
    (all-append P (a ++ b ++ c) d
    (all-append P (a ++ b) c
    (all-append P a b (all-map P sleep_end s.sleeps h.late_sleeps) (all-map P wait_end s.waits h.late_waits))
    (all-map P invocation_end s.invocations h.late_invocations))
    (all-map P window_end s.windows h.late_windows))
    (all-map P rule_end s.rules h.late_rules))
    (all-map P call_limit s.issues h.late_issues)

late-timed : (m : ℕ) (s : State) → AllByRecursion (FromDue m) (timed s)
    → AreLate m s.sleeps s.waits s.invocations s.windows s.rules s.issues
unfolding timed
late-timed m s h =
    let P : Timed → Type 0 = FromDue m in
    let a : List Timed = map sleep_end s.sleeps in
    let b : List Timed = map wait_end s.waits in
    let c : List Timed = map invocation_end s.invocations in
    let d : List Timed = map window_end s.windows in
    let e : List Timed = map rule_end s.rules in
    let f : List Timed = map call_limit s.issues in
    let to_e : AllByRecursion P (a ++ b ++ c ++ d ++ e) = all-front_of P (a ++ b ++ c ++ d ++ e) f h in
    let to_d : AllByRecursion P (a ++ b ++ c ++ d) = all-front_of P (a ++ b ++ c ++ d) e to_e in
    let to_c : AllByRecursion P (a ++ b ++ c) = all-front_of P (a ++ b ++ c) d to_d in
    let to_b : AllByRecursion P (a ++ b) = all-front_of P (a ++ b) c to_c in
    record {
      late_sleeps = all-unmap P sleep_end s.sleeps (all-front_of P a b to_b);
      late_waits = all-unmap P wait_end s.waits (all-back_of P a b to_b);
      late_invocations = all-unmap P invocation_end s.invocations (all-back_of P (a ++ b) c to_c);
      late_windows = all-unmap P window_end s.windows (all-back_of P (a ++ b ++ c) d to_d);
      late_rules = all-unmap P rule_end s.rules (all-back_of P (a ++ b ++ c ++ d) e to_e);
      late_issues = all-unmap P call_limit s.issues (all-back_of P (a ++ b ++ c ++ d ++ e) f h);
    }

-- ## The least

-- each is due no sooner than the least, and where there is none, none is due
abbrev NoSooner : List Timed → Option Next → Type 0
NoSooner es None = AllByRecursion (λ e. due_of e ≡ None) es
NoSooner es (Some next) = AllByRecursion (FromDue next.due) es

from-none : (m : ℕ) (e : Timed) → due_of e ≡ None → FromDue m e
from-none m e none = subst (λ due. IfSome due (λ due. m ≤ due)) (sym none) tt

from-sooner : (m n : ℕ) (es : List Timed) → m ≤ n → AllByRecursion (FromDue n) es
    → AllByRecursion (FromDue m) es
from-sooner m n es low h = all-weaker (FromDue n) (FromDue m) es (λ e k. sooner (due_of e) k) h
  where
    sooner : (due : Option ℕ) → IfSome due (λ due. n ≤ due) → IfSome due (λ due. m ≤ due)
    sooner None k = tt
    sooner (Some due) k = omega (arith, low, k)

before-low : (a b : Next) → comes_before b a ≡ true → b.due ≤ a.due
before-low a b e = by_tests (nat_lt b.due a.due) (b.due == a.due) refl refl e
  where
    by_tests : (c d : Bool) → nat_lt b.due a.due ≡ c → (b.due == a.due) ≡ d
        → (c || (d && nat_lt (number_of b.entry) (number_of a.entry))) ≡ true → b.due ≤ a.due
    by_tests true d less same h = grind (arith, less)
    by_tests false true less same h = let is = eqb-true b.due a.due same in omega (arith, is)
    by_tests false false less same h = absurd (cc)

not-before-low : (a b : Next) → comes_before b a ≡ false → a.due ≤ b.due
not-before-low a b e = by_test (nat_lt b.due a.due) refl e
  where
    by_test : (c : Bool) → nat_lt b.due a.due ≡ c
        → (c || ((b.due == a.due) && nat_lt (number_of b.entry) (number_of a.entry))) ≡ false → a.due ≤ b.due
    by_test true less h = absurd (cc)
    by_test false less h = grind (arith, less)

own-due : (e : Timed) (due : ℕ) (m : ℕ) → due_of e ≡ Some due → m ≤ due → FromDue m e
own-due e due m is low = subst (λ o. IfSome o (λ due. m ≤ due)) (sym is) low

no-sooner-than : (e : Timed) (es : List Timed) (due : ℕ) (found : Option Next) → due_of e ≡ Some due
    → NoSooner es found → NoSooner (e ∷ es) (earlier (record { due = due; entry = e }) found)
no-sooner-than e es due None is h = (
  own-due e due due is (omega arith),
  all-weaker (λ e. due_of e ≡ None) (FromDue due) es (λ e k. from-none due e k) h,
)
no-sooner-than e es due (Some b) is h =
    let a : Next = record { due = due; entry = e } in
    (elim (comes_before b a)
    as (λ c. comes_before b a ≡ c → NoSooner (e ∷ es) (cond c (Some b) (Some a))) [
      | true ↦ λ before. (own-due e due b.due is (before-low a b before), h)
      | false ↦ λ before. (
        own-due e due due is (omega arith),
        from-sooner due b.due es (not-before-low a b before) h,
      )
    ]) refl

no-sooner-with : (e : Timed) (es : List Timed) (due : Option ℕ) (found : Option Next) → due_of e ≡ due
    → NoSooner es found → NoSooner (e ∷ es) (with_due e due found)
no-sooner-with e es None None is h = (is, h)
no-sooner-with e es None (Some next) is h = (from-none next.due e is, h)
no-sooner-with e es (Some due) found is h = no-sooner-than e es due found is h

no-sooner : (es : List Timed) → NoSooner es (least es)
unfolding least
no-sooner [] = tt
no-sooner (e ∷ es) = no-sooner-with e es (due_of e) (least es) refl (no-sooner es)

-- the least is due no sooner than all are
from-least : (m : ℕ) (es : List Timed) → AllByRecursion (FromDue m) es → IfSome (least es) (λ next. m ≤ next.due)
unfolding least
from-least m [] h = tt
from-least m (e ∷ es) h = with_one e (due_of e) (least es) h.0 (from-least m es h.1)
  where
    of_two : (a : Next) (found : Option Next) → m ≤ a.due → IfSome found (λ next. m ≤ next.due)
        → IfSome (earlier a found) (λ next. m ≤ next.due)
    of_two a None own k = own
    of_two a (Some b) own k =
        elim (comes_before b a) as (λ c. IfSome (cond c (Some b) (Some a)) (λ next. m ≤ next.due))
        [ true ↦ k | false ↦ own ]

    with_one : (e : Timed) (due : Option ℕ) (found : Option Next) → IfSome due (λ due. m ≤ due)
        → IfSome found (λ next. m ≤ next.due) → IfSome (with_due e due found) (λ next. m ≤ next.due)
    with_one e None found own k = k
    with_one e (Some due) found own k = of_two (record { due = due; entry = e }) found own k

within-least : (t : ℕ) (found : Option Next) (next : Next) → within t found ≡ Some next → found ≡ Some next
within-least t None next e = absurd (cc)
within-least t (Some found) next e =
    (elim (nat_le found.due t) as (λ b. cond b (Some found) None ≡ Some next → Some found ≡ Some next)
    [ true ↦ λ k. k | false ↦ λ k. absurd (let no : None ≡ Some next = k in cc) ]) e

-- when the next is due, nothing is overdue
pub late-moved : (t : ℕ) (next : Next) (s : State) → due_by t s ≡ Some next
    → AreLate next.due s.sleeps s.waits s.invocations s.windows s.rules s.issues
late-moved t next s e =
    late-timed next.due s
    (subst (λ found. NoSooner (timed s) found) (within-least t (least (timed s)) next e) (no-sooner (timed s)))

-- time goes on to what is due next
pub due-later : (t : ℕ) (next : Next) (s : State) → Late s → due_by t s ≡ Some next → s.moment ≤ next.due
due-later t next s h e =
    subst (λ found. IfSome found (λ next. s.moment ≤ next.due)) (within-least t (least (timed s)) next e)
    (from-least s.moment (timed s) (timed-late s.moment s h.dues))

-- where nothing is due by a moment, nothing is overdue at it
pub late-arrived : (t : ℕ) (s : State) → due_by t s ≡ None
    → AreLate t s.sleeps s.waits s.invocations s.windows s.rules s.issues
late-arrived t s e = late-timed t s (by_least (least (timed s)) e (no-sooner (timed s)))
  where
    not-within : (due : ℕ) → nat_le due t ≡ false → t ≤ due
    not-within due e = grind (arith, e)

    by_least : (found : Option Next) → within t found ≡ None → NoSooner (timed s) found
        → AllByRecursion (FromDue t) (timed s)
    by_least None e h = all-weaker (λ e. due_of e ≡ None) (FromDue t) (timed s) (λ e k. from-none t e k) h
    by_least (Some next) e h =
        (elim (nat_le next.due t) as (λ b. nat_le next.due t ≡ b → cond b (Some next) None ≡ None
        → AllByRecursion (FromDue t) (timed s)) [
          | true ↦ λ low k. absurd (let no : Some next ≡ None = k in cc)
          | false ↦ λ low k. from-sooner t next.due (timed s) (not-within next.due low) h
        ]) refl e
