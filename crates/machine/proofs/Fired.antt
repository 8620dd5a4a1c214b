-- What is due next happens: it is the entry of its number, and one turn after the other is the whole advance.
use Rattle.std.proofs.Common.{◌≡◌, ◌≢◌, ℕ, suc, zero, ◌+◌, ◌≤◌, ◌==◌, false, List, [], ◌∷◌, ◌++◌, map, find, codes, Option, Some, None, inl, inr, refl, sym, ap, ◌∙◌, arith, subst, eq-eqb}
use Rattle.std.specs.Option.{option_map}
use Rattle.std.proofs.lemmas.Bool.{cond-false, cond-true}
use Rattle.std.proofs.lemmas.Bool.Decides.{nat_tests}
use Rattle.std.proofs.lemmas.List.{append-nil, append_assoc, map-append}
use Rattle.admission.specs.Issues.{call_of}
use Rattle.awaited.specs.Entries.{invocation_number, sleep_number, waiting_number}
use Rattle.kinds.specs.ErrorObject.{error_object}
use Rattle.kinds.specs.Moments.{last_moment}
use Rattle.kinds.specs.Windows as windows
use Rattle.kinds.specs.declared.out.Out.{Out}
use Rattle.lists.proofs.Elements.{all-weaker}
use Rattle.lists.specs.Entries.{AreApart, has}
use Rattle.run_model.specs.Advance as model
use Rattle.run_model.specs.Advance.{Advanced, advance, due_by, fire, fire_by, fired, hung, most, number_of, sleep_end, wait_end, invocation_end, window_end, rule_end, call_limit}
use Rattle.run_model.specs.Fit.{HasOwnNumbers}
use Rattle.run_model.specs.Laws.{IsIn}
use Rattle.run_model.specs.Replies.{fail_found}
use Rattle.run_model.specs.Sound.{ArePairwise}
use Rattle.run_model.specs.State.{State, Issue, at_moment}
use Rattle.run_model.proofs.Apart.{Beside, all-none, apart-steps, none-all, not-same}
use Rattle.run_model.proofs.KeptSteps.{IsThere, is-due, kept-fire}
use Rattle.run_model.proofs.Members.{in-all}
use Rattle.machine.specs.Advance.{AreAwaitedApart, Arrives, IsDue, entry_by, hang, hangs_of, invocation_over, moved, next_by, over_by, sleep_over, wait_over, window_over}
use Rattle.machine.specs.Held.{Becomes, IsHeld}
use Rattle.machine.specs.View.{state_of}
use Rattle.machine.specs.declared.advance.Next.{Next}
use Rattle.machine.specs.declared.parts.Parts.{Parts}
use Rattle.machine.proofs.HeldMaking.{some-mapped}

-- ## The entry of a number

flips : (n m : ℕ) → (n == m) ≡ false → (m == n) ≡ false
flips n m h = grind (arith, nat_tests, h)

pub found-there : {X : Type 0} (number : X → ℕ) (x : X) (xs : List X) → IsIn x xs → AreApart number xs
    → find (has number (number x)) xs ≡ Some x
found-there number x [] there apart = absurd there
found-there number x (y ∷ ys) (inl same) apart =
    subst (λ z. find (has number (number z)) (y ∷ ys) ≡ Some z) same
    (cond-true (number y == number y) (Some y) (find (has number (number y)) ys) (eq-eqb (number y) (number y) refl))
found-there number x (y ∷ ys) (inr there) apart =
    cond-false (number x == number y) (Some y) (find (has number (number x)) ys)
    (flips (number y) (number x)
    (in-all (λ z. (number y == number z) ≡ false) x ys there (none-all (has number (number y)) ys apart.0)))
    ∙ found-there number x ys there apart.1

pub calls-apart : (is : List Issue) → ArePairwise (λ (i later : Issue). i.call ≢ later.call) is → AreApart call_of is
calls-apart [] h = tt
calls-apart (i ∷ is) h = (
  all-none (has call_of i.call) is
      (all-weaker (λ (j : Issue). i.call ≢ j.call) (λ (j : Issue). (i.call == j.call) ≡ false) is
      (λ (j : Issue) differs. not-same i.call j.call differs) h.0),
  calls-apart is h.1,
)

over-is : (e : model.Timed) (s : State) → IsThere s e → AreAwaitedApart s → AreApart call_of s.issues
    → over_by (entry_by e) (number_of e) s ≡ fire e s
over-is (sleep_end e) s there apart calls =
    ap (λ o. sleep_over o s) (found-there sleep_number e s.sleeps there apart.sleeps)
over-is (wait_end e) s there apart calls =
    ap (λ o. wait_over o s) (found-there waiting_number e s.waits there apart.waits)
over-is (invocation_end e) s there apart calls =
    ap (λ o. invocation_over o s) (found-there invocation_number e s.invocations there apart.invocations)
over-is (window_end w) s there apart calls =
    ap (λ o. window_over o s) (found-there windows.number_of w s.windows there apart.windows)
over-is (rule_end e) s there apart calls = refl
over-is (call_limit i) s there apart calls =
    ap (λ o. fail_found o (error_object (codes "call limit")) s) (found-there call_of i s.issues there calls)

hangs-are : (e : model.Timed) → hangs_of (entry_by e) ≡ map hang (hung e)
hangs-are (sleep_end e) = refl
hangs-are (wait_end e) = refl
hangs-are (invocation_end e) = refl
hangs-are (window_end w) = refl
hangs-are (rule_end e) = refl
hangs-are (call_limit i) = refl

-- ## After the clock has moved

pub moved-apart : (t : ℕ) (s u : State) → u ≡ moved t s → HasOwnNumbers s → HasOwnNumbers u
moved-apart t s u e h = subst HasOwnNumbers (sym e) h

pub moved-awaited : (t : ℕ) (s u : State) → u ≡ moved t s → AreAwaitedApart s → AreAwaitedApart u
moved-awaited t s u e h = subst AreAwaitedApart (sym e)
    (record { sleeps = h.sleeps; waits = h.waits; invocations = h.invocations; windows = h.windows })

-- ## One turn

next-turn : (n t : ℕ) (a : Advanced) (next : model.Next) → due_by t a.state ≡ Some next
    → fire_by (suc n) t a ≡ fire_by n t (fired next a)
unfolding fire_by
next-turn n t a next e =
    ap (λ o. elim o as (λ _. Advanced) [ None ↦ a | Some x ↦ fire_by n t (fired x a) ]) e

no-turn : (n t : ℕ) (a : Advanced) → due_by t a.state ≡ None → fire_by n t a ≡ a
unfolding fire_by
no-turn zero t a e = refl
no-turn (suc n) t a e =
    ap (λ o. elim o as (λ _. Advanced) [ None ↦ a | Some x ↦ fire_by n t (fired x a) ]) e

abbrev with_hangs : List ℕ → State → Advanced
with_hangs hangs s = record { state = s; hangs = hangs }

-- the turns that are left make of the parts now what all turns make of the first
pub record IsFiring (n t : ℕ) (first m : Parts) (before outs : List Out) : Type 0 where
  pub hangs : List ℕ
  pub told : outs ≡ before ++ map hang hangs
  pub same : fire_by n t (with_hangs hangs (state_of m)) ≡ fire_by most t (with_hangs [] (state_of first))
  pub held : IsHeld m
  pub apart : HasOwnNumbers (state_of m)
  pub clock : m.admission.moment ≡ first.admission.moment

pub firing-first : (t : ℕ) (m : Parts) (outs : List Out) → IsHeld m → HasOwnNumbers (state_of m)
    → IsFiring most t m m outs outs
firing-first t m outs held apart = record {
  hangs = [];
  told = sym (append-nil outs);
  same = refl;
  held = held;
  apart = apart;
  clock = refl;
}

-- what is due is due by then
pub due-within : (t : ℕ) (s : State) (next : Next) → IsDue t s (Some next) → t ≤ last_moment
    → next.due ≤ last_moment
due-within t s next due low =
    let found = some-mapped next_by (due_by t s) next due in
    let by = (is-due t s found.0 found.1).0 in
    let same : next.due ≡ found.0.due = ap (λ (x : Next). x.due) found.2 in
    omega (arith, by, same, low)

abbrev over_next : Next → State → State
over_next next s = over_by next.entry next.number (moved next.due s)

over-due : (t : ℕ) (s : State) (x : model.Next) → due_by t s ≡ Some x → AreAwaitedApart s → AreApart call_of s.issues
    → over_next (next_by x) s ≡ fire x.entry (moved x.due s)
over-due t s x found apart calls =
    over-is x.entry (moved x.due s) (is-due t s x found).1
    (record { sleeps = apart.sleeps; waits = apart.waits; invocations = apart.invocations; windows = apart.windows })
    calls

still-apart : (t : ℕ) (s : State) (x : model.Next) → due_by t s ≡ Some x → HasOwnNumbers s
    → HasOwnNumbers (fire x.entry (moved x.due s))
still-apart t s x found h =
    kept-fire last_moment (λ _. Unit {0}) Beside (apart-steps last_moment) x.entry (moved x.due s)
    (is-due t s x found).1 h

module _ (n t : ℕ) (first m new : Parts) (before outs told : List Out) (h : IsFiring (suc n) t first m before outs) where
  firing-found : (x : model.Next) → due_by t (state_of m) ≡ Some x → AreAwaitedApart (state_of m)
      → Becomes (over_next (next_by x) (state_of m)) m new → told ≡ outs ++ hangs_of (entry_by x.entry)
      → IsFiring n t first new before told
  firing-found x found awaited b more =
      let fires : state_of new ≡ fire x.entry (moved x.due (state_of m)) =
      b.state ∙ over-due t (state_of m) x found awaited (calls-apart m.admission.issues h.held.ends.own_calls) in
      record {
        hangs = h.hangs ++ hung x.entry;
        told = more ∙ ap (λ l. outs ++ l) (hangs-are x.entry) ∙ ap (λ l. l ++ map hang (hung x.entry)) h.told
            ∙ append_assoc before (map hang h.hangs) (map hang (hung x.entry))
            ∙ ap (λ l. before ++ l) (sym (map-append hang h.hangs (hung x.entry)));
        same = ap (λ s. fire_by n t (with_hangs (h.hangs ++ hung x.entry) s)) fires
            ∙ sym (next-turn n t (with_hangs h.hangs (state_of m)) x found) ∙ h.same;
        held = b.held;
        apart = subst HasOwnNumbers (sym fires) (still-apart t (state_of m) x found h.apart);
        clock = b.clock ∙ h.clock;
      }

pub firing-on : (left n t : ℕ) (first m new : Parts) (before outs told : List Out) (next : Next)
    → n + 1 ≡ left → IsFiring left t first m before outs → IsDue t (state_of m) (Some next)
    → AreAwaitedApart (state_of m) → Becomes (over_next next (state_of m)) m new → told ≡ outs ++ hangs_of next.entry
    → IsFiring n t first new before told
firing-on left n t first m new before outs told next one h due awaited b more =
    let found = some-mapped next_by (due_by t (state_of m)) next due in
    let one_more : IsFiring (suc n) t first m before outs =
    subst (λ k. IsFiring k t first m before outs) (sym one ∙ omega arith) h in
    firing-found n t first m new before outs told one_more found.0 found.1 awaited
    (subst (λ (x : Next). Becomes (over_next x (state_of m)) m new) found.2 b)
    (more ∙ ap (λ (x : Next). outs ++ hangs_of x.entry) found.2)

-- ## The end

abbrev pub HasAdvanced : ℕ → Parts → Parts → List Out → List Out → Type 0
HasAdvanced t first new before outs =
    Arrives (advance t (state_of first)).state new
    × (outs ≡ before ++ map hang (advance t (state_of first)).hangs)

advanced-by : (t : ℕ) (first m new : Parts) (before outs : List Out) (hangs : List ℕ)
    → outs ≡ before ++ map hang hangs
    → with_hangs hangs (state_of m) ≡ fire_by most t (with_hangs [] (state_of first))
    → Arrives (at_moment t (state_of m)) new → HasAdvanced t first new before outs
unfolding advance
advanced-by t first m new before outs hangs told same arrived = (
  subst (λ s. Arrives (at_moment t s) new) (ap (λ (a : Advanced). a.state) same) arrived,
  told ∙ ap (λ (a : Advanced). before ++ map hang a.hangs) same,
)

pub firing-done : (n t : ℕ) (first m new : Parts) (before outs : List Out) → IsFiring n t first m before outs
    → IsDue t (state_of m) None → Arrives (at_moment t (state_of m)) new → HasAdvanced t first new before outs
firing-done n t first m new before outs h due arrived =
    advanced-by t first m new before outs h.hangs h.told
    (sym (no-turn n t (with_hangs h.hangs (state_of m)) (none (due_by t (state_of m)) due)) ∙ h.same) arrived
  where
    none : (o : Option model.Next) → None ≡ option_map next_by o → o ≡ None
    none None e = refl
    none (Some x) e = cc
