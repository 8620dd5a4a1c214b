-- The next moment, the runs of an event by number, and what is turned away.
use Rattle.std.proofs.Common.{◌≡◌, ℕ, ◌<◌, ◌≤◌, ◌==◌, Bool, true, false, cond, ◌||◌, List, [], ◌∷◌, ◌++◌, Option, Some, None, nat_le, refl, sym, ap, ap₂, ◌∙◌, arith, subst}
use Rattle.std.specs.List.{list_any}
use Rattle.std.proofs.lemmas.Bool.Decides.{nat_tests}
use Rattle.std.proofs.lemmas.List.Folds.{list_any-append}
use Rattle.lists.specs.Entries.{add_number, add_numbers, in_order}
use Rattle.admission.specs.Admission.{issue_entries}
use Rattle.kinds.specs.Queue.{next_item, sooner}
use Rattle.kinds.specs.declared.refusal.Refusal.TheVariants.{KeptFull, RunEnded, RunsFull, UnknownRun}
use Rattle.runs.specs.Ended.{is_ended, last_ended}
use Rattle.runs.specs.Runs.{is_in, run_at}
use Rattle.runs.proofs.Numbers.{in_in_order, rises_in_order, same_numbers}
use Rattle.run_model.specs.Advance.{least, timed}
use Rattle.run_model.specs.Machine.{refusal_of_cancel, refusal_of_events}
use Rattle.run_model.specs.Next.{due_next, next_moment}
use Rattle.run_model.specs.State.{State, kept, live, live_run}
use Rattle.machine.specs.View.{state_of}
use Rattle.machine.specs.declared.parts.Parts.{Parts}

-- ## Numbers in order

pub add-append : (ms ns all : List ℕ) → add_numbers ns (add_numbers ms all) ≡ add_numbers (ms ++ ns) all
add-append [] ns all = refl
add-append (m ∷ ms) ns all = add-append ms ns (add_number m all)

in-either : (q : ℕ) (ms ns : List ℕ) → is_in q (ms ++ in_order ns) ≡ is_in q (ms ++ ns)
in-either q ms ns =
    list_any-append (λ n. q == n) ms (in_order ns) ∙ ap (λ b. is_in q ms || b) (in_in_order q ns)
    ∙ sym (list_any-append (λ n. q == n) ms ns)

-- some of them may be put in order before
pub order-again : (ms ns : List ℕ) → in_order (ms ++ in_order ns) ≡ in_order (ms ++ ns)
order-again ms ns =
    same_numbers (in_order (ms ++ in_order ns)) (in_order (ms ++ ns)) (rises_in_order (ms ++ in_order ns))
    (rises_in_order (ms ++ ns))
    (λ q. in_in_order q (ms ++ in_order ns) ∙ in-either q ms ns ∙ sym (in_in_order q (ms ++ ns)))

pub added-next : (ns more : List ℕ) (n : ℕ) (start old new : List ℕ) → more ≡ ns ++ n ∷ []
    → old ≡ add_numbers ns start → new ≡ add_number n old → new ≡ add_numbers more start
added-next ns more n start old new a b c =
    c ∙ ap (add_number n) b ∙ add-append ns (n ∷ []) start ∙ ap (λ l. add_numbers l start) (sym a)

pub runs-in-order : (ms ns live ended none set both : List ℕ) → live ≡ ms → ended ≡ in_order ns → none ≡ []
    → set ≡ add_numbers live none → both ≡ add_numbers ended set → both ≡ in_order (ms ++ ns)
runs-in-order ms ns live ended none set both a b c d e =
    e ∙ ap (λ s. add_numbers ended s) (d ∙ ap (λ l. add_numbers l none) a ∙ ap (λ l. add_numbers ms l) c)
    ∙ ap (λ l. add_numbers l (add_numbers ms [])) b ∙ add-append ms (in_order ns) [] ∙ order-again ms ns

-- ## The next moment

pub next-of-parts : (m : Parts) (s : State) (next due item : Option ℕ) → state_of m ≡ s
    → m.admission.moment ≡ m.moment → next ≡ sooner due item → due ≡ due_next (least (timed (state_of m)))
    → item ≡ next_item (issue_entries m.admission) m.admission.starts m.admission.moment m.admission.items
    → next ≡ next_moment s
unfolding next_moment
next-of-parts m s next due item e now a b c =
    a ∙ ap (λ d. sooner d item) b
    ∙ ap (λ i. sooner (due_next (least (timed (state_of m)))) i)
    (c ∙ ap (λ t. next_item (issue_entries m.admission) m.admission.starts t m.admission.items) now)
    ∙ ap next_moment e

-- ## A run that can't be cancelled

pub refused-cancel : (m : Parts) (s : State) (run : ℕ) (b : Bool) → state_of m ≡ s → None ≡ run_at run m.runs.live
    → b ≡ list_any (is_ended run) (last_ended m.ended)
    → refusal_of_cancel run (live_run run s) s ≡ cond b (Some (RunEnded run)) (Some (UnknownRun run))
refused-cancel m s run b e none told =
    subst (λ (t : State). refusal_of_cancel run (live_run run t) t
    ≡ cond b (Some (RunEnded run)) (Some (UnknownRun run))) e
    (subst (λ found. refusal_of_cancel run found (state_of m) ≡ cond b (Some (RunEnded run)) (Some (UnknownRun run)))
    none (ap (λ c. cond c (Some (RunEnded run)) (Some (UnknownRun run))) (sym told)))

-- ## Room for new work

pub at-most : (n m : ℕ) → n ≤ m → nat_le n m ≡ true
at-most n m h = grind (arith, nat_tests, h)

pub not-most : (n m : ℕ) → m < n → nat_le n m ≡ false
not-most n m h = grind (arith, nat_tests, h)

pub refused-full : (m : Parts) (s : State) (k : ℕ) → state_of m ≡ s → k ≡ kept s
    → nat_le m.limits.kept k ≡ true → refusal_of_events s ≡ Some (KeptFull k)
refused-full m s k e told full =
    let at : nat_le s.limits.kept (kept s) ≡ true =
    ap₂ nat_le (ap (λ (t : State). t.limits.kept) (sym e)) (sym told) ∙ full in
    ap (λ b. cond b (Some (KeptFull (kept s)))
    (cond (nat_le s.limits.live (live s)) (Some (RunsFull (live s))) None)) at
    ∙ ap (λ n. Some (KeptFull n)) (sym told)

pub refused-runs : (m : Parts) (s : State) (k n : ℕ) → state_of m ≡ s → k ≡ kept s → n ≡ live s
    → nat_le m.limits.kept k ≡ false → (b : Bool) → nat_le m.limits.live n ≡ b
    → refusal_of_events s ≡ cond b (Some (RunsFull n)) None
refused-runs m s k n e told counted room b full =
    let at : nat_le s.limits.kept (kept s) ≡ false =
    ap₂ nat_le (ap (λ (t : State). t.limits.kept) (sym e)) (sym told) ∙ room in
    let over : nat_le s.limits.live (live s) ≡ b =
    ap₂ nat_le (ap (λ (t : State). t.limits.live) (sym e)) (sym counted) ∙ full in
    ap (λ b. cond b (Some (KeptFull (kept s)))
    (cond (nat_le s.limits.live (live s)) (Some (RunsFull (live s))) None)) at
    ∙ ap (λ b. cond b (Some (RunsFull (live s))) None) over
    ∙ ap (λ n. cond b (Some (RunsFull n)) None) (sym counted)
