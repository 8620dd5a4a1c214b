-- Before the next moment nothing falls due and nothing is issued: a reading of the clock only lets time go on.
use Rattle.std.proofs.Common.{◌≡◌, ℕ, zero, suc, nat_le, false, [], length, Option, Some, None, refl, ◌∙◌, ap, arith}
use Rattle.kinds.specs.Queue.{next_item}
use Rattle.kinds.specs.declared.input.Input.TheVariants.{Tick}
use Rattle.run_model.specs.Advance.{Advanced, Next, advance, arrived, due_by, fire_by, fired, least, most, timed, within}
use Rattle.run_model.specs.Machine.{act, acted_after, count_input, silent, step, stepped}
use Rattle.run_model.specs.Next.{due_next, next_moment}
use Rattle.run_model.specs.Settle.{Settled, issue_found, item_at, next_issued, settle_by}
use Rattle.run_model.specs.State.{State, at_moment, issue_entries, moment_at, tidied}
use Rattle.run_model.proofs.WaitingItems.{IsBefore, before-left, before-right, still-none}

-- ## Nothing falls due

none-within : (t : ℕ) (next : Option Next) → IsBefore t (due_next next) → within t next ≡ None
none-within t None h = refl
none-within t (Some next) h = let late : nat_le next.due t ≡ false = grind (arith, h) in rw late refl

none-due : (t : ℕ) (s : State) → IsBefore t (next_moment s) → due_by t (count_input s) ≡ None
unfolding next_moment timed
none-due t s h =
    none-within t (least (timed s))
    (before-left t (due_next (least (timed s))) (next_item (issue_entries s) s.starts s.moment s.items) h)

none-fired : (n t : ℕ) (a : Advanced) → due_by t a.state ≡ None → fire_by n t a ≡ a
unfolding fire_by
none-fired zero t a e = refl
none-fired (suc n) t a e =
    ap (λ due. elim due as (λ _. Advanced) [ None ↦ a | Some next ↦ fire_by n t (fired next a) ]) e

only-arrives : (t : ℕ) (s : State) → due_by t s ≡ None
    → advance t s ≡ record { state = at_moment t s; hangs = [] }
unfolding advance
only-arrives t s e = ap (arrived t) (none-fired most t (record { state = s; hangs = [] }) e)

-- ## Nothing is issued

none-settled : (n : ℕ) (x : Settled) → next_issued x.state ≡ None → settle_by n x ≡ x
unfolding settle_by
none-settled zero x e = refl
none-settled (suc n) x e =
    ap (λ next. elim next as (λ _. Settled)
    [ None ↦ x | Some number ↦ settle_by n (issue_found (item_at number x.state) x) ]) e

none-issued : (t : ℕ) (s : State) → next_issued s ≡ None → IsBefore t (next_moment s)
    → next_issued (at_moment t (count_input s)) ≡ None
unfolding next_moment
none-issued t s shut h =
    still-none (issue_entries s) s.starts s.moment t s.items shut
    (before-right t (due_next (least (timed s))) (next_item (issue_entries s) s.starts s.moment s.items) h)

-- ## A step

tidied-later : (t : ℕ) (s : State) → tidied (at_moment t (count_input s)) ≡ at_moment t (count_input (tidied s))
unfolding tidied
tidied-later t s = refl

pub waits-step : (s : State) (at : ℕ) → next_issued s ≡ None → tidied s ≡ s
    → IsBefore (moment_at at s) (next_moment s)
    → step s (Tick at) ≡ record { state = at_moment (moment_at at s) (count_input s); outs = [] }
unfolding step act
waits-step s at shut tidy h =
    let t = moment_at at s in
    let later : State = at_moment t (count_input s) in
    ap (acted_after (Tick at)) (only-arrives t (count_input s) (none-due t s h))
    ∙ ap (stepped [])
    (none-settled (length later.items) (record { state = later; outs = [] }) (none-issued t s shut h))
    ∙ ap silent
    (tidied-later t s ∙ ap (λ k. at_moment t (count_input k)) tidy)
