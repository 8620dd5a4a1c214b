-- Whether a run of a number has not ended, where the runs that have not change and one joins them.
use Rattle.std.proofs.Common.{◌≡◌, ℕ, ◌==◌, true, false, ◌||◌, cond, List, [], ◌∷◌, ◌++◌, refl, sym, subst}
use Rattle.std.specs.List.{list_any}
use Rattle.run_model.specs.Recording.{changed}
use Rattle.run_model.specs.State.{Run}
use Rattle.run_model.proofs.SettlingLists.{or-left, or-right}

-- a run of this number has not ended
abbrev pub IsOf : List Run → ℕ → Type 0
IsOf live run = list_any (λ (r : Run). run == r.number) live ≡ true

pub of-changed : (number run : ℕ) (f : Run → Run) (live : List Run) → ((r : Run) → (f r).number ≡ r.number)
    → IsOf live run → IsOf (changed number f live) run
of-changed number run f [] same h = h
of-changed number run f (r ∷ live) same h =
    let one : (cond (number == r.number) (f r) r).number ≡ r.number =
    elim (number == r.number) as (λ b. (cond b (f r) r).number ≡ r.number) [ true ↦ same r | false ↦ refl ] in
    let more : Run = cond (number == r.number) (f r) r in
    (elim (run == r.number) as (λ b. (run == r.number) ≡ b
    → (b || list_any (λ (q : Run). run == q.number) live) ≡ true
    → ((run == more.number) || list_any (λ (q : Run). run == q.number) (changed number f live)) ≡ true) [
      | true ↦ λ own k. or-left (run == more.number) (list_any (λ (q : Run). run == q.number) (changed number f live))
          (subst (λ n. (run == n) ≡ true) (sym one) own)
      | false ↦ λ other k. or-right (run == more.number)
          (list_any (λ (q : Run). run == q.number) (changed number f live)) (of-changed number run f live same k)
    ]) refl h

pub of-more : (run : ℕ) (live : List Run) (r : Run) → IsOf live run → IsOf (live ++ r ∷ []) run
of-more run [] r h = absurd (cc)
of-more run (q ∷ live) r h =
    (elim (run == q.number) as (λ b. (b || list_any (λ (x : Run). run == x.number) live) ≡ true
    → (b || list_any (λ (x : Run). run == x.number) (live ++ r ∷ [])) ≡ true)
    [ true ↦ λ k. refl | false ↦ λ k. of-more run live r k ]) h
