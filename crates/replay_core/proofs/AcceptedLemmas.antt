-- The accepted lines, part after part.
use Rattle.std.proofs.Common.{◌≡◌, ℕ, List, [], ◌∷◌, ◌++◌, take, drop, refl, ap, ◌∙◌, sym, append_assoc, append-nil}
use Rattle.std.proofs.lemmas.List.{take-append-drop}
use Rattle.replay_core.specs.Accepted.{accepted_line, accepted_lines, added_next}
use Rattle.replay_core.specs.Replay.{Outcome, Goes, Stops, Ending, Progress, after_text, and_then, on_line, on_lines}

added-after : (text : List ℕ) (outcome : Outcome) (next : Progress → List (List ℕ)) → added_next (after_text text outcome) next ≡ added_next outcome next
added-after text (Goes progress more) next = refl
added-after text (Stops ending more) next = refl

-- what one run adds, and then another
added-then : (outcome : Outcome) (lines : Progress → Outcome) (all front back : Progress → List (List ℕ)) → ((s : Progress) → all s ≡ front s ++ added_next (lines s) back) → added_next outcome all ≡ added_next outcome front ++ added_next (and_then outcome lines) back
added-then (Goes progress text) lines all front back h = h progress ∙ ap (λ more. front progress ++ more) (sym (added-after text (lines progress) back))
added-then (Stops ending text) lines all front back h = refl

-- The accepted lines go on where the run does.
pub accepted-append : (progress : Progress) (xs ys : List (List ℕ)) → accepted_lines progress (xs ++ ys) ≡ accepted_lines progress xs ++ added_next (on_lines progress xs) (λ s. accepted_lines s ys)
unfolding accepted_lines on_lines
accepted-append progress [] ys = refl
accepted-append progress (x ∷ xs) ys =
    ap (λ more. accepted_line progress x ++ more) (added-then (on_line progress x) (λ s. on_lines s xs) (λ s. accepted_lines s (xs ++ ys)) (λ s. accepted_lines s xs) (λ s. accepted_lines s ys) (λ s. accepted-append s xs ys))
    ∙ sym (append_assoc (accepted_line progress x) _ _)

-- lines that went on, and then more
pub accepted-goes : (progress next : Progress) (text : List ℕ) (xs ys : List (List ℕ)) → on_lines progress xs ≡ Goes next text → accepted_lines progress (xs ++ ys) ≡ accepted_lines progress xs ++ accepted_lines next ys
accepted-goes progress next text xs ys goes = accepted-append progress xs ys ∙ ap (λ outcome. accepted_lines progress xs ++ added_next outcome (λ s. accepted_lines s ys)) goes

-- one line
pub accepted-one : (progress : Progress) (line : List ℕ) → accepted_lines progress (line ∷ []) ≡ accepted_line progress line
unfolding accepted_lines
accepted-one progress line = ap (λ more. accepted_line progress line ++ more) (none-next (on_line progress line)) ∙ append-nil (accepted_line progress line)
  where
    none-next : (outcome : Outcome) → added_next outcome (λ s. []) ≡ []
    none-next (Goes s text) = refl
    none-next (Stops ending text) = refl

-- a run that stops in a line adds no more behind it
pub accepted-stops : (progress : Progress) (line : List ℕ) (lines : List (List ℕ)) (ending : Ending) (text : List ℕ) → on_line progress line ≡ Stops ending text → accepted_lines progress (line ∷ lines) ≡ accepted_lines progress (line ∷ [])
unfolding accepted_lines
accepted-stops progress line lines ending text stops = rw stops refl

-- The accepted lines of a run's first lines are a prefix of all.
pub accepted-prefix : (progress : Progress) (lines : List (List ℕ)) (count : ℕ) → (more : List (List ℕ)) × (accepted_lines progress lines ≡ accepted_lines progress (take count lines) ++ more)
accepted-prefix progress lines count = (
  added_next (on_lines progress (take count lines)) (λ s. accepted_lines s (drop count lines)),
  ap (accepted_lines progress) (sym (take-append-drop count lines)) ∙ accepted-append progress (take count lines) (drop count lines),
)
