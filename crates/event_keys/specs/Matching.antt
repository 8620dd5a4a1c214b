-- What waits and cancel rules are matched with: a fresh event, beside the texts of the events that
-- runs began with.
use Rattle.std.specs.Prelude.{ℕ, Bool, false, List, Option, Some, None}
use Rattle.kinds.specs.Stores.{Truth, Values}
use Rattle.event_keys.specs.Buckets.{value_in}
use Rattle.event_keys.specs.Expressions.{holds_over_both}

-- the texts of events by number
abbrev pub Texts : Type 0
Texts = ℕ → Option (List ℕ)

-- of a first event whose text isn't there no condition is true
abbrev pub true_after : List ℕ → Option (List ℕ) → List ℕ → Bool
true_after expr None fresh = false
true_after expr (Some first) fresh = holds_over_both expr first fresh

-- whether an expression is true of the event with a number and a fresh one
unfoldable pub truth_by : Texts → Truth
truth_by texts = λ expr first fresh. true_after expr (texts first) fresh.text

-- ## With one fresh event, whichever is asked about

unfoldable pub truth_with : Texts → List ℕ → Truth
truth_with texts fresh = λ expr first event. true_after expr (texts first) fresh

unfoldable pub values_with : List ℕ → Values
values_with fresh = λ event path. value_in path fresh
