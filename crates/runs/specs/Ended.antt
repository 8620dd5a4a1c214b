-- The runs that have ended, in order of ending.
use Rattle.std.specs.Prelude.{ℕ, ◌≡◌, ◌≤◌, ◌<◌, ◌-◌, ◌==◌, Bool, not, List, ◌++◌, filter, take}
use Rattle.std.specs.Prelude.{drop, length, nat_le, if◌then◌else◌, Option, None, option_map}
use Rattle.std.specs.List.{slice_get}
use Rattle.lists.specs.Entries.{AreApart}
use Rattle.runs.specs.Mentions.{IsTold}
use Rattle.runs.specs.Runs.{is_in}
use Rattle.runs.specs.declared.ended.EndedRun.{EndedRun}

abbrev pub ended_number : EndedRun → ℕ
ended_number e = e.run

abbrev pub ended_events : EndedRun → List ℕ
ended_events e = e.events

abbrev pub is_ended : ℕ → EndedRun → Bool
is_ended run e = run == e.run

abbrev pub is_another : ℕ → EndedRun → Bool
is_another run e = not (run == e.run)

abbrev pub ended_names : ℕ → EndedRun → Bool
ended_names event e = is_in event e.events

-- the runs that ended last, a thousand at most
abbrev pub last_ended : List EndedRun → List EndedRun
last_ended ended = drop (length ended - 1000) ended

-- Of a list's entries those that pass, and the last so many whether they pass or not.
abbrev pub last_or : {X : Type 0} → (X → Bool) → ℕ → List X → List X
last_or passes most xs = filter passes (take (length xs - most) xs) ++ drop (length xs - most) xs

-- the run that isn't among the last thousand any more when another ends
abbrev pub outgoing : List EndedRun → Option ℕ
outgoing ended =
    if nat_le 1000 (length ended) then option_map ended_number (slice_get ended (length ended - 1000))
    else None

-- ## How they are kept

-- Those before the last thousand and the last thousand, each run once, and the events of the latter.
pub record IsSplit (early last : List EndedRun) (pairs : List (ℕ × ℕ)) : Type 0 where
  pub few : length last ≤ 1000
  pub full : 0 < length early → length last ≡ 1000
  pub apart : AreApart ended_number (early ++ last)
  pub told : IsTold ended_number ended_events last pairs
