-- What is seen of a source, and what a read does.
use Rattle.std.specs.Prelude.{ℕ, ◌≡◌, ◌<◌, ◌≤◌, List, [], ◌++◌, length, take, drop, Option, Result, MatchResult}
use Rattle.std.specs.Option.{option_map, ForSome}
use Rattle.rig.specs.Faults.{one_more}

-- the bytes that a source gave so far, and those that it has left
pub record Flow : Type 0 where
  pub given : List ℕ
  pub left : List ℕ

-- A source: its flow, where it tells, and how often a read failed.
pub record Incoming : Type 0 where
  pub flow : Option Flow
  pub faults : ℕ

-- the flow after the next n bytes were given
abbrev pub given_more : ℕ → Flow → Flow
given_more n flow = record { given = flow.given ++ take n flow.left; left = drop n flow.left }

-- the source after a read that gave n bytes
abbrev pub after_given : ℕ → Incoming → Incoming
after_given n source = record source { flow = option_map (given_more n) source.flow }

-- and after one that failed
abbrev pub after_failed_read : Incoming → Incoming
after_failed_read source = record source { faults = one_more source.faults }

-- The next n bytes are at the front of the buffer, and at least one where there are both bytes and room.
pub record IsFront (n : ℕ) (buffer : List ℕ) (flow : Flow) : Type 0 where
  pub within : n ≤ length flow.left
  pub front : take n buffer ≡ take n flow.left
  pub some : 0 < length buffer → n ≡ 0 → flow.left ≡ []

-- A read gave the next n bytes at the front of the buffer.
pub record HasGiven (n : ℕ) (buffer : List ℕ) (old new : Incoming) : Type 0 where
  pub fits : n ≤ length buffer
  pub moved : new ≡ after_given n old
  pub told : ForSome old.flow (IsFront n buffer)

-- What a read into the buffer does: it gives bytes, or it fails, counts that and gives none.
abbrev pub TakesIn : {E : Type 0} → List ℕ → Result ℕ E → Incoming → Incoming → Type 0
TakesIn buffer result old new =
    MatchResult result (λ n. HasGiven n buffer old new) (λ _. new ≡ after_failed_read old)
