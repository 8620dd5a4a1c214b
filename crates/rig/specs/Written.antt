-- What is seen of a sink, and what a write does.
use Rattle.std.specs.Prelude.{ℕ, ◌≡◌, List, ◌++◌, take, Option, Result, MatchResult}
use Rattle.std.specs.Option.{option_map}
use Rattle.rig.specs.Faults.{one_more}

-- A sink: the bytes written so far, where it tells, and how often a write failed.
pub record Outgoing : Type 0 where
  pub written : Option (List ℕ)
  pub faults : ℕ

-- the sink after these bytes were written
abbrev pub after_write : List ℕ → Outgoing → Outgoing
after_write bytes sink = record sink { written = option_map (λ written. written ++ bytes) sink.written }

-- and after a write that failed behind these bytes
abbrev pub after_failed_write : List ℕ → Outgoing → Outgoing
after_failed_write bytes sink = record (after_write bytes sink) { faults = one_more sink.faults }

-- A prefix of these bytes was written, and no write failed.
abbrev pub WritesPrefix : List ℕ → Outgoing → Outgoing → Type 0
WritesPrefix bytes old new = (n : ℕ) × (new ≡ after_write (take n bytes) old)

-- A prefix of these bytes was written, and then a write failed.
abbrev pub FailsWriting : List ℕ → Outgoing → Outgoing → Type 0
FailsWriting bytes old new = (n : ℕ) × (new ≡ after_failed_write (take n bytes) old)

-- What a write does: it writes all of these bytes, or it fails behind a prefix of them and counts that.
abbrev pub PutsOut : {T E : Type 0} → List ℕ → Result T E → Outgoing → Outgoing → Type 0
PutsOut bytes result old new =
    MatchResult result (λ _. new ≡ after_write bytes old) (λ _. FailsWriting bytes old new)
