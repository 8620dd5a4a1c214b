-- A source in memory: what it gave and has left, and how it is set to behave.
use Rattle.std.specs.Prelude.{ℕ, ◌==◌, Bool, List, [], ◌∷◌, ◌++◌, length, min, Some, Result, Ok, Err, if◌then◌else◌}
use Rattle.std.specs.List.{list_any}
use Rattle.rig.specs.Faults.{one_more}
use Rattle.rig.specs.Flow.{Flow, Incoming, given_more}
use Rattle.rig.specs.declared.source.ReadFailed.{ReadFailed}

pub record MemorySource : Type 0 where
  pub flow : Flow
  pub piece : ℕ  -- the most bytes that a read gives
  pub failing : List ℕ  -- the reads that fail, counted from 1
  pub reads : ℕ
  pub faults : ℕ

-- a source of these bytes, none of them given yet, that never fails
abbrev pub source_of : List ℕ → MemorySource
source_of bytes = record {
  flow = record { given = []; left = bytes };
  piece = 18446744073709551615;
  failing = [];
  reads = 0;
  faults = 0;
}

abbrev pub incoming_of : MemorySource → Incoming
incoming_of source = record { flow = Some source.flow; faults = source.faults }

-- one more read is set to fail
abbrev pub with_failing : ℕ → MemorySource → MemorySource
with_failing read source = record source { failing = source.failing ++ read ∷ [] }

-- the next read is set to fail
abbrev pub read_fails : MemorySource → Bool
read_fails source = list_any (λ n. n == one_more source.reads) source.failing

-- how many bytes the next read gives into so much room
abbrev pub read_count : MemorySource → ℕ → ℕ
read_count source room = min (min (length source.flow.left) room) source.piece

-- what a read into so much room answers
abbrev pub read_answer : MemorySource → ℕ → Result ℕ ReadFailed
read_answer source room = if read_fails source then Err record {} else Ok (read_count source room)

-- what it leaves
abbrev pub after_read : MemorySource → ℕ → MemorySource
after_read source room =
    if read_fails source
    then record source { reads = one_more source.reads; faults = one_more source.faults }
    else record source {
      reads = one_more source.reads;
      flow = given_more (read_count source room) source.flow;
    }
