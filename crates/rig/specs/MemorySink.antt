-- A sink in memory: what was written, and how it is set to behave.
use Rattle.std.specs.Prelude.{ℕ, ◌==◌, ◌≡◌, ◌⊎◌, List, [], ◌∷◌, ◌++◌, take, find, Option, Some, None, Result, Ok, Err}
use Rattle.rig.specs.Faults.{one_more}
use Rattle.rig.specs.Written.{Outgoing}
use Rattle.rig.specs.declared.memory_sink.FailedWrite.{FailedWrite}

pub record MemorySink : Type 0 where
  pub written : List ℕ
  pub failing : List FailedWrite  -- the writes that are set to fail
  pub writes : ℕ
  pub faults : ℕ
  pub starved : ℕ  -- the faults of a sink that was out of memory

-- a sink to which nothing was written, and that fails only where it is out of memory
abbrev pub blank_sink : MemorySink
blank_sink = record { written = []; failing = []; writes = 0; faults = 0; starved = 0 }

abbrev pub outgoing_of : MemorySink → Outgoing
outgoing_of sink = record { written = Some sink.written; faults = sink.faults }

-- one more write is set to fail
abbrev pub with_failing : FailedWrite → MemorySink → MemorySink
with_failing failed sink = record sink { failing = sink.failing ++ failed ∷ [] }

-- how the next write is set to fail, where it is
abbrev pub failed_write : MemorySink → Option FailedWrite
failed_write sink = find (λ (f : FailedWrite). f.number == one_more sink.writes) sink.failing

-- the sink after the next write of these bytes: all of them, or the prefix that is set
abbrev pub sunk : Option FailedWrite → List ℕ → MemorySink → MemorySink
sunk None bytes sink = record sink { written = sink.written ++ bytes; writes = one_more sink.writes }
sunk (Some failed) bytes sink = record sink {
  written = sink.written ++ take failed.prefix bytes;
  writes = one_more sink.writes;
  faults = one_more sink.faults;
}

-- a fault of a sink that was out of memory
abbrev pub starving : MemorySink → MemorySink
starving sink = record sink { faults = one_more sink.faults; starved = one_more sink.starved }

-- after a write that found no memory
abbrev pub starved_sink : MemorySink → MemorySink
starved_sink sink = starving (record sink { writes = one_more sink.writes })

-- it does the prefix that is set for it, and fails
abbrev pub SinksPart : List ℕ → MemorySink → MemorySink → Type 0
SinksPart bytes old new =
    (failed : FailedWrite) × (failed_write old ≡ Some failed) × (new ≡ sunk (Some failed) bytes old)

-- A write does what is set for it, or it finds no memory and does nothing.
abbrev pub Sinks : {E : Type 0} → List ℕ → Result (Unit {0}) E → MemorySink → MemorySink → Type 0
Sinks bytes (Ok _) old new = (failed_write old ≡ None) × (new ≡ sunk None bytes old)
Sinks bytes (Err _) old new = SinksPart bytes old new ⊎ (new ≡ starved_sink old)
