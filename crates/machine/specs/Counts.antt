-- The counts of what was named.
use Rattle.std.specs.Prelude.{ℕ, max}
use Rattle.machine.specs.declared.counts.Counts.{Counts}

abbrev pub none : Counts
none = record { inputs = 0; events = 0; runs = 0; calls = 0; entries = 0; versions = 0 }

abbrev pub greatest_of : Counts → ℕ
greatest_of c = max (max (max c.inputs c.events) (max c.runs c.calls)) (max c.entries c.versions)
