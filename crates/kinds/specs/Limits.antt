-- The limits of the shipped programs.
use Rattle.kinds.specs.declared.limits.Limits.{Limits}

-- a gibibyte of events, results and remembered ids, a million runs, 1,024 functions
abbrev pub shipped : Limits
shipped = record { kept = 1073741824; live = 1000000; functions = 1024 }
