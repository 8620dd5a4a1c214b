-- The last line that a run writes where it doesn't end well.
use Rattle.std.specs.Prelude.{ℕ, List, [], ◌++◌, codes, decimal}
use Rattle.replay_core.specs.declared.end.ReplayEnd.{ReplayEnd}
use Rattle.replay_core.specs.declared.end.ReplayEnd.TheVariants.{Done, Script, ReadFault, WriteFault, NumbersSpent, Memory}

unfoldable pub usage_line : List ℕ
usage_line = codes "usage: replay [--brief] [--gen N]\n"

unfoldable pub script_fault : ℕ → List ℕ
script_fault line = codes "script fault in line " ++ (decimal line ++ codes "\n")

-- A script that was run to its end has printed its last line, and one whose sink failed has none.
unfoldable pub last_line : ReplayEnd → List ℕ
last_line Done = []
last_line (Script line) = script_fault line
last_line ReadFault = codes "read fault\n"
last_line WriteFault = []
last_line NumbersSpent = codes "numbers spent\n"
last_line Memory = codes "out of memory\n"
