use Rattle.std.proofs.Common.{◌≡◌, map, take}
use Rattle.functions.specs.Functions.{version_of}
use Rattle.machine.proofs.versions.Versions.current_versions.Given as goal

abbrev pub invariant-loop-entry : goal.invariant-loop-entry
invariant-loop-entry l = l.versions ≡ map version_of (take l.entry-index l.entry-items)
