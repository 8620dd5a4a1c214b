use Rattle.machine.proofs.VersionLemmas.{versioned-none}
use Rattle.machine.proofs.versions.Versions.empty.Goals as goal

pub invariant_of-result : goal.invariant_of-result
invariant_of-result c = versioned-none _ _ c.empty.ensures c.new.ensures.empty
