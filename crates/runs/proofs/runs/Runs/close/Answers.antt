use Rattle.std.proofs.Common.{subst}
use Rattle.lists.specs.Entries.{AreApart}
use Rattle.runs.specs.Runs.{RunLists, run_number}
use Rattle.runs.proofs.Listed.{disjoint_closed}
use Rattle.runs.proofs.runs.Runs.close.Goals as goal

pub invariant_of-self : goal.invariant_of-self
invariant_of-self c = disjoint_closed c.args.number c.self.inside.live c.self.inside.closing c.remove.new.self c.remove.ensures.left c.self.invariant

pub returns-clause-apart : goal.returns-clause-apart
returns-clause-apart c = subst (λ (l : RunLists). AreApart run_number l.closing) c.self.view_is c.remove.ensures.apart
