use Rattle.awaited.proofs.RuleLemmas.{rule_first}
use Rattle.awaited.proofs.rules.Rules.first.Goals as goal

pub returns : goal.returns
returns c = rule_first _ _ c.self.invariant _ _ c.self.view_is c.first_of.ensures
