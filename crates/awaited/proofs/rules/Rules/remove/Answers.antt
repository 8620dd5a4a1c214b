use Rattle.awaited.proofs.RuleLemmas.{rule_gone}
use Rattle.awaited.proofs.rules.Rules.remove.Goals as goal

pub invariant_of-self : goal.invariant_of-self
invariant_of-self c = rule_gone _ _ c.self.invariant c.args.number _ _ c.drop_number.ensures c.expire.ensures
