use Rattle.awaited.proofs.RuleLemmas.{rules_gone}
use Rattle.awaited.proofs.rules.Rules.drop_run.Goals as goal

pub invariant_of-self : goal.invariant_of-self
invariant_of-self c = rules_gone _ _ c.self.invariant c.args.run _ _ c.drop_run.ensures c.remove_run.ensures
