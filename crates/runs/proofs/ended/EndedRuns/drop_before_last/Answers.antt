use Rattle.runs.proofs.Splits.{split_dropped}
use Rattle.runs.proofs.ended.EndedRuns.drop_before_last.Goals as goal

pub invariant_of-self : goal.invariant_of-self
invariant_of-self c = (split_dropped c.self.inside.early c.self.inside.last c.self.inside.events c.self.invariant c.args.run c.remove.new.self c.remove.ensures).1
