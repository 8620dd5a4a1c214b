use Rattle.std.proofs.Common.{◌∙◌, ap, nat_lt}
use Rattle.runs.specs.Counts.{count_of}
use Rattle.runs.proofs.Counting.{some_counted}
use Rattle.runs.proofs.counted.Counted.any.Goals as goal

pub returns : goal.returns
returns c = c.contains_key.ensures ∙ some_counted _ (c.self.invariant c.args.part) ∙ ap (λ cs. nat_lt 0 (count_of c.args.part cs)) c.self.view_is
