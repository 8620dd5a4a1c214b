use Rattle.std.proofs.Common.{◌∙◌, ap, arith}
use Rattle.std.specs.Int.{w128, to_be_bytes}
use Rattle.step_ids.specs.Run.{run_value}
use Rattle.step_ids.proofs.run.uuid_of.Goals as goal

pub returns : goal.returns
unfolding run_value
returns c = c.from_u64_pair.ensures ∙ ap (to_be_bytes w128) (omega arith)
