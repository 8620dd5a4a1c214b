use Rattle.std.proofs.Common.{◌∙◌, ap, is_some}
use Rattle.kinds.specs.RunSteps.{is_recorded}
use Rattle.run_state.proofs.Names.{place_found}
use Rattle.run_state.proofs.active.Active.is_recorded.Goals as goal

pub returns : goal.returns
returns c = c.contains_key.ensures ∙ ap is_some (c.self.invariant.placed c.args.hash.now) ∙ place_found c.args.hash.now c.self.inside.recorded ∙ ap (is_recorded c.args.hash.now) c.self.view_is
