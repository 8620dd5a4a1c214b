use Rattle.std.proofs.Common.{◌∙◌, ap}
use Rattle.lists.specs.Entries.{without}
use Rattle.awaited.specs.Entries.{waiting_run}
use Rattle.awaited.proofs.BesideLemmas.{run_gone}
use Rattle.awaited.proofs.waits.Waits.drop_run.Goals as goal

pub invariant_of-self : goal.invariant_of-self
invariant_of-self c = (run_gone _ _ c.self.invariant c.args.run _ _ c.remove_run.ensures c.drop_run.ensures).1

pub returns : goal.returns
returns c = (run_gone _ _ c.self.invariant c.args.run _ _ c.remove_run.ensures c.drop_run.ensures).0 ∙ ap (without waiting_run c.args.run) c.self.view_is
