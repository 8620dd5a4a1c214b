use Rattle.std.proofs.Common.{◌∙◌, ap}
use Rattle.runs.specs.Runs.{run_at}
use Rattle.runs.proofs.Listed.{held_found}
use Rattle.runs.proofs.list.RunList.get.Goals as goal

pub returns : goal.returns
returns c = c.find_at.ensures.value ∙ held_found c.self.inside.runs.entries c.self.inside.bytes c.self.inside.events c.self.inside.versions c.self.invariant c.args.number ∙ ap (run_at c.args.number) c.self.view_is
