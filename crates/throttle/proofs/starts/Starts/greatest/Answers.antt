use Rattle.std.proofs.Common.{◌∙◌, ap}
use Rattle.kinds.specs.Cells.{greatest_at}
use Rattle.throttle.proofs.PlaceLemmas.{greatest_of_place, place_found}
use Rattle.throttle.proofs.starts.Starts.greatest.Goals as goal

pub returns-in-Some : goal.returns-in-Some
returns-in-Some c =
    ap greatest_of_place c.in-Some.ensures.value ∙ place_found c.args.cell.now c.self.inside.places.entries ∙ ap (greatest_at c.args.cell.now) c.self.view_is

pub returns-in-None : goal.returns-in-None
returns-in-None c =
    ap greatest_of_place c.in-None.ensures.value ∙ place_found c.args.cell.now c.self.inside.places.entries ∙ ap (greatest_at c.args.cell.now) c.self.view_is
