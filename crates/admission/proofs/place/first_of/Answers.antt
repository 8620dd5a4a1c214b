use Rattle.std.proofs.Common.{sym}
use Rattle.admission.specs.Indexes.{digest}
use Rattle.admission.proofs.Places.{no_passing_key, passing_key}
use Rattle.admission.proofs.place.first_of.Goals as goal

pub returns-in_default-clause-none : goal.returns-in_default-clause-none
returns-in_default-clause-none g c =
    no_passing_key (g.T.Targets.is_target c.args.entries.now c.args.target.now) c.args.run (digest c.args.target.now) c.args.places.now.keys (sym c.in_default.ensures)

pub returns-clause-some : goal.returns-clause-some
returns-clause-some g c =
    passing_key (g.T.Targets.is_target c.args.entries.now c.args.target.now) c.args.run (digest c.args.target.now) c.args.places.now.keys c.in-Some.place.now (sym c.in-Some.ensures)
