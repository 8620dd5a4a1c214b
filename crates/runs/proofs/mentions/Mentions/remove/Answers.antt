use Rattle.std.proofs.Common.{[], ◌∷◌, subst}
use Rattle.runs.specs.Mentions.{IsParted}
use Rattle.runs.proofs.Mentioned.{parted_one}
use Rattle.runs.proofs.mentions.Mentions.remove.Goals as goal

pub returns : goal.returns
returns c =
    subst (λ old. IsParted (c.args.part ∷ []) c.args.number old c.remove.new.self.keys) c.self.view_is
    (parted_one c.args.part c.args.number c.self.inside.pairs.keys c.remove.new.self.keys c.remove.ensures.updates.0)
