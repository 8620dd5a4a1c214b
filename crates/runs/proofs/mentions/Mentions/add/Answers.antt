use Rattle.std.proofs.Common.{[], ◌∷◌, subst}
use Rattle.runs.specs.Mentions.{IsJoined}
use Rattle.runs.proofs.Mentioned.{joined_one}
use Rattle.runs.proofs.mentions.Mentions.add.Goals as goal

pub returns : goal.returns
returns c =
    subst (λ old. IsJoined (c.args.part ∷ []) c.args.number old c.insert.new.self.keys) c.self.view_is
    (joined_one c.args.part c.args.number c.self.inside.pairs.keys c.insert.new.self.keys c.in_ok-insert.ensures.updates.0)
