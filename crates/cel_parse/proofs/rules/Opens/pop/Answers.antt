use Rattle.std.proofs.Common.{◌≡◌, ◌∷◌, [], List, subst, MatchOption}
use Rattle.cel_parse.specs.declared.rules.Shape.{Shape}
use Rattle.cel_parse.specs.Rules.{onto}
use Rattle.cel_parse.proofs.Shapes.{popped-shape}
use Rattle.cel_parse.proofs.rules.Opens.pop.Goals as goal

pub returns : goal.returns
returns c = subst (λ (os : List Shape). MatchOption c.pop.result ((os ≡ []) × (onto [] c.pop.new.self.items ≡ [])) (λ x. os ≡ x ∷ onto [] c.pop.new.self.items)) c.self.view_is
    (popped-shape c.self.inside.items c.pop.new.self c.pop.result c.pop.ensures.items c.pop.ensures.cases)
