use Rattle.std.proofs.Common.{◌∷◌, ◌∙◌, ap, List}
use Rattle.cel_parse.specs.declared.rules.Shape.{Shape}
use Rattle.cel_parse.proofs.Shapes.{pushed-shape}
use Rattle.cel_parse.proofs.rules.Opens.push.Goals as goal

pub returns : goal.returns
returns c = pushed-shape c.self.inside.items.items _ c.args.shape c.in_ok-push.ensures.items ∙ ap (λ (os : List Shape). c.args.shape ∷ os) c.self.view_is
