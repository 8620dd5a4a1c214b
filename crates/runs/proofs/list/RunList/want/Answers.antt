use Rattle.std.proofs.Common.{◌∙◌, ap, refl}
use Rattle.runs.specs.Changes.{changed, want}
use Rattle.runs.proofs.Listed.{indexed_changed}
use Rattle.runs.proofs.list.RunList.want.Goals as goal

pub invariant_of-self : goal.invariant_of-self
invariant_of-self c =
    (indexed_changed c.self.inside.runs.entries c.self.inside.bytes c.self.inside.events c.self.inside.versions c.self.invariant c.want_at.new.runs.entries c.args.number want (λ r. refl) (λ r. refl) (λ r. refl) (λ r. refl) c.want_at.ensures).1

pub returns : goal.returns
returns c =
    (indexed_changed c.self.inside.runs.entries c.self.inside.bytes c.self.inside.events c.self.inside.versions c.self.invariant c.want_at.new.runs.entries c.args.number want (λ r. refl) (λ r. refl) (λ r. refl) (λ r. refl) c.want_at.ensures).0
    ∙ ap (changed c.args.number want) c.self.view_is
