use Rattle.std.proofs.Common.{◌∙◌, ap, refl}
use Rattle.runs.specs.Changes.{changed, called}
use Rattle.runs.proofs.Listed.{indexed_changed}
use Rattle.runs.proofs.list.RunList.call.Goals as goal

pub invariant_of-self : goal.invariant_of-self
invariant_of-self c =
    (indexed_changed c.self.inside.runs.entries c.self.inside.bytes c.self.inside.events c.self.inside.versions c.self.invariant c.call_at.new.runs.entries c.args.number (called c.args.target.now) (λ r. refl) (λ r. refl) (λ r. refl) (λ r. refl) c.call_at.ensures).1

pub returns : goal.returns
returns c =
    (indexed_changed c.self.inside.runs.entries c.self.inside.bytes c.self.inside.events c.self.inside.versions c.self.invariant c.call_at.new.runs.entries c.args.number (called c.args.target.now) (λ r. refl) (λ r. refl) (λ r. refl) (λ r. refl) c.call_at.ensures).0
    ∙ ap (changed c.args.number (called c.args.target.now)) c.self.view_is
