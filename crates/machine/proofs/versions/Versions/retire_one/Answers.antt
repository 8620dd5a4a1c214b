use Rattle.std.proofs.Common.{◌∷◌, ◌∙◌, [], ap, sym, subst}
use Rattle.lists.specs.Entries.{insert_by}
use Rattle.functions.specs.Functions.{version_of}
use Rattle.machine.specs.Versions.{AreFresh, Versions}
use Rattle.machine.proofs.VersionLemmas.{versioned-put}
use Rattle.machine.proofs.versions.Versions.retire_one.Goals as goal

pub invariant_of-self-2 : goal.invariant_of-self-2
invariant_of-self-2 c =
    (versioned-put c.self.inside.current c.self.inside.retired.entries c.insert.new.self.entries c.args.entry
    c.self.invariant (subst (AreFresh (c.args.entry ∷ [])) (sym c.self.view_is) c.requires)
    c.in_ok-insert.ensures.entries c.in_ok-insert.ensures.ordered).1

pub returns-clause-retired : goal.returns-clause-retired
returns-clause-retired c =
    (versioned-put c.self.inside.current c.self.inside.retired.entries c.insert.new.self.entries c.args.entry
    c.self.invariant (subst (AreFresh (c.args.entry ∷ [])) (sym c.self.view_is) c.requires)
    c.in_ok-insert.ensures.entries c.in_ok-insert.ensures.ordered).0
    ∙ ap (λ (v : Versions). insert_by version_of c.args.entry v.retired) c.self.view_is
