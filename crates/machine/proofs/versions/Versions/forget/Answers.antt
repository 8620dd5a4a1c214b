use Rattle.std.proofs.Common.{◌==◌, ◌∙◌, ap, filter, not}
use Rattle.functions.specs.declared.entry.FunctionEntry.{FunctionEntry}
use Rattle.machine.specs.Versions.{Versions}
use Rattle.machine.proofs.VersionLemmas.{versioned-left}
use Rattle.machine.proofs.versions.Versions.forget.Goals as goal

pub invariant_of-self : goal.invariant_of-self
invariant_of-self c =
    (versioned-left c.self.inside.current c.self.inside.retired.entries c.remove.new.self.entries c.args.version
    c.self.invariant c.remove.ensures.entries c.remove.ensures.ordered).1

pub returns-clause-retired : goal.returns-clause-retired
returns-clause-retired c =
    (versioned-left c.self.inside.current c.self.inside.retired.entries c.remove.new.self.entries c.args.version
    c.self.invariant c.remove.ensures.entries c.remove.ensures.ordered).0
    ∙ ap (λ (v : Versions). filter (λ (f : FunctionEntry). not (c.args.version == f.version)) v.retired) c.self.view_is
