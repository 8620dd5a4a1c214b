use Rattle.std.proofs.Common.{◌==◌, ◌∙◌, ap, find, sym}
use Rattle.functions.specs.Functions.{version_of}
use Rattle.functions.specs.declared.entry.FunctionEntry.{FunctionEntry}
use Rattle.lists.proofs.Stored.{numbered_found}
use Rattle.machine.specs.Versions.{Versions}
use Rattle.machine.proofs.Found.{found-back, found-front}
use Rattle.machine.proofs.versions.Versions.get.Goals as goal

pub returns-in-Some : goal.returns-in-Some
returns-in-Some c =
    sym (found-front (λ (f : FunctionEntry). c.args.version == f.version) c.in-Some.entry.now
    c.args.self.now.current c.args.self.now.retired (sym c.in-Some.ensures))

pub returns-in-None : goal.returns-in-None
returns-in-None c =
    c.get.ensures.value
    ∙ numbered_found version_of c.self.inside.retired.entries c.args.version c.self.invariant.stored
    ∙ ap (λ (v : Versions). find (λ (f : FunctionEntry). c.args.version == f.version) v.retired) c.self.view_is
    ∙ sym (found-back (λ (f : FunctionEntry). c.args.version == f.version) c.args.self.now.current
    c.args.self.now.retired (sym c.in-None.ensures))
