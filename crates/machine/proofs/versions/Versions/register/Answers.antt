use Rattle.std.proofs.Common.{◌≤◌, ◌++◌, ◌∙◌, ap, filter, not, sym, subst}
use Rattle.std.specs.List.{AllByRecursion}
use Rattle.functions.specs.Functions.{registered, stays}
use Rattle.functions.specs.declared.entry.FunctionEntry.{FunctionEntry}
use Rattle.machine.specs.Versions.{Versions}
use Rattle.machine.proofs.VersionLemmas.{fresh-replaced, versioned-alone, versioned-registered}
use Rattle.machine.proofs.versions.Versions.register.Goals as goal

pub invariant_of-self : goal.invariant_of-self
invariant_of-self c =
    versioned-alone _ _ (c.replace-before.ensures.after ∙ c.empty.ensures) c.self.invariant.stored

pub invariant_of-self-2 : goal.invariant_of-self-2
invariant_of-self-2 c =
    versioned-registered c.args.app c.args.versions c.self.inside.current _ c.self.inside.retired.entries
    (subst (λ (v : Versions). AllByRecursion (λ (f : FunctionEntry). f.version ≤ c.args.versions) (v.current ++ v.retired))
    (sym c.self.view_is) c.requires.given) c.self.invariant
    (c.in_ok-registered.ensures.functions ∙ ap (registered c.args.app c.args.versions) c.replace-before.ensures.value)

pub retire-requires : goal.retire-requires
retire-requires c =
    fresh-replaced c.args.app c.args.versions c.self.inside.current _ c.self.inside.retired.entries
    (subst (λ (v : Versions). AllByRecursion (λ (f : FunctionEntry). f.version ≤ c.args.versions) (v.current ++ v.retired))
    (sym c.self.view_is) c.requires.given) c.self.invariant
    (c.in_ok-registered.ensures.functions ∙ ap (registered c.args.app c.args.versions) c.replace-before.ensures.value)
    _ (c.in_ok-registered.ensures.replaced ∙ ap (filter (λ f. not (stays c.args.app f))) c.replace-before.ensures.value)
