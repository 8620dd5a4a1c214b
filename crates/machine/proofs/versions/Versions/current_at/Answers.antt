use Rattle.std.proofs.Common.{rules, Ok, Err, Some, ◌==◌, ◌∙◌, ap, find, sym, subst}
use Rattle.std.specs.List.Sorted.{IsStrictlySortedBy}
use Rattle.std.proofs.lemmas.List.Sorted.{answers_always}
use Rattle.functions.specs.declared.entry.FunctionEntry.{FunctionEntry}
use Rattle.machine.specs.Versions.{Versions, by_version}
use Rattle.machine.proofs.VersionSearch.{searched}
use Rattle.machine.proofs.versions.Versions.current_at.Goals as goal

pub returns-in-Ok : goal.returns-in-Ok
returns-in-Ok c =
    let fs = c.as_slice-current.result.now in
    let ordered = subst (IsStrictlySortedBy by_version) (sym c.as_slice-current.ensures) c.self.invariant.ordered in
    let by_key = c.in-Ok.ensures.position (λ (f : FunctionEntry). f.version)
    (answers_always _ _ _ (λ f a r g called. search rules)) in
    ap (λ f. Some f) c.index-current-place.is
    ∙ searched fs c.args.version ordered (Ok c.in-Ok.place) c.in-Ok.ensures.bound by_key c.index-current-place.result
    ∙ ap (find (λ (f : FunctionEntry). c.args.version == f.version))
    (c.as_slice-current.ensures ∙ ap (λ (v : Versions). v.current) c.self.view_is)

pub returns-in-Err : goal.returns-in-Err
returns-in-Err c =
    let fs = c.as_slice-current.result.now in
    let ordered = subst (IsStrictlySortedBy by_version) (sym c.as_slice-current.ensures) c.self.invariant.ordered in
    let by_key = c.in-Err.ensures.position (λ (f : FunctionEntry). f.version)
    (answers_always _ _ _ (λ f a r g called. search rules)) in
    sym (searched fs c.args.version ordered (Err c.in-Err.field-0) c.in-Err.ensures.bound by_key)
    ∙ ap (find (λ (f : FunctionEntry). c.args.version == f.version))
    (c.as_slice-current.ensures ∙ ap (λ (v : Versions). v.current) c.self.view_is)
