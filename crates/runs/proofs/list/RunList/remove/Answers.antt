use Rattle.std.proofs.Common.{◌-◌, ◌∙◌, ap, refl, sym, arith, subst}
use Rattle.lists.proofs.Stored.{numbered_left}
use Rattle.lists.specs.Entries.{AreApart, without}
use Rattle.runs.specs.Indexes.{IsIndexed}
use Rattle.runs.specs.Runs.{run_at, run_number}
use Rattle.runs.proofs.Listed.{held_found, indexed_apart, indexed_bytes, indexed_left}
use Rattle.runs.proofs.list.RunList.remove.Goals as goal

pub returns-in_err-run-clause-value : goal.returns-in_err-run-clause-value
returns-in_err-run-clause-value c = c.from_residual.ensures ∙ c.in_err-run.ensures.value ∙ held_found c.self.inside.runs.entries c.self.inside.bytes c.self.inside.events c.self.inside.versions c.self.invariant c.args.number ∙ ap (run_at c.args.number) c.self.view_is

pub returns-in_err-run-clause-left : goal.returns-in_err-run-clause-left
returns-in_err-run-clause-left c =
    (numbered_left run_number c.self.inside.runs.entries c.take_at.new.runs.entries c.args.number c.self.invariant.stored c.take_at.ensures.entries c.take_at.ensures.ordered).0
    ∙ ap (without run_number c.args.number) c.self.view_is

pub invariant_of-self : goal.invariant_of-self
invariant_of-self c =
    subst (λ entries. IsIndexed entries c.self.inside.bytes c.self.inside.events c.self.inside.versions)
    (sym c.in_err-run.ensures.unchanged) c.self.invariant

pub overflow_sub-self : goal.overflow_sub-self
overflow_sub-self c =
    let b = indexed_bytes c.self.inside.runs.entries c.self.inside.bytes c.self.inside.events c.self.inside.versions c.self.invariant c.args.number _ c.in_ok-run.ensures.value in
    let e = c.bytes.ensures in
    omega (arith, b, e)

pub invariant_of-self-2 : goal.invariant_of-self-2
invariant_of-self-2 c =
    (indexed_left c.self.inside.runs.entries c.self.inside.bytes c.self.inside.events c.self.inside.versions c.self.invariant c.take_at.new.runs.entries c.args.number _ (c.self.inside.bytes - c.bytes.result) c.bytes.result c.version.result c.events.result.now c.remove_all.new.self c.remove.new.self
    c.events.ensures c.version.ensures c.bytes.ensures c.in_ok-run.ensures.value c.take_at.ensures.entries c.take_at.ensures.ordered refl c.remove_all.ensures c.remove.ensures).1

pub returns-clause-value : goal.returns-clause-value
returns-clause-value c = c.in_ok-run.ensures.value ∙ held_found c.self.inside.runs.entries c.self.inside.bytes c.self.inside.events c.self.inside.versions c.self.invariant c.args.number ∙ ap (run_at c.args.number) c.self.view_is

pub returns-clause-left : goal.returns-clause-left
returns-clause-left c =
    (numbered_left run_number c.self.inside.runs.entries c.take_at.new.runs.entries c.args.number c.self.invariant.stored c.take_at.ensures.entries c.take_at.ensures.ordered).0
    ∙ ap (without run_number c.args.number) c.self.view_is

pub returns-in_err-run-clause-apart : goal.returns-in_err-run-clause-apart
returns-in_err-run-clause-apart c =
    subst (AreApart run_number) c.self.view_is
    (indexed_apart c.self.inside.runs.entries c.self.inside.bytes c.self.inside.events c.self.inside.versions c.self.invariant)

pub returns-clause-apart : goal.returns-clause-apart
returns-clause-apart c =
    subst (AreApart run_number) c.self.view_is
    (indexed_apart c.self.inside.runs.entries c.self.inside.bytes c.self.inside.events c.self.inside.versions c.self.invariant)
