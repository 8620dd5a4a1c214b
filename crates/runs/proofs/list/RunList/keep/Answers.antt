use Rattle.std.proofs.Common.{◌+◌, ◌∙◌, ap, sym}
use Rattle.runs.specs.Changes.{changed, if_new, record_in, naming_in, keep_in, with_result}
use Rattle.runs.specs.Indexes.{changed_at, held}
use Rattle.runs.specs.Runs.{run_at}
use Rattle.runs.proofs.Listed.{held_found, indexed_recorded, keeps_alike_in, sum_by}
use Rattle.runs.proofs.list.RunList.keep.Goals as goal

pub returns-in_default-clause-named : goal.returns-in_default-clause-named
returns-in_default-clause-named c = ap (naming_in (keep_in c.args.hash.now c.args.text)) (c.in_default.ensures.value ∙ held_found c.self.inside.runs.entries c.self.inside.bytes c.self.inside.events c.self.inside.versions c.self.invariant c.args.number ∙ ap (run_at c.args.number) c.self.view_is)

pub invariant_of-self-in-New : goal.invariant_of-self-in-New
invariant_of-self-in-New c =
    (indexed_recorded c.self.inside.runs.entries c.self.inside.bytes c.self.inside.events c.self.inside.versions c.self.invariant c.keep_at.new.runs.entries c.args.number c.args.hash.now c.args.text c.in_ok-text.text _ c.in_ok-bytes.bytes c.in-Some.ensures.value c.in_ok-text.ensures
    (sum_by c.checked_add.result c.in_ok-bytes.bytes _ _ c.checked_add.ensures c.in_ok-bytes.ensures.ok_part ∙ ap (λ m. c.self.inside.bytes + m) c.len.ensures)
    (c.in_ok-naming.ensures.now ∙ ap (λ n. if_new n (changed_at c.args.number (with_result c.args.hash.now c.in_ok-text.text) c.self.inside.runs.entries) c.self.inside.runs.entries) c.in-New.is)).1

pub returns-in-New-clause-now : goal.returns-in-New-clause-now
returns-in-New-clause-now c =
    (indexed_recorded c.self.inside.runs.entries c.self.inside.bytes c.self.inside.events c.self.inside.versions c.self.invariant c.keep_at.new.runs.entries c.args.number c.args.hash.now c.args.text c.in_ok-text.text _ c.in_ok-bytes.bytes c.in-Some.ensures.value c.in_ok-text.ensures
    (sum_by c.checked_add.result c.in_ok-bytes.bytes _ _ c.checked_add.ensures c.in_ok-bytes.ensures.ok_part ∙ ap (λ m. c.self.inside.bytes + m) c.len.ensures)
    (c.in_ok-naming.ensures.now ∙ ap (λ n. if_new n (changed_at c.args.number (with_result c.args.hash.now c.in_ok-text.text) c.self.inside.runs.entries) c.self.inside.runs.entries) c.in-New.is)).0
    ∙ ap (changed c.args.number (record_in c.args.hash.now c.args.text)) c.self.view_is

pub returns-in-New-clause-named : goal.returns-in-New-clause-named
returns-in-New-clause-named c =
    sym c.in-New.is ∙ c.in_ok-naming.ensures.named ∙ keeps_alike_in c.args.hash.now c.args.text c.in_ok-text.text (held c.args.number c.self.inside.runs.entries)
    ∙ ap (naming_in (keep_in c.args.hash.now c.args.text)) (held_found c.self.inside.runs.entries c.self.inside.bytes c.self.inside.events c.self.inside.versions c.self.invariant c.args.number ∙ ap (run_at c.args.number) c.self.view_is)

pub returns-in-Known-clause-named : goal.returns-in-Known-clause-named
returns-in-Known-clause-named c =
    sym c.in-Known.is ∙ c.in_ok-naming.ensures.named ∙ keeps_alike_in c.args.hash.now c.args.text c.in_ok-text.text (held c.args.number c.self.inside.runs.entries)
    ∙ ap (naming_in (keep_in c.args.hash.now c.args.text)) (held_found c.self.inside.runs.entries c.self.inside.bytes c.self.inside.events c.self.inside.versions c.self.invariant c.args.number ∙ ap (run_at c.args.number) c.self.view_is)

pub returns-in-Full-clause-named : goal.returns-in-Full-clause-named
returns-in-Full-clause-named c =
    sym c.in-Full.is ∙ c.in_ok-naming.ensures.named ∙ keeps_alike_in c.args.hash.now c.args.text c.in_ok-text.text (held c.args.number c.self.inside.runs.entries)
    ∙ ap (naming_in (keep_in c.args.hash.now c.args.text)) (held_found c.self.inside.runs.entries c.self.inside.bytes c.self.inside.events c.self.inside.versions c.self.invariant c.args.number ∙ ap (run_at c.args.number) c.self.view_is)
