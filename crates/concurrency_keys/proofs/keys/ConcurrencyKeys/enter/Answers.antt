use Rattle.std.proofs.Common.{sym, ◌∙◌, ap, subst}
use Rattle.std.specs.List.{find}
use Rattle.std.specs.Map.{values_of}
use Rattle.kinds.specs.Cells.{has_issue, insert_issue}
use Rattle.kinds.specs.declared.cell.IssueEntry.{IssueEntry}
use Rattle.concurrency_keys.specs.Counts.{IsRaisedAll}
use Rattle.concurrency_keys.proofs.CountLemmas.{counted_put}
use Rattle.concurrency_keys.proofs.keys.ConcurrencyKeys.enter.Goals as goal

pub invariant_of-self-in-Ok : goal.invariant_of-self-in-Ok
invariant_of-self-in-Ok c =
    let same = c.in_ok-clone.ensures.cases in
    (counted_put c.self.inside.issues.entries c.insert.new.self.entries (record { issue = c.args.issue; cells = c.in_ok-clone.field-0 }) c.self.inside.counters c.raise_all.new.self c.self.invariant
    (ap (find (has_issue c.args.issue)) c.self.view_is ∙ c.requires.fresh) c.in-Ok.ensures.entries c.in-Ok.ensures.ordered
    (subst (λ xs. IsRaisedAll xs c.self.inside.counters c.raise_all.new.self) (c.as_slice.ensures ∙ sym same) c.in_ok-raise_all.ensures.ok)).1

pub returns-clause-ok : goal.returns-clause-ok
returns-clause-ok c =
    let same = c.in_ok-clone.ensures.cases in
    let entered : IssueEntry = record { issue = c.args.issue; cells = c.args.cells.now } in
    (counted_put c.self.inside.issues.entries c.insert.new.self.entries (record { issue = c.args.issue; cells = c.in_ok-clone.field-0 }) c.self.inside.counters c.raise_all.new.self c.self.invariant
    (ap (find (has_issue c.args.issue)) c.self.view_is ∙ c.requires.fresh) c.in-Ok.ensures.entries c.in-Ok.ensures.ordered
    (subst (λ xs. IsRaisedAll xs c.self.inside.counters c.raise_all.new.self) (c.as_slice.ensures ∙ sym same) c.in_ok-raise_all.ensures.ok)).0
    ∙ ap (λ cs. insert_issue (record { issue = c.args.issue; cells = cs }) (values_of c.self.inside.issues.entries)) same
    ∙ ap (insert_issue entered) c.self.view_is
