use Rattle.std.proofs.Common.{◌+◌, ◌∙◌, ap, arith}
use Rattle.runs.specs.Changes.{changed, is_pending_in, record_in}
use Rattle.runs.specs.Runs.{run_at}
use Rattle.runs.proofs.Listed.{held_found, indexed_recorded, sum_by}
use Rattle.runs.proofs.list.RunList.wake.Goals as goal

pub returns-in_default-clause-woken : goal.returns-in_default-clause-woken
returns-in_default-clause-woken c = ap (is_pending_in c.args.hash.now) (c.in_default.ensures.value ∙ held_found c.self.inside.runs.entries c.self.inside.bytes c.self.inside.events c.self.inside.versions c.self.invariant c.args.number ∙ ap (run_at c.args.number) c.self.view_is)

pub returns-then-not-is_pending-clause-woken : goal.returns-then-not-is_pending-clause-woken
returns-then-not-is_pending-clause-woken c =
    let found = ap (is_pending_in c.args.hash.now) (c.in-Some.ensures.value ∙ held_found c.self.inside.runs.entries c.self.inside.bytes c.self.inside.events c.self.inside.versions c.self.invariant c.args.number ∙ ap (run_at c.args.number) c.self.view_is) in
    let test = c.is_pending.ensures in
    let no = c.if-not-is_pending.true in
    grind (arith, found, test, no)

pub invariant_of-self-2 : goal.invariant_of-self-2
invariant_of-self-2 c =
    (indexed_recorded c.self.inside.runs.entries c.self.inside.bytes c.self.inside.events c.self.inside.versions c.self.invariant c.wake_at.new.runs.entries c.args.number c.args.hash.now c.args.text c.in_ok-text.text _ c.in_ok-bytes.bytes c.in-Some.ensures.value c.in_ok-text.ensures
    (sum_by c.checked_add.result c.in_ok-bytes.bytes _ _ c.checked_add.ensures c.in_ok-bytes.ensures.ok_part ∙ ap (λ m. c.self.inside.bytes + m) c.len.ensures) c.in_ok-wake_at.ensures.ok).1

pub returns-clause-woken : goal.returns-clause-woken
returns-clause-woken c =
    let found = ap (is_pending_in c.args.hash.now) (c.in-Some.ensures.value ∙ held_found c.self.inside.runs.entries c.self.inside.bytes c.self.inside.events c.self.inside.versions c.self.invariant c.args.number ∙ ap (run_at c.args.number) c.self.view_is) in
    let test = c.is_pending.ensures in
    let yes = c.if-not-is_pending.false in
    grind (arith, found, test, yes)

pub returns-clause-now : goal.returns-clause-now
returns-clause-now c =
    (indexed_recorded c.self.inside.runs.entries c.self.inside.bytes c.self.inside.events c.self.inside.versions c.self.invariant c.wake_at.new.runs.entries c.args.number c.args.hash.now c.args.text c.in_ok-text.text _ c.in_ok-bytes.bytes c.in-Some.ensures.value c.in_ok-text.ensures
    (sum_by c.checked_add.result c.in_ok-bytes.bytes _ _ c.checked_add.ensures c.in_ok-bytes.ensures.ok_part ∙ ap (λ m. c.self.inside.bytes + m) c.len.ensures) c.in_ok-wake_at.ensures.ok).0
    ∙ ap (changed c.args.number (record_in c.args.hash.now c.args.text)) c.self.view_is
