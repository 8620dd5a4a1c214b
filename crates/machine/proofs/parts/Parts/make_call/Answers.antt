use Rattle.std.proofs.Common.{◌∙◌, ◌+◌, ap, sym}
use Rattle.admission.specs.Admission.{with_issued}
use Rattle.runs.specs.Changes.{called, changed}
use Rattle.machine.specs.declared.counts.Counts.{Counts}
use Rattle.machine.proofs.HeldSettle.{held-make_call}
use Rattle.machine.proofs.parts.Parts.make_call.Goals as goal

pub returns : goal.returns
returns c =
    let m = c.args.self.now in
    let i = c.in-Some.item.now in
    let first = c.in_ok-call.ensures.counted in
    held-make_call m c.args.number i c.next_entry.new.self c.issue.new.self c.call.new.self
    (sym c.in-Some.ensures) c.requires.apart.queued c.requires.now
    (c.in_ok-limit.ensures.counted ∙ ap (λ (k : Counts). record k { entries = k.entries + 1 }) first)
    (c.in_ok-issue.ensures ∙ ap (λ n. with_issued c.args.number n c.in_ok-limit.limit m.admission) c.in_ok-call.ensures.number
    ∙ ap (λ n. with_issued c.args.number (m.counts.calls + 1) n m.admission)
    (c.in_ok-limit.ensures.number ∙ ap (λ (k : Counts). k.entries + 1) first))
    (c.call.ensures.live ∙ ap (λ t. changed i.run (called t) m.runs.live) (c.as_slice.ensures ∙ c.in_ok-target.ensures.cases))
    c.call.ensures.closing c.requires.held
