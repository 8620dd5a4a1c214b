use Rattle.std.proofs.Common.{◌∙◌, ap}
use Rattle.runs.specs.Changes.{changed, if_new, record_in}
use Rattle.machine.proofs.HeldRecording.{held-record}
use Rattle.machine.proofs.parts.Parts.keep.Goals as goal

pub returns-in_ok-insert-in-New-clause-now : goal.returns-in_ok-insert-in-New-clause-now
returns-in_ok-insert-in-New-clause-now c =
    let m = c.args.self.now in
    held-record m c.args.run c.args.hash.now c.args.text c.insert.new.self c.remove_step.new.self c.keep.new.self
    c.remove_step.ensures
    (c.in_ok-naming.ensures.live
    ∙ ap (λ n. if_new n (changed c.args.run (record_in c.args.hash.now c.args.text) m.runs.live) m.runs.live)
    c.in-New.is)
    c.keep.ensures.closing c.in_ok-insert-in-New.ensures c.requires.held
