use Rattle.std.proofs.Common.{◌∙◌, sym}
use Rattle.machine.proofs.HeldMaking.{held-queued, on-ok, queued-fresh, queued-start}
use Rattle.machine.proofs.parts.Parts.queue_new.Goals as goal

pub add-requires-clause-fresh : goal.add-requires-clause-fresh
add-requires-clause-fresh c =
    queued-fresh c.args.self.now c.args.run c.args.target.now c.in-Some.item
    (sym c.in-Some.is ∙ c.in_ok-item.ensures) c.requires.held

pub add-requires-clause-start : goal.add-requires-clause-start
add-requires-clause-start c =
    queued-start c.args.self.now c.args.run c.args.target.now c.in-Some.item
    (sym c.in-Some.is ∙ c.in_ok-item.ensures) c.requires.held

pub returns-clause-now : goal.returns-clause-now
returns-clause-now c =
    on-ok c.add.result _ _
    (λ added. held-queued c.args.self.now c.args.run c.args.target.now c.in-Some.item c.next_entry.new.self
    c.add.new.self (sym c.in-Some.is ∙ c.in_ok-item.ensures) c.in_ok-next_entry.ensures.counted added
    c.requires.held) c.add.ensures.ok
