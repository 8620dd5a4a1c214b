use Rattle.machine.proofs.HeldMaking.{on-ok}
use Rattle.machine.proofs.HeldRuns.{held-add_rule}
use Rattle.machine.proofs.parts.Parts.add_rule.Goals as goal

pub returns : goal.returns
returns c =
    on-ok c.add.result _ _
    (λ added. held-add_rule c.args.self.now c.args.run c.args.first c.in_ok-number.number c.args.rule
    c.next_entry.new.self c.add.new.self c.in_ok-number.ensures.number c.in_ok-number.ensures.counted added
    c.requires.given c.requires.fit c.requires.held) c.add.ensures.ok
