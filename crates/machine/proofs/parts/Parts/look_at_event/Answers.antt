use Rattle.std.proofs.Common.{◌∙◌, sym}
use Rattle.machine.proofs.HeldMaking.{on-ok}
use Rattle.machine.proofs.HeldNamed.{counted-settled, held-counted}
use Rattle.machine.proofs.parts.Parts.look_at_event.Goals as goal

pub returns-then-is_event_used-clause-now : goal.returns-then-is_event_used-clause-now
returns-then-is_event_used-clause-now c =
    on-ok c.count.result _ _
    (λ told. held-counted c.args.self.now c.args.event c.count.new.self
    (sym c.is_event_used.ensures ∙ c.if-is_event_used.true) told c.requires.held) c.count.ensures.ok

pub returns-then-is_event_used-clause-settled : goal.returns-then-is_event_used-clause-settled
returns-then-is_event_used-clause-settled c =
    on-ok c.count.result _ _
    (λ told. counted-settled c.args.self.now c.args.event c.count.new.self
    (sym c.is_event_used.ensures ∙ c.if-is_event_used.true) told) c.count.ensures.ok
