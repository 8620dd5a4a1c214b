use Rattle.machine.proofs.HeldMaking.{on-ok}
use Rattle.machine.proofs.HeldTime.{held-arrived}
use Rattle.machine.proofs.parts.Parts.arrive.Goals as goal

pub returns : goal.returns
returns c =
    on-ok c.arrive.result _ _
    (λ passed. held-arrived c.args.self.now c.args.moment c.forget.new.self c.arrive.new.self c.forget.ensures passed
    c.requires.near c.requires.held) c.arrive.ensures.ok
