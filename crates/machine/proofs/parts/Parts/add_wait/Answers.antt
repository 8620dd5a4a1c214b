use Rattle.std.proofs.Common.{[], ◌∷◌, ◌++◌, ◌∙◌, ap}
use Rattle.awaited.specs.Beside.{waiting_with}
use Rattle.machine.proofs.HeldOperations.{held-waited}
use Rattle.machine.proofs.parts.Parts.add_wait.Goals as goal

pub returns : goal.returns
returns c =
    let m = c.args.self.now in
    held-waited m c.args.run c.args.hash c.args.name c.args.timeout c.args.cond c.next_entry.new.self c.add.new.self
    c.in_ok-next_entry.ensures.counted
    (c.in_ok-add.ensures.ok ∙ ap (λ w. m.waits ++ waiting_with w c.args.hash ∷ []) c.in_ok-wait.ensures)
    c.requires.held
