use Rattle.std.proofs.Common.{◌∙◌, sym}
use Rattle.machine.proofs.NextHeld.{is-next}
use Rattle.machine.proofs.parts.Parts.discover_next.Goals as goal

pub returns : goal.returns
returns c =
    is-next c.args.self.now c.discover_run.new.self c.in-Some.run' c.pop_first.result c.pop_first.new.self
    (sym c.in-Some.is ∙ c.first.ensures) c.in_ok-discover_run.ensures.now c.in_ok-discover_run.ensures.wanting
    c.pop_first.ensures c.requires.held
