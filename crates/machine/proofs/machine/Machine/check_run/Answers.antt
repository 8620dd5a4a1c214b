use Rattle.std.proofs.Common.{◌∙◌, false, sym, true}
use Rattle.machine.proofs.ViewLemmas.{refused-cancel}
use Rattle.machine.proofs.machine.Machine.check_run.Goals as goal

pub returns-in-None : goal.returns-in-None
returns-in-None c =
    refused-cancel c.parts-parts.result.now c.args.self.now c.args.run true c.parts-parts.ensures.state c.in-None.ensures
    (sym c.if-is_last.true ∙ c.is_last.ensures)

pub returns-in-None-2 : goal.returns-in-None-2
returns-in-None-2 c =
    refused-cancel c.parts-parts.result.now c.args.self.now c.args.run false c.parts-parts.ensures.state c.in-None-2.ensures
    (sym c.if-is_last.false ∙ c.is_last.ensures)
