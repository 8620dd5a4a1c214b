use Rattle.std.proofs.Common.{◌+◌, max, sym, ◌∙◌, ap, ap₂}
use Rattle.kinds.specs.Cells.{spacing, greatest_in, greatest_at}
use Rattle.kinds.specs.declared.cell.StartEntry.{StartEntry}
use Rattle.throttle.proofs.StartLemmas.{greatest_after, put_found}
use Rattle.throttle.proofs.starts.Starts.start.Goals as goal

pub returns-clause-stands : goal.returns-clause-stands
returns-clause-stands c = λ starts h.
    let put : StartEntry = record { cell = c.args.cell.now; greatest = c.max.result + c.pace_of.result.spacing } in
    let found = ap (greatest_at c.args.cell.now) c.in_ok-put.ensures.ok ∙ ap greatest_in (put_found put c.args.self.now) in
    greatest_after c.args.cell.now starts c.args.t
    ∙ ap (λ g. max g c.args.t + spacing c.args.cell.now) (h ∙ sym c.greatest.ensures)
    ∙ ap₂ (λ m s. m + s) (sym c.max.ensures) (sym c.pace_of.ensures.spacing)
    ∙ sym found
