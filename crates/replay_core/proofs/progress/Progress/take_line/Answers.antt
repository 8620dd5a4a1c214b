use Rattle.std.proofs.Common.{Some, ap, ◌∙◌}
use Rattle.replay_core.specs.declared.line.Line.TheVariants.{Asks}
use Rattle.replay_core.proofs.RangeLemmas.{input-in}
use Rattle.replay_core.proofs.progress.Progress.take_line.Goals as goal

pub take_input-requires : goal.take_input-requires
take_input-requires c =
    let asks = c.in-Some-Asks-Input in
    record {
      ranges = input-in c.read_functions_are_in_range.ensures _ _ asks.input c.in_ok-read_line.ensures
          (asks.is ∙ ap Some (asks.field-0-is ∙ ap Asks asks.field-0-0-is));
    }
