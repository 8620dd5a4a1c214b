use Rattle.std.proofs.Common.{◌<◌, length, take, get_or, arith}
use Rattle.std.proofs.lemmas.List.{take_more}
use Rattle.machine.proofs.ViewLemmas.{added-next}
use Rattle.machine.proofs.views.add_all.Goals as goal

pub loop-number-preserved : goal.loop-number-preserved
loop-number-preserved c =
    let lt : c.loop-number.number-index < length c.args.numbers.now = omega arith in
    added-next (take c.loop-number.number-index c.args.numbers.now) _
    (get_or c.args.numbers.now c.loop-number.number-index 0) c.args.set.now.keys c.loop-number.set.keys
    c.insert.new.self.keys (take_more c.args.numbers.now c.loop-number.number-index 0 lt) c.loop-number.invariant
    c.in_ok-insert.ensures.keys
