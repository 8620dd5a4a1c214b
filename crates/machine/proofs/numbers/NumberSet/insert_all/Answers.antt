use Rattle.std.proofs.Common.{◌<◌, ◌≤◌, length, take, get_or, arith, subst}
use Rattle.std.proofs.lemmas.List.{take_all, take_more}
use Rattle.machine.specs.Numbers.{AreJoined}
use Rattle.machine.proofs.Joined.{all-joined, none-joined}
use Rattle.machine.proofs.numbers.NumberSet.insert_all.Goals as goal

pub loop-number-init : goal.loop-number-init
loop-number-init c = none-joined c.args.self.now

pub loop-number-preserved : goal.loop-number-preserved
loop-number-preserved c =
    let lt : c.loop-number.number-index < length c.args.numbers.now = omega arith in
    all-joined (take c.loop-number.number-index c.args.numbers.now) _
    (get_or c.args.numbers.now c.loop-number.number-index 0) c.args.self.now c.loop-number.self c.insert.new.self
    (take_more c.args.numbers.now c.loop-number.number-index 0 lt) c.loop-number.invariant c.in_ok-insert.ensures

pub returns : goal.returns
returns c =
    let all : length c.args.numbers.now ≤ c.loop-number.number-index = omega arith in
    subst (λ ns. AreJoined ns c.args.self.now c.loop-number.self)
    (take_all c.loop-number.number-index c.args.numbers.now all) c.loop-number.invariant
