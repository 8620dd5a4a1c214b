use Rattle.std.proofs.Common.{◌≡◌, length}
use Rattle.cel_parse.proofs.Shapes.{RulesOn}
use Rattle.cel_parse.proofs.rules.least_rule.Given as goal

abbrev pub invariant-loop-opens : goal.invariant-loop-opens
invariant-loop-opens l = (l.cutter.whole ≡ length l.text) × RulesOn l.cutter.whole l.text l.least l.opens l.seat l.cutter.rest.now

abbrev pub decreases-loop-opens : goal.decreases-loop-opens
decreases-loop-opens l = length l.cutter.rest.now
