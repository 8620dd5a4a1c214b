use Rattle.std.proofs.Common.{◌∙◌}
use Rattle.kinds.specs.Stores.{rule_condition}
use Rattle.matching_tests.proofs.Rows.{right_of}
use Rattle.matching_tests.proofs.cancelling.cancelled.Goals as goal

pub matches-requires : goal.matches-requires
matches-requires g c = record {
  right = right_of rule_condition _ c.args.number c.in_ok-event.event c.args.rules.now
      (c.new-matcher.ensures ∙ c.in_ok-digits.ensures) c.in_ok-event.ensures c.requires.own;
}
