use Rattle.std.proofs.Common.{◌∙◌}
use Rattle.kinds.specs.Stores.{wait_condition}
use Rattle.matching_tests.proofs.Rows.{right_of, equal}
use Rattle.matching_tests.proofs.waiting.meets.Goals as goal

pub matches-requires : goal.matches-requires
matches-requires g c = record {
  right = right_of wait_condition _ c.args.number c.in_ok-event.event c.args.waits.now
      (c.new-matcher.ensures ∙ equal _ _ c.if-ne.ensures ∙ c.in_ok-digits.ensures) c.in_ok-event.ensures c.requires.own;
}
