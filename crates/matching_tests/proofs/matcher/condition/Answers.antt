use Rattle.matching_tests.proofs.Rows.{null_read}
use Rattle.matching_tests.proofs.matcher.condition.Goals as goal

pub new-requires : goal.new-requires
new-requires c = record { tree = null_read _ c.in_ok-from_slice.ensures }
