use Rattle.event_keys.proofs.BucketLaw.{has_value}
use Rattle.event_keys.proofs.laws.buckets_are_right.Goals as goal

pub returns : goal.returns
returns c = has_value
