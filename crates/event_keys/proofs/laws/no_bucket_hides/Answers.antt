use Rattle.event_keys.proofs.MatchLemmas.{none_hides}
use Rattle.event_keys.proofs.laws.no_bucket_hides.Goals as goal

pub returns : goal.returns
returns c = none_hides
