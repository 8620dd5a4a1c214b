use Rattle.event_keys.proofs.MatchLemmas.{rules_matched, waits_matched}
use Rattle.event_keys.proofs.laws.one_event_is_matched.Goals as goal

pub returns-clause-waits : goal.returns-clause-waits
returns-clause-waits c = waits_matched

pub returns-clause-rules : goal.returns-clause-rules
returns-clause-rules c = rules_matched
