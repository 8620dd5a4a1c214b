use Rattle.run_model.proofs.SettlingSends.{sent-step}
use Rattle.run_model.proofs.settling.calls_send_all_that_is_recorded.Goals as goal

pub returns : goal.returns
returns c = sent-step
