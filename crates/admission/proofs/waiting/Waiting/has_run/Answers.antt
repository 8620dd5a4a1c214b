use Rattle.std.proofs.Common.{sym}
use Rattle.kinds.specs.Queue.{has_run}
use Rattle.admission.proofs.Found.{in_any}
use Rattle.admission.proofs.waiting.Waiting.has_run.Goals as goal

pub returns-in_default : goal.returns-in_default
returns-in_default c = sym c.in_default.ensures.none

pub returns : goal.returns
returns c = sym (in_any (has_run c.args.run) c.in-Some._number c.args.self.now.items c.in-Some.ensures.some)
