use Rattle.std.proofs.Common.{subst}
use Rattle.ready_queue.proofs.ParkLemmas.{fewer_self, to_come, none_to_come}
use Rattle.ready_queue.proofs.parking.ParkingQueue.wake_first.Goals as goal

pub returns-in_default-clause-done : goal.returns-in_default-clause-done
returns-in_default-clause-done c = none_to_come c.args.t c.args.self.now c.in_default.ensures.none

pub returns-in_default-clause-fewer : goal.returns-in_default-clause-fewer
returns-in_default-clause-fewer c = fewer_self _

pub returns-then-moment-t-clause-done : goal.returns-then-moment-t-clause-done
returns-then-moment-t-clause-done c = to_come c.args.t _ c.args.self.now c.in-Some.ensures.least c.if-moment-t.true

pub returns-then-moment-t-clause-fewer : goal.returns-then-moment-t-clause-fewer
returns-then-moment-t-clause-fewer c = fewer_self _
