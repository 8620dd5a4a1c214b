use Rattle.std.specs.BTreeMap.{values}
use Rattle.kinds.specs.Queue.{is_admissible}
use Rattle.ready_queue.specs.Heads.{leads}
use Rattle.ready_queue.proofs.ScanLemmas.{IsWalking}
use Rattle.ready_queue.proofs.scan.least_open.Given as goal

abbrev pub invariant-loop-item : goal.invariant-loop-item
invariant-loop-item g l =
    (goal.iterator-loop-item g).can_next l.item-iterator ×
    (goal.iterator-loop-item g).is_finite l.item-iterator ×
    IsWalking (leads l.t (values l.items)) (is_admissible (g.G.Gate.is_open l.gate l.t) l.t) (values l.items) l.item-iterator l.best l.initial.steps l.steps
