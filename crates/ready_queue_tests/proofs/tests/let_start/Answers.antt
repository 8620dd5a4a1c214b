use Rattle.ready_queue.proofs.Shut.{shut_passed}
use Rattle.ready_queue_tests.proofs.Rows.{shut_none}
use Rattle.ready_queue_tests.proofs.tests.let_start.Goals as goal

pub settle_next-held-requires-clause-shut : goal.settle_next-held-requires-clause-shut
settle_next-held-requires-clause-shut g c = shut_none _ _ _ _ c.in_ok-queue.ensures.full c.in_ok-queue.ensures.later

pub settle_next-early-requires-clause-shut : goal.settle_next-early-requires-clause-shut
settle_next-early-requires-clause-shut g c =
    shut_passed _ _ _ _ _ _ c.settle_next-held.ensures.shut c.in_ok-pass.ensures.fewer c.in_ok-pass.ensures.ok

pub settle_next-due-requires-clause-shut : goal.settle_next-due-requires-clause-shut
settle_next-due-requires-clause-shut g c =
    shut_passed _ _ _ _ _ _ c.settle_next-early.ensures.shut c.in_ok-pass-2.ensures.fewer c.in_ok-pass-2.ensures.ok
