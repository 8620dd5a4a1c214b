use Rattle.ready_queue_tests.proofs.Rows.{shut_none, shut_one_left}
use Rattle.ready_queue_tests.proofs.tests.freed.Goals as goal

pub settle_next-open-requires-clause-shut : goal.settle_next-open-requires-clause-shut
settle_next-open-requires-clause-shut g c = shut_none _ _ _ _ c.in_ok-queue.ensures.full c.in_ok-queue.ensures.later

pub settle_next-freed-requires-clause-shut : goal.settle_next-freed-requires-clause-shut
settle_next-freed-requires-clause-shut g c =
    shut_one_left _ _ _ _ _ _ _ _ _ c.empty-keys.ensures c.in_ok-enter.ensures.ok c.leave.ensures
    c.settle_next-open.ensures.shut c.in_ok-freed.ensures.fewer c.in_ok-freed.ensures.ok
