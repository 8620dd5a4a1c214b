use Rattle.std.proofs.Common.{◌∙◌, ap, sym}
use Rattle.kinds.specs.Cells.{is_allowed, may_start}
use Rattle.ready_queue.proofs.ParkLemmas.{held_before}
use Rattle.ready_queue.proofs.parking.held_till.Goals as goal

pub returns-clause-held : goal.returns-clause-held
returns-clause-held c = λ cells t less.
    ap (λ o. may_start o t c.args.throttle.now) c.in-Some.is
    ∙ held_before c.args.throttle.now c.release_moment-moment.result (λ m. is_allowed c.in-Some.cell m c.args.throttle.now) (λ m. ap (λ o. is_allowed o m c.args.throttle.now) (sym c.get.ensures) ∙ c.release_moment-moment.ensures.least m) t less
