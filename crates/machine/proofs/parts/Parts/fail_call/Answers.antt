use Rattle.std.proofs.Common.{◌∙◌, sym}
use Rattle.kinds.specs.ErrorObject.{error_object}
use Rattle.machine.proofs.HeldMaking.{on-ok}
use Rattle.machine.proofs.HeldReplies.{call-failed-then, failed-unknown, none-of, stands-aside}
use Rattle.machine.proofs.parts.Parts.fail_call.Goals as goal

pub returns-in_default : goal.returns-in_default
returns-in_default g c =
    failed-unknown c.args.call c.args.self.now c.close.new.self c.in_ok-item.ensures.now
    (error_object c.args.message.now)
    (sym (none-of c.in_ok-item.field-0 c.in_default.not-Some) ∙ c.in_ok-item.ensures.item)

pub retry_with-requires-clause-aside : goal.retry_with-requires-clause-aside
retry_with-requires-clause-aside g c =
    stands-aside c.args.call c.args.self.now c.close.new.self c.in_ok-item.ensures.now c.in-Some.item
    (sym c.in-Some.is ∙ c.in_ok-item.ensures.item) c.requires.apart

pub returns : goal.returns
returns g c =
    on-ok c.discover.result _ _
    (λ found. call-failed-then c.args.call c.args.self.now c.close.new.self c.in_ok-item.ensures.now c.in-Some.item
    (sym c.in-Some.is ∙ c.in_ok-item.ensures.item) c.retry_with.new.self c.discover.new.self
    (error_object c.args.message.now) c.in_ok-retry_with.ensures found) c.discover.ensures.now
