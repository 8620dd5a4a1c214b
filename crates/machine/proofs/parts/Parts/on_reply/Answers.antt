use Rattle.std.proofs.Common.{◌∙◌, sym}
use Rattle.machine.proofs.HeldMaking.{on-ok}
use Rattle.machine.proofs.HeldReplies.{call-answered, call-late, call-unknown, none-of, stands-aside}
use Rattle.machine.proofs.parts.Parts.on_reply.Goals as goal

pub returns-in_default : goal.returns-in_default
returns-in_default g c =
    call-unknown c.args.call c.args.self.now c.close.new.self c.in_ok-item.ensures.now c.args.reply.now
    (sym (none-of c.in_ok-item.field-0 c.in_default.not-Some) ∙ c.in_ok-item.ensures.item)

pub returns-then-not-is_live : goal.returns-then-not-is_live
returns-then-not-is_live g c =
    call-late c.args.call c.args.self.now c.close.new.self c.in_ok-item.ensures.now c.in-Some.item
    (sym c.in-Some.is ∙ c.in_ok-item.ensures.item) c.args.reply.now
    (sym c.if-not-is_live.true ∙ c.is_live.ensures)

pub take_outcome-requires-clause-aside : goal.take_outcome-requires-clause-aside
take_outcome-requires-clause-aside g c =
    stands-aside c.args.call c.args.self.now c.close.new.self c.in_ok-item.ensures.now c.in-Some.item
    (sym c.in-Some.is ∙ c.in_ok-item.ensures.item) c.requires.apart

pub returns : goal.returns
returns g c =
    on-ok c.discover.result _ _
    (λ found. call-answered c.args.call c.args.self.now c.close.new.self c.in_ok-item.ensures.now c.in-Some.item
    (sym c.in-Some.is ∙ c.in_ok-item.ensures.item) c.take_outcome.new.self c.discover.new.self c.args.reply.now
    c.in_ok-outcome.outcome c.in_ok-outcome.ensures
    (sym c.if-not-is_live.false ∙ c.is_live.ensures) c.in_ok-take_outcome.ensures found)
    c.discover.ensures.now
