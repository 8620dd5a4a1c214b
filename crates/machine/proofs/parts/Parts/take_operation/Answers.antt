use Rattle.std.proofs.Common.{◌∙◌, sym}
use Rattle.runs.specs.declared.naming.Naming.TheVariants.{Full}
use Rattle.machine.specs.View.{state_of}
use Rattle.machine.proofs.HeldOperations.{gives-named, if-stops, is-early, operation-full, operation-known, operation-new}
use Rattle.machine.proofs.HeldMaking.{on-ok}
use Rattle.machine.proofs.HeldReplies.{none-of}
use Rattle.machine.proofs.parts.Parts.take_operation.Goals as goal

pub returns-in-Some-clause-taken : goal.returns-in-Some-clause-taken
returns-in-Some-clause-taken g c =
    (is-early c.args.self.now c.args.item.now c.args.no_retry c.args.op c.in-Some.taken c.requires.held
    (sym c.in-Some.is ∙ c.take_early.ensures)).0

pub returns-in-Some-clause-now : goal.returns-in-Some-clause-now
returns-in-Some-clause-now g c =
    (is-early c.args.self.now c.args.item.now c.args.no_retry c.args.op c.in-Some.taken c.requires.held
    (sym c.in-Some.is ∙ c.take_early.ensures)).1

pub returns-in-New-clause-taken : goal.returns-in-New-clause-taken
returns-in-New-clause-taken g c =
    (operation-new c.args.self.now c.take_named.new.self c.args.item.now c.args.no_retry c.args.op
    c.in_ok-naming.naming c.in-New.is (sym (none-of c.take_early.result c.in_default.not-Some) ∙ c.take_early.ensures)
    c.in_ok-naming.ensures.named c.in_ok-naming.ensures.now).0

pub returns-in-New-clause-now : goal.returns-in-New-clause-now
returns-in-New-clause-now g c =
    (operation-new c.args.self.now c.take_named.new.self c.args.item.now c.args.no_retry c.args.op
    c.in_ok-naming.naming c.in-New.is (sym (none-of c.take_early.result c.in_default.not-Some) ∙ c.take_early.ensures)
    c.in_ok-naming.ensures.named c.in_ok-naming.ensures.now).1

pub returns-in-Known-clause-taken : goal.returns-in-Known-clause-taken
returns-in-Known-clause-taken g c =
    (operation-known c.args.self.now c.take_named.new.self c.args.item.now c.args.no_retry c.args.op
    c.in_ok-naming.naming c.in-Known.is (sym (none-of c.take_early.result c.in_default.not-Some)
    ∙ c.take_early.ensures) c.in_ok-naming.ensures.named c.in_ok-naming.ensures.now).0

pub returns-in-Known-clause-now : goal.returns-in-Known-clause-now
returns-in-Known-clause-now g c =
    (operation-known c.args.self.now c.take_named.new.self c.args.item.now c.args.no_retry c.args.op
    c.in_ok-naming.naming c.in-Known.is (sym (none-of c.take_early.result c.in_default.not-Some)
    ∙ c.take_early.ensures) c.in_ok-naming.ensures.named c.in_ok-naming.ensures.now).1

pub returns-in-Full-clause-taken : goal.returns-in-Full-clause-taken
returns-in-Full-clause-taken g c =
    let late = sym (none-of c.take_early.result c.in_default.not-Some) ∙ c.take_early.ensures in
    if-stops c.stop.result _
    (gives-named c.args.item.now c.args.no_retry c.args.op (state_of c.args.self.now) Full late
    (sym c.in-Full.is ∙ c.in_ok-naming.ensures.named)).taken c.stop.ensures.taken

pub returns-in-Full-clause-now : goal.returns-in-Full-clause-now
returns-in-Full-clause-now g c =
    let late = sym (none-of c.take_early.result c.in_default.not-Some) ∙ c.take_early.ensures in
    on-ok c.stop.result _ _
    (λ k. (operation-full c.args.self.now c.take_named.new.self c.stop.new.self c.args.item.now c.args.no_retry c.args.op
    c.in_ok-naming.naming c.in-Full.is late c.in_ok-naming.ensures.named c.in_ok-naming.ensures.now k).1)
    c.stop.ensures.now
