use Rattle.std.proofs.Common.{◌∙◌, sym}
use Rattle.machine.proofs.HeldNamed.{discounted-settled, gone-settled, held-discounted, held-gone}
use Rattle.machine.proofs.parts.Parts.discount.Goals as goal

pub returns-then-is_named-clause-now : goal.returns-then-is_named-clause-now
returns-then-is_named-clause-now c =
    held-discounted c.args.self.now c.args.event c.discount.new.self c.requires.unused
    (sym c.is_named.ensures ∙ c.if-is_named.true) c.discount.ensures c.requires.held

pub returns-then-is_named-clause-settled : goal.returns-then-is_named-clause-settled
returns-then-is_named-clause-settled c =
    discounted-settled c.args.self.now c.args.event c.discount.new.self c.requires.unused
    (sym c.is_named.ensures ∙ c.if-is_named.true) c.discount.ensures

pub returns-clause-now : goal.returns-clause-now
returns-clause-now c =
    held-gone c.args.self.now c.args.event c.discount.new.self c.remove.new.self c.requires.unused
    (sym c.is_named.ensures ∙ c.if-is_named.false) c.discount.ensures c.remove.ensures c.requires.held

pub returns-clause-settled : goal.returns-clause-settled
returns-clause-settled c =
    gone-settled c.args.self.now c.args.event c.discount.new.self c.remove.new.self c.remove.ensures
