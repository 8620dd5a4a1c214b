use Rattle.std.proofs.Common.{◌∙◌, sym}
use Rattle.machine.proofs.HeldMaking.{on-ok}
use Rattle.machine.proofs.HeldOffers.{full-given, gathered-full, gathered-waits}
use Rattle.machine.proofs.parts.Parts.gather.Goals as goal

pub make_run-requires-clause-given : goal.make_run-requires-clause-given
make_run-requires-clause-given c =
    full-given c.args.self.now c.args.version c.args.rule.now c.args.value c.args.event c.requires.right
    c.requires.given c.requires.held c.join.new.self c.in-Full.events c.in-Full.was_open
    (sym c.in-Full.is ∙ c.in_ok-placed.ensures.placed) c.in_ok-placed.ensures.now

pub returns-in_default : goal.returns-in_default
returns-in_default c =
    gathered-waits c.args.self.now c.args.version c.args.rule.now c.args.value c.args.event c.requires.right
    c.requires.given c.requires.held c.join.new.self c.in_ok-placed.placed c.in_ok-placed.ensures.placed
    c.in_default.not-Full c.in_ok-placed.ensures.now

pub returns : goal.returns
returns c =
    on-ok c.make_run.result _ _
    (λ made. gathered-full c.args.self.now c.args.version c.args.rule.now c.args.value c.args.event c.requires.right
    c.requires.given c.requires.held c.join.new.self c.in-Full.events c.in-Full.was_open
    (sym c.in-Full.is ∙ c.in_ok-placed.ensures.placed) c.in_ok-placed.ensures.now c.make_run.new.self made)
    c.make_run.ensures
