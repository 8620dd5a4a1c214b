use Rattle.std.proofs.Common.{◌++◌, ◌∙◌, ap}
use Rattle.machine.specs.View.{state_of}
use Rattle.machine.proofs.HeldMaking.{on-ok}
use Rattle.machine.proofs.Stepped.{events-outs}
use Rattle.machine.proofs.parts.Parts.act.Goals as goal

pub returns-in-Events-clause-outs : goal.returns-in-Events-clause-outs
returns-in-Events-clause-outs g c =
    on-ok c.take_events.result _ _
    (λ told. told ∙ ap (λ os. c.args.outs.now ++ os)
    (events-outs c.in-Events.at c.in-Events.events c.as_slice.result.now (state_of c.args.self.now) c.args.input
    c.as_slice.ensures c.in-Events.is)) c.take_events.ensures.outs
