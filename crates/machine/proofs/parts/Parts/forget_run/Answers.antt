use Rattle.std.proofs.Common.{◌∙◌, sym}
use Rattle.machine.proofs.HeldMaking.{on-ok}
use Rattle.machine.proofs.HeldTidy.{held-forget_none, held-forget_some}
use Rattle.machine.proofs.parts.Parts.forget_run.Goals as goal

pub returns-in-Some-clause-now : goal.returns-in-Some-clause-now
returns-in-Some-clause-now c =
    on-ok c.touch.result _ _
    (λ touched. held-forget_some c.args.self.now c.args.run c.in-Some.closed c.version.result c.events.result.now
    c.drop_before_last.new.self c.close.new.self c.touch.new.self c.drop_before_last.ensures
    (record {
      value = sym c.in-Some.is ∙ c.close.ensures.value;
      live = c.close.ensures.live;
      closing = c.close.ensures.closing;
      apart = c.close.ensures.apart;
    }) c.version.ensures c.events.ensures touched c.requires.held) c.touch.ensures

pub returns-in-None-clause-now : goal.returns-in-None-clause-now
returns-in-None-clause-now c =
    held-forget_none c.args.self.now c.args.run c.drop_before_last.new.self c.close.new.self
    c.drop_before_last.ensures
    (record {
      value = sym c.in-None.is ∙ c.close.ensures.value;
      live = c.close.ensures.live;
      closing = c.close.ensures.closing;
      apart = c.close.ensures.apart;
    }) c.requires.held
