use Rattle.std.proofs.Common.{◌∙◌, ap, subst}
use Rattle.event_texts.specs.Texts.{text_at, text_or_none}
use Rattle.machine.specs.Held.{Becomes}
use Rattle.machine.specs.View.{state_of}
use Rattle.machine.specs.Words.{when_of}
use Rattle.run_model.specs.Events.{wake}
use Rattle.run_model.specs.Recording.{data_result}
use Rattle.machine.proofs.HeldEvents.{nothing-over, wait-over}
use Rattle.machine.proofs.HeldMaking.{on-ok}
use Rattle.machine.proofs.parts.Parts.end_wait_by.Goals as goal

pub returns-in_default : goal.returns-in_default
returns-in_default c =
    nothing-over (when_of c.args.discovery)
    (data_result (text_or_none (text_at c.args.event c.args.self.now.texts.texts))) c.args.wait c.args.self.now
    c.take_wait.new.self c.in_default.ensures.step c.take_wait.ensures.now

pub returns : goal.returns
returns c =
    let m = c.args.self.now in
    on-ok c.discovered.result _ _
    (λ became. subst (λ r. Becomes (wake (when_of c.args.discovery) r c.args.wait (state_of m)) m c.discovered.new.self)
    (c.in_ok-result.ensures ∙ ap data_result c.text_or_none.ensures)
    (wait-over (when_of c.args.discovery) c.in_ok-result.result c.args.wait m c.take_wait.new.self c.wake.new.self
    c.discovered.new.self c.in-Some.waiting c.in-Some.ensures.step c.take_wait.ensures.now c.in_ok-wake.ensures became))
    c.discovered.ensures
