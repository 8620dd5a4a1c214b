use Rattle.std.proofs.Common.{◌∙◌}
use Rattle.machine.proofs.HeldMaking.{on-ok}
use Rattle.machine.proofs.HeldNamed.{tidy-rest, tidy-state}
use Rattle.machine.proofs.parts.Parts.tidy.Goals as goal

pub returns-clause-state : goal.returns-clause-state
returns-clause-state c =
    on-ok c.weigh.result _ _
    (λ weighed. tidy-state c.args.self.now c.drop_runs.new.self c.drop_events.new.self c.drop_versions.new.self
    c.in_ok-drop_runs.ensures.now c.in_ok-drop_runs.ensures.none c.in_ok-drop_events.ensures.now
    c.drop_versions.ensures.now (c.drop_versions.ensures.events ∙ c.in_ok-drop_events.ensures.none)
    c.drop_versions.ensures.none) c.weigh.ensures

pub returns-clause-rest : goal.returns-clause-rest
returns-clause-rest c =
    on-ok c.weigh.result _ _
    (λ weighed. tidy-rest c.args.self.now c.drop_runs.new.self c.drop_events.new.self c.drop_versions.new.self
    c.in_ok-drop_runs.ensures.now c.in_ok-drop_runs.ensures.none c.in_ok-drop_events.ensures.now
    c.in_ok-drop_events.ensures.runs c.in_ok-drop_events.ensures.none c.drop_versions.ensures.now
    c.drop_versions.ensures.runs c.drop_versions.ensures.events c.drop_versions.ensures.none c.requires.now weighed)
    c.weigh.ensures
