use Rattle.std.proofs.Common.{◌∙◌, ap, sym}
use Rattle.run_model.specs.Making.{first_of}
use Rattle.machine.proofs.HeldMaking.{on-ok}
use Rattle.machine.proofs.HeldRuns.{decided-drafts, decided-fit, decided-next, held-make_run}
use Rattle.machine.proofs.parts.Parts.make_run.Goals as goal

pub add_rules-requires-clause-fit : goal.add_rules-requires-clause-fit
add_rules-requires-clause-fit c =
    decided-drafts c.args.self.now c.args.version c.in_ok-number.number c.first_of-first.result c.args.events
    c.in-Some.plan
    (record {
      plan_is = sym c.in-Some.is ∙ c.in_ok-plan.ensures;
      next = c.in_ok-number.ensures;
      first_is = c.first_of-first.ensures ∙ ap first_of c.as_slice.ensures;
    })

pub add_run-requires-clause-next : goal.add_run-requires-clause-next
add_run-requires-clause-next c =
    decided-next c.args.self.now c.args.version c.in_ok-number.number c.first_of-first.result c.args.events
    c.in-Some.plan
    (record {
      plan_is = sym c.in-Some.is ∙ c.in_ok-plan.ensures;
      next = c.in_ok-number.ensures;
      first_is = c.first_of-first.ensures ∙ ap first_of c.as_slice.ensures;
    }) c.add_rules.new.self c.in_ok-add_rules.ensures

pub add_run-requires-clause-fit : goal.add_run-requires-clause-fit
add_run-requires-clause-fit c =
    decided-fit c.args.self.now c.args.version c.in_ok-number.number c.first_of-first.result c.args.events
    c.in-Some.plan
    (record {
      plan_is = sym c.in-Some.is ∙ c.in_ok-plan.ensures;
      next = c.in_ok-number.ensures;
      first_is = c.first_of-first.ensures ∙ ap first_of c.as_slice.ensures;
    }) c.add_rules.new.self c.args.parent c.in_ok-add_rules.ensures c.requires.given c.requires.held

pub returns : goal.returns
returns c =
    on-ok c.add_run.result _ _
    (λ begun. held-make_run c.args.self.now c.args.version c.in_ok-number.number c.first_of-first.result
    c.args.events c.in-Some.plan
    (record {
      plan_is = sym c.in-Some.is ∙ c.in_ok-plan.ensures;
      next = c.in_ok-number.ensures;
      first_is = c.first_of-first.ensures ∙ ap first_of c.as_slice.ensures;
    }) c.add_rules.new.self c.add_run.new.self c.args.parent c.in_ok-add_rules.ensures begun) c.add_run.ensures
