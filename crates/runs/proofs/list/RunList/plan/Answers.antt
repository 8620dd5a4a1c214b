use Rattle.std.proofs.Common.{◌≡◌, ◌∙◌, ap, refl, subst}
use Rattle.std.specs.Map.{values_of}
use Rattle.std.specs.Prelude.{IfOk, OnErr}
use Rattle.runs.specs.Changes.{changed, if_new, naming_in, with_plan, plan_in}
use Rattle.runs.specs.Runs.{run_at}
use Rattle.runs.proofs.Kept.{noted_indexed, noted_values, failed_values}
use Rattle.runs.proofs.Listed.{held_found}
use Rattle.runs.proofs.list.RunList.plan.Goals as goal

pub invariant_of-self : goal.invariant_of-self
invariant_of-self c = noted_indexed c.self.inside.runs.entries c.self.inside.bytes c.self.inside.events c.self.inside.versions c.self.invariant c.plan_at.new.runs.entries c.args.number (with_plan c.args.hash.now) (record { number = λ r. refl; events = λ r. refl; version = λ r. refl; results = λ r. refl }) c.plan_at.result c.plan_at.ensures.now c.plan_at.ensures.err

pub returns-clause-named : goal.returns-clause-named
returns-clause-named c =
    subst (λ o. IfOk c.plan_at.result (λ n. n ≡ naming_in (plan_in c.args.hash.now) o)) (held_found c.self.inside.runs.entries c.self.inside.bytes c.self.inside.events c.self.inside.versions c.self.invariant c.args.number ∙ ap (run_at c.args.number) c.self.view_is) c.plan_at.ensures.named

pub returns-clause-now : goal.returns-clause-now
returns-clause-now c =
    subst (λ xs. IfOk c.plan_at.result (λ n. values_of c.plan_at.new.runs.entries ≡ if_new n (changed c.args.number (with_plan c.args.hash.now) xs) xs)) c.self.view_is
    (noted_values c.self.inside.runs.entries c.self.inside.bytes c.self.inside.events c.self.inside.versions c.self.invariant c.plan_at.new.runs.entries c.args.number (with_plan c.args.hash.now) (record { number = λ r. refl; events = λ r. refl; version = λ r. refl; results = λ r. refl }) c.plan_at.result c.plan_at.ensures.now)

pub returns-clause-err : goal.returns-clause-err
returns-clause-err c =
    subst (λ xs. OnErr c.plan_at.result (values_of c.plan_at.new.runs.entries ≡ xs)) c.self.view_is
    (failed_values c.self.inside.runs.entries c.plan_at.new.runs.entries c.plan_at.result c.plan_at.ensures.err)
