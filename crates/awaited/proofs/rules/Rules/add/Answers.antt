use Rattle.std.proofs.Common.{◌<◌, ◌∙◌, ◌++◌, ◌∷◌, [], sym, ap, subst}
use Rattle.std.specs.List.{AllByRecursion}
use Rattle.kinds.specs.Stores.{rule_number}
use Rattle.awaited.proofs.RuleLemmas.{rule_new, rule_due_new, rule_added, rule_unadded}
use Rattle.awaited.proofs.rules.Rules.add.Goals as goal

pub put_due-requires : goal.put_due-requires
put_due-requires c = rule_due_new _ _ c.self.invariant c.args.rule (subst (AllByRecursion (λ e. rule_number e < rule_number c.args.rule)) (sym c.self.view_is) c.requires.below)

pub add-requires : goal.add-requires
add-requires c = record { new = rule_new _ _ c.self.invariant c.args.rule (subst (AllByRecursion (λ e. rule_number e < rule_number c.args.rule)) (sym c.self.view_is) c.requires.below) }

pub invariant_of-self-in-Ok : goal.invariant_of-self-in-Ok
invariant_of-self-in-Ok c = (rule_added _ _ c.self.invariant c.args.rule (subst (AllByRecursion (λ e. rule_number e < rule_number c.args.rule)) (sym c.self.view_is) c.requires.below) _ _ c.in_ok-put_due.ensures.ok c.in-Ok.ensures.ok).1

pub invariant_of-self-in-Err : goal.invariant_of-self-in-Err
invariant_of-self-in-Err c = rule_unadded _ _ c.self.invariant c.args.rule (subst (AllByRecursion (λ e. rule_number e < rule_number c.args.rule)) (sym c.self.view_is) c.requires.below) _ _ _ c.in_ok-put_due.ensures.ok c.drop_number.ensures c.in-Err.ensures.err

pub returns-clause-ok : goal.returns-clause-ok
returns-clause-ok c =
    (rule_added _ _ c.self.invariant c.args.rule (subst (AllByRecursion (λ e. rule_number e < rule_number c.args.rule)) (sym c.self.view_is) c.requires.below) _ _ c.in_ok-put_due.ensures.ok c.in-Ok.ensures.ok).0
    ∙ ap (λ es. es ++ c.args.rule ∷ []) c.self.view_is
