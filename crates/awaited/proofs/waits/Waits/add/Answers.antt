use Rattle.std.proofs.Common.{◌<◌, ◌∙◌, ◌++◌, ◌∷◌, [], sym, ap, subst}
use Rattle.std.specs.List.{AllByRecursion}
use Rattle.kinds.specs.Stores.{wait_number}
use Rattle.awaited.specs.Entries.{waiting_number}
use Rattle.awaited.specs.Beside.{waiting_with}
use Rattle.awaited.proofs.BesideLemmas.{steps_below, wait_new, added, unadded}
use Rattle.awaited.proofs.waits.Waits.add.Goals as goal

pub add-requires : goal.add-requires
add-requires c = record { below = steps_below _ _ c.self.invariant (wait_number c.args.wait) (subst (AllByRecursion (λ e. waiting_number e < wait_number c.args.wait)) (sym c.self.view_is) c.requires.below) }

pub add-requires-2 : goal.add-requires-2
add-requires-2 c = record { new = wait_new _ _ c.self.invariant (wait_number c.args.wait) (subst (AllByRecursion (λ e. waiting_number e < wait_number c.args.wait)) (sym c.self.view_is) c.requires.below) }

pub invariant_of-self-in-Ok : goal.invariant_of-self-in-Ok
invariant_of-self-in-Ok c = (added _ _ c.self.invariant c.args.wait c.args.hash (subst (AllByRecursion (λ e. waiting_number e < wait_number c.args.wait)) (sym c.self.view_is) c.requires.below) _ _ c.in-Ok.ensures.ok c.in_ok-add.ensures.ok).1

pub invariant_of-self-in-Err : goal.invariant_of-self-in-Err
invariant_of-self-in-Err c = (unadded _ _ c.self.invariant c.args.wait c.args.hash (subst (AllByRecursion (λ e. waiting_number e < wait_number c.args.wait)) (sym c.self.view_is) c.requires.below) _ _ _ c.in-Err.ensures.err c.in_ok-add.ensures.ok c.remove.ensures.left).1

pub returns-in-Err-clause-err : goal.returns-in-Err-clause-err
returns-in-Err-clause-err c = (unadded _ _ c.self.invariant c.args.wait c.args.hash (subst (AllByRecursion (λ e. waiting_number e < wait_number c.args.wait)) (sym c.self.view_is) c.requires.below) _ _ _ c.in-Err.ensures.err c.in_ok-add.ensures.ok c.remove.ensures.left).0 ∙ c.self.view_is

pub returns-clause-ok : goal.returns-clause-ok
returns-clause-ok c =
    (added _ _ c.self.invariant c.args.wait c.args.hash (subst (AllByRecursion (λ e. waiting_number e < wait_number c.args.wait)) (sym c.self.view_is) c.requires.below) _ _ c.in-Ok.ensures.ok c.in_ok-add.ensures.ok).0
    ∙ ap (λ es. es ++ waiting_with c.args.wait c.args.hash ∷ []) c.self.view_is
