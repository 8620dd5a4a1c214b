use Rattle.std.proofs.Common.{◌<◌, ◌∙◌, ◌++◌, ◌∷◌, [], sym, ap, subst}
use Rattle.std.specs.List.{AllByRecursion}
use Rattle.timers.proofs.DueLemmas.{below_none}
use Rattle.awaited.proofs.timed.TimedList.add.Goals as goal
use Rattle.awaited.proofs.BehindLemmas.{insert_last, due_new, due_put, due_back}

pub put_due-requires : goal.put_due-requires
put_due-requires g c =
    due_new g.E.Timed.due_of g.E.Ranked.number_of g.E.OfRun.run_of c.args.entry _ _ _ c.self.invariant c.number-number.ensures
    (subst (AllByRecursion (λ e. g.E.Ranked.number_of e < g.E.Ranked.number_of c.args.entry)) (sym c.self.view_is) c.requires.below)

pub put-requires : goal.put-requires
put-requires g c =
    below_none g.E.Ranked.number_of (g.E.Ranked.number_of c.args.entry) _
    (subst (AllByRecursion (λ e. g.E.Ranked.number_of e < g.E.Ranked.number_of c.args.entry)) (sym c.self.view_is) c.requires.below)

pub invariant_of-self-in-Ok : goal.invariant_of-self-in-Ok
invariant_of-self-in-Ok g c =
    let below = subst (AllByRecursion (λ e. g.E.Ranked.number_of e < g.E.Ranked.number_of c.args.entry)) (sym c.self.view_is) c.requires.below in
    due_put g.E.Timed.due_of g.E.Ranked.number_of g.E.OfRun.run_of c.args.entry _ _ _ _ _ _ _ c.self.invariant c.due.ensures c.number-number.ensures c.run.ensures below c.in_ok-put_due.ensures.ok
    (c.in-Ok.ensures.ok ∙ insert_last g.E.Ranked.number_of g.E.Ranked.rank_of g.met.E.Timed.by_number c.args.entry c.self.inside.entries below)

pub invariant_of-self-in-Err : goal.invariant_of-self-in-Err
invariant_of-self-in-Err g c =
    let below = subst (AllByRecursion (λ e. g.E.Ranked.number_of e < g.E.Ranked.number_of c.args.entry)) (sym c.self.view_is) c.requires.below in
    due_back g.E.Timed.due_of g.E.Ranked.number_of g.E.OfRun.run_of c.args.entry _ _ _ _ _ _ _ _ c.self.invariant c.due.ensures c.number-number.ensures c.run.ensures below c.in_ok-put_due.ensures.ok
    c.drop_number.ensures c.in-Err.ensures.err

pub returns-clause-ok : goal.returns-clause-ok
returns-clause-ok g c =
    let below = subst (AllByRecursion (λ e. g.E.Ranked.number_of e < g.E.Ranked.number_of c.args.entry)) (sym c.self.view_is) c.requires.below in
    c.in-Ok.ensures.ok ∙ insert_last g.E.Ranked.number_of g.E.Ranked.rank_of g.met.E.Timed.by_number c.args.entry c.self.inside.entries below
    ∙ ap (λ es. es ++ c.args.entry ∷ []) c.self.view_is
