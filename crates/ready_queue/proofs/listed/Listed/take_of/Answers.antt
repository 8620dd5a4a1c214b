use Rattle.std.proofs.Common.{◌≡◌, None, sym, ◌∙◌, ap, subst}
use Rattle.std.specs.List.{find, list_any}
use Rattle.std.specs.Option.{IfSome, IfNone}
use Rattle.std.specs.BTreeMap.{is_at}
use Rattle.kinds.specs.Queue.{number_of}
use Rattle.lists.specs.Entries.{has, without, pair_cmp}
use Rattle.ordered.specs.Indexes.{IsTakenOf}
use Rattle.ready_queue.specs.Parking.{Listed}
use Rattle.ready_queue.specs.Runs.{run_of}
use Rattle.ready_queue.proofs.listed.Listed.take_of.Goals as goal
use Rattle.ordered.proofs.Listed.{taken_of, never_none, none_left, at_first, from_zero, no_other}

pub returns-in_default-clause-none : goal.returns-in_default-clause-none
returns-in_default-clause-none c =
    subst (λ (q : Listed). find (has run_of c.args.run) q.items ≡ None) c.self.view_is
    (none_left _ _ c.args.run _ _ c.self.invariant (λ n h. sym h ∙ (c.range.ensures.in_range tt).5 c.in_default.ensures.steps.0 (c.args.run, n) (from_zero c.args.run n, tt)))

pub returns-then-found-run-clause-none : goal.returns-then-found-run-clause-none
returns-then-found-run-clause-none c =
    subst (λ (q : Listed). find (has run_of c.args.run) q.items ≡ None) c.self.view_is
    (none_left _ _ c.args.run _ _ c.self.invariant (λ n h.
    no_other c.args.run n c.in-Some.field-0.now.0 c.in-Some.field-0.now.1
    (at_first _ _ _ _ c.in-Some.ensures.steps (c.range.ensures.in_range tt).1).0.0
    (at_first _ _ _ _ c.in-Some.ensures.steps ((c.range.ensures.in_range tt).2 (c.args.run, n) (from_zero c.args.run n, tt) h))
    c.if-found-run.true))

pub returns-clause-one : goal.returns-clause-one
returns-clause-one c =
    subst (λ (q : Listed). IfSome c.take.result (λ e. IsTakenOf run_of number_of c.args.run q.items e c.take.new.self.items)) c.self.view_is
    (taken_of _ _ c.args.run c.in-Some.field-0.now.1 _ _ _ _ c.self.invariant
    (ap (λ a. list_any (is_at (pair_cmp (a, c.in-Some.field-0.now.1))) c.self.inside.runs.keys) (sym c.if-found-run.false) ∙ (at_first _ _ _ _ c.in-Some.ensures.steps (c.range.ensures.in_range tt).1).1)
    (c.take.ensures.value ∙ ap (λ (q : Listed). find (has number_of c.in-Some.field-0.now.1) q.items) (sym c.self.view_is))
    (c.take.ensures.left ∙ ap (λ (q : Listed). without number_of c.in-Some.field-0.now.1 q.items) (sym c.self.view_is)))

pub returns-clause-same : goal.returns-clause-same
returns-clause-same c =
    never_none _ _ _ c.args.run c.in-Some.field-0.now.1 _ _ _ c.self.invariant
    (ap (λ a. list_any (is_at (pair_cmp (a, c.in-Some.field-0.now.1))) c.self.inside.runs.keys) (sym c.if-found-run.false) ∙ (at_first _ _ _ _ c.in-Some.ensures.steps (c.range.ensures.in_range tt).1).1)
    (c.take.ensures.value ∙ ap (λ (q : Listed). find (has number_of c.in-Some.field-0.now.1) q.items) (sym c.self.view_is))

pub returns-clause-none : goal.returns-clause-none
returns-clause-none c =
    never_none _ _ _ c.args.run c.in-Some.field-0.now.1 _ _ _ c.self.invariant
    (ap (λ a. list_any (is_at (pair_cmp (a, c.in-Some.field-0.now.1))) c.self.inside.runs.keys) (sym c.if-found-run.false) ∙ (at_first _ _ _ _ c.in-Some.ensures.steps (c.range.ensures.in_range tt).1).1)
    (c.take.ensures.value ∙ ap (λ (q : Listed). find (has number_of c.in-Some.field-0.now.1) q.items) (sym c.self.view_is))
