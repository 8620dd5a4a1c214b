use Rattle.std.proofs.Common.{◌∙◌, sym, ap, subst}
use Rattle.kinds.specs.Queue.{sooner}
use Rattle.ready_queue.specs.Ahead.{IsFurther, Covers}
use Rattle.ready_queue.proofs.AheadLemmas.{apart, further_self, further_item, look_covers}
use Rattle.ready_queue.proofs.ahead.look.Goals as goal

pub returns-in_default-clause-further : goal.returns-in_default-clause-further
returns-in_default-clause-further c = further_self _ _ _ _ _

pub returns-in_default-clause-covers : goal.returns-in_default-clause-covers
returns-in_default-clause-covers c s n h = absurd (apart (sym h ∙ c.in_default.ensures.none s n))

pub returns-clause-further : goal.returns-clause-further
returns-clause-further c =
    subst (λ o. IsFurther c.args.cells.now c.args.throttle.now c.args.t c.args.listed.now.items c.args.best o) (sym (c.sooner.ensures ∙ ap (sooner c.args.best) c.moment_of.ensures))
    (further_item _ _ _ _ c.args.best c.in-Some.ensures.some.number c.in-Some.item.now c.in-Some.ensures.some.found)

pub returns-clause-covers : goal.returns-clause-covers
returns-clause-covers c s n h =
    subst (λ o. Covers c.args.cells.now c.args.throttle.now o c.args.group.now) (sym (c.sooner.ensures ∙ ap (sooner c.args.best) c.moment_of.ensures))
    (look_covers c.args.cells.now c.args.throttle.now c.args.t c.args.listed.now.items c.args.listed.now.ready c.args.group.now c.args.best c.in-Some.item.now c.requires c.in-Some.ensures.some)
