use Rattle.std.proofs.Common.{◌≡◌, ◌≤◌, None, sym, ◌∙◌, ap, subst}
use Rattle.std.specs.List.{find}
use Rattle.kinds.specs.Queue.{has_number, group_of}
use Rattle.ready_queue.specs.Held.{Group, holds, Comes, Goes}
use Rattle.ready_queue.specs.Pool.{Pool}
use Rattle.ready_queue.specs.Store.{lifted}
use Rattle.ready_queue.proofs.PoolLemmas.{pool_ready, pool_unready}
use Rattle.ready_queue.proofs.pool.Pool.add_due.Goals as goal

pub invariant_of-self-in-Ok : goal.invariant_of-self-in-Ok
invariant_of-self-in-Ok c =
    let none = ap (λ (q : Pool). find (has_number c.args.item.number) q.items) c.self.view_is ∙ c.requires.fresh in
    let near = subst (λ (q : Pool). c.args.item.due ≤ q.horizon) (sym c.self.view_is) c.requires.due in
    let score = subst (λ s. Comes c.in_ok-group.group s c.args.item.number (holds c.self.inside.ready.held) (holds c.add.new.self.held)) c.lifted-score.ensures.value c.in_ok-add.ensures.ok in
    let comes = subst (λ (k : Group). Comes k (lifted c.args.item.score) c.args.item.number (holds c.self.inside.ready.held) (holds c.add.new.self.held)) c.in_ok-group.ensures score in
    pool_ready _ _ c.args.item _ _ _ _ _ c.self.invariant none c.in-Ok.ensures.ok comes near

pub invariant_of-self-in-Err : goal.invariant_of-self-in-Err
invariant_of-self-in-Err c =
    let none = ap (λ (q : Pool). find (has_number c.args.item.number) q.items) c.self.view_is ∙ c.requires.fresh in
    let score = subst (λ s. Comes c.in_ok-group.group s c.args.item.number (holds c.self.inside.ready.held) (holds c.add.new.self.held)) c.lifted-score.ensures.value c.in_ok-add.ensures.ok in
    let comes = subst (λ (k : Group). Comes k (lifted c.args.item.score) c.args.item.number (holds c.self.inside.ready.held) (holds c.add.new.self.held)) c.in_ok-group.ensures score in
    let back = subst (λ s. Goes c.in_ok-group.group s c.args.item.number (holds c.add.new.self.held) (holds c.remove.new.self.held)) c.lifted-score.ensures.value c.remove.ensures.goes in
    let goes = subst (λ (k : Group). Goes k (lifted c.args.item.score) c.args.item.number (holds c.add.new.self.held) (holds c.remove.new.self.held)) c.in_ok-group.ensures back in
    pool_unready _ _ c.args.item _ _ _ _ _ _ c.self.invariant none c.in-Err.ensures.err comes goes
