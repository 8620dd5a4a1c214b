use Rattle.std.proofs.Common.{◌≡◌, ◌∙◌, ℕ, true, false, sym, ap, subst}
use Rattle.std.specs.Option.{IfSome, IfNone}
use Rattle.ready_queue.specs.Held.{Groups, holds, has_at}
use Rattle.ready_queue.proofs.AheadLemmas.{head_some, head_none}
use Rattle.ready_queue.proofs.ready.Ready.head.Goals as goal

pub returns-in_default-clause-none : goal.returns-in_default-clause-none
unfolding holds
returns-in_default-clause-none c =
    subst (λ (r : Groups). (s n : ℕ) → holds r.held c.args.group.now s n ≡ false) c.self.view_is
    (λ s n. ap (λ o. has_at c.self.inside.index.keys o s n) (sym c.get.ensures.value ∙ sym c.in_default.ensures))

pub returns-clause-some : goal.returns-clause-some
returns-clause-some c =
    subst (λ (r : Groups). IfSome c.head.result (λ n. (s : ℕ) × (holds r.held c.args.group.now s n ≡ true))) c.self.view_is
    (head_some c.args.group.now c.in-Some.name _ _ _ (sym c.get.ensures.value ∙ sym c.in-Some.ensures) c.head.ensures.some)

pub returns-clause-none : goal.returns-clause-none
returns-clause-none c =
    subst (λ (r : Groups). IfNone c.head.result ((s n : ℕ) → holds r.held c.args.group.now s n ≡ false)) c.self.view_is
    (head_none c.args.group.now c.in-Some.name _ _ _ (sym c.get.ensures.value ∙ sym c.in-Some.ensures) c.head.ensures.none)
