use Rattle.std.proofs.Common.{◌≡◌, ℕ, true, cond, subst, sym}
use Rattle.std.specs.List.{list_any}
use Rattle.std.specs.BTreeMap.{is_at}
use Rattle.ready_queue.specs.Keys.{key_cmp, Changes}
use Rattle.ready_queue.specs.Places.{Indexed, IsParkedAt, ParksNone}
use Rattle.ready_queue.proofs.IndexLemmas.{indexed_kept, parks_kept}
use Rattle.ready_queue.proofs.index.Index.add_parked.Goals as goal

pub invariant_of-self-2 : goal.invariant_of-self-2
unfolding Changes
invariant_of-self-2 c =
    indexed_kept c.args.group c.args.score c.args.number _ _ _ c.self.invariant (subst (λ (i : Indexed). IsParkedAt c.args.group i) (sym c.self.view_is) c.requires).none c.in_ok-insert.ensures.updates.0

pub returns-clause-parked : goal.returns-clause-parked
unfolding Changes
returns-clause-parked c =
    subst (λ (i : Indexed). ParksNone i (record { keys = c.insert.new.self.keys; places = c.self.inside.fronts })) c.self.view_is
    (parks_kept c.args.group c.args.score c.args.number _ _ _ (subst (λ (i : Indexed). IsParkedAt c.args.group i) (sym c.self.view_is) c.requires) c.in_ok-insert.ensures.updates.0)

pub returns-clause-ok : goal.returns-clause-ok
unfolding Changes
returns-clause-ok c =
    subst (λ (i : Indexed). (q : ℕ × ℕ × ℕ) → list_any (is_at (key_cmp q)) c.insert.new.self.keys ≡ cond (is_at (key_cmp (c.args.group, c.args.score, c.args.number)) q) true (list_any (is_at (key_cmp q)) i.keys)) c.self.view_is
    c.in_ok-insert.ensures.updates.0
