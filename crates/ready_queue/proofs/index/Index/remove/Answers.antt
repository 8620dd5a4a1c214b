use Rattle.std.proofs.Common.{◌≡◌, ℕ, cond, false, subst}
use Rattle.std.specs.List.{list_any}
use Rattle.std.specs.BTreeMap.{is_at}
use Rattle.ready_queue.specs.Keys.{key_cmp, Changes}
use Rattle.ready_queue.specs.Places.{Indexed, ParksNone}
use Rattle.ready_queue.proofs.IndexLemmas.{indexed_last, indexed_removed, parks_last, parks_raised}
use Rattle.ready_queue.proofs.index.Index.remove.Goals as goal

pub invariant_of-self : goal.invariant_of-self
unfolding Changes
invariant_of-self c = indexed_last c.args.group c.args.score c.args.number _ _ _ _ c.self.invariant c.remove.ensures.updates.0 c.in-None.ensures c.discard.ensures.puts

pub invariant_of-self-in-Some : goal.invariant_of-self-in-Some
unfolding Changes
invariant_of-self-in-Some c = indexed_removed c.args.group c.args.score c.args.number c.in-Some.least _ _ _ _ c.self.invariant c.remove.ensures.updates.0 c.in-Some.ensures c.raise.ensures

pub returns-in-None-clause-changes : goal.returns-in-None-clause-changes
unfolding Changes
returns-in-None-clause-changes c =
    subst (λ (i : Indexed). (q : ℕ × ℕ × ℕ) → list_any (is_at (key_cmp q)) c.remove.new.self.keys ≡ cond (is_at (key_cmp (c.args.group, c.args.score, c.args.number)) q) false (list_any (is_at (key_cmp q)) i.keys)) c.self.view_is
    c.remove.ensures.updates.0

pub returns-in-None-clause-parked : goal.returns-in-None-clause-parked
unfolding Changes
returns-in-None-clause-parked c =
    subst (λ (i : Indexed). ParksNone i (record { keys = c.remove.new.self.keys; places = c.discard.new.self })) c.self.view_is
    (parks_last c.args.group c.args.score c.args.number _ _ _ _ c.remove.ensures.updates.0 c.in-None.ensures c.discard.ensures.puts)

pub returns-in-Some-clause-changes : goal.returns-in-Some-clause-changes
unfolding Changes
returns-in-Some-clause-changes c =
    subst (λ (i : Indexed). (q : ℕ × ℕ × ℕ) → list_any (is_at (key_cmp q)) c.remove.new.self.keys ≡ cond (is_at (key_cmp (c.args.group, c.args.score, c.args.number)) q) false (list_any (is_at (key_cmp q)) i.keys)) c.self.view_is
    c.remove.ensures.updates.0

pub returns-in-Some-clause-parked : goal.returns-in-Some-clause-parked
unfolding Changes
returns-in-Some-clause-parked c =
    subst (λ (i : Indexed). ParksNone i (record { keys = c.remove.new.self.keys; places = c.raise.new.fronts })) c.self.view_is
    (parks_raised c.args.group c.args.score c.args.number c.in-Some.least _ _ _ _ c.remove.ensures.updates.0 c.raise.ensures)
