use Rattle.std.proofs.Common.{◌≡◌, ℕ, Some, true, cond, subst}
use Rattle.std.specs.List.{list_any}
use Rattle.std.specs.BTreeMap.{is_at}
use Rattle.ready_queue.specs.Keys.{key_cmp, Changes}
use Rattle.ready_queue.specs.declared.fronts.Place.{Place}
use Rattle.ready_queue.specs.Places.{Indexed, Puts, lowered, IsParkedAt, ParksNone}
use Rattle.ready_queue.proofs.IndexLemmas.{indexed_added, indexed_undone, parks_placed, parks_undone}
use Rattle.ready_queue.proofs.index.Index.add_placed.Goals as goal

pub invariant_of-self-in-Ok : goal.invariant_of-self-in-Ok
unfolding Changes
invariant_of-self-in-Ok c =
    let puts = subst (λ (p : Place). Puts c.args.group (Some p) c.self.inside.fronts c.put.new.self) c.lowered.ensures c.in_ok-put.ensures.puts in
    let now = subst (λ o. Puts c.args.group (Some (lowered o c.args.score c.args.number)) c.self.inside.fronts c.put.new.self) c.place-old.ensures puts in
    indexed_added c.args.group c.args.score c.args.number _ _ _ _ c.self.invariant (λ k. c.requires (subst (λ (i : Indexed). IsParkedAt c.args.group i) c.self.view_is k)) c.in-Ok.ensures.updates.0 now

pub invariant_of-self-in-Err : goal.invariant_of-self-in-Err
invariant_of-self-in-Err c =
    let puts = subst (λ (p : Place). Puts c.args.group (Some p) c.self.inside.fronts c.put.new.self) c.lowered.ensures c.in_ok-put.ensures.puts in
    indexed_undone c.args.group c.args.score c.args.number c.place-old.result _ _ _ _ _ c.self.invariant c.in-Err.ensures.err c.place-old.ensures puts c.restore.ensures

pub returns-in-Ok-clause-ok : goal.returns-in-Ok-clause-ok
unfolding Changes
returns-in-Ok-clause-ok c =
    subst (λ (i : Indexed). (q : ℕ × ℕ × ℕ) → list_any (is_at (key_cmp q)) c.insert.new.self.keys ≡ cond (is_at (key_cmp (c.args.group, c.args.score, c.args.number)) q) true (list_any (is_at (key_cmp q)) i.keys)) c.self.view_is
    c.in-Ok.ensures.updates.0

pub returns-in-Ok-clause-parked : goal.returns-in-Ok-clause-parked
unfolding Changes
returns-in-Ok-clause-parked c =
    subst (λ (i : Indexed). ParksNone i (record { keys = c.insert.new.self.keys; places = c.put.new.self })) c.self.view_is
    (parks_placed c.args.group c.args.score c.args.number _ _ _ _ _ c.in-Ok.ensures.updates.0 c.in_ok-put.ensures.puts)

pub returns-in-Err-clause-parked : goal.returns-in-Err-clause-parked
returns-in-Err-clause-parked c =
    let puts = subst (λ (p : Place). Puts c.args.group (Some p) c.self.inside.fronts c.put.new.self) c.lowered.ensures c.in_ok-put.ensures.puts in
    subst (λ (i : Indexed). ParksNone i (record { keys = c.insert.new.self.keys; places = c.restore.new.fronts })) c.self.view_is
    (parks_undone c.args.group c.args.score c.args.number c.place-old.result _ _ _ _ _ c.in-Err.ensures.err c.place-old.ensures puts c.restore.ensures)
