use Rattle.std.proofs.Common.{ap, sym, subst, ◌∙◌, Some, arith, length, ◌+◌, cond, is_some}
use Rattle.std.specs.Map.{lookup}
use Rattle.std.specs.BTreeMap.{is_at}
use Rattle.std.specs.Cmp.Lexicographic.{slice_cmp}
use Rattle.std.specs.Ordering.{nat_cmp}
use Rattle.std.proofs.lemmas.List.{length-append}
use Rattle.std.proofs.lemmas.Bool.Decides.{nat_tests}
use Rattle.kinds.specs.RunSteps.{is_recorded}
use Rattle.run_state.specs.Named.{has_place}
use Rattle.run_state.proofs.Names.{Flags, named_recorded, places_undone, free_place, room_after}
use Rattle.run_state.proofs.active.Active.add_recorded.Goals as goal

pub invariant_of-self-in-Err : goal.invariant_of-self-in-Err
invariant_of-self-in-Err c = rw c.in-Err.ensures.err (record {
  apart = c.self.invariant.apart;
  placed = places_undone c.args.hash.now c.len.result _ _ _ c.self.inside.recorded (free_place c.args.hash.now c.self.inside.recorded (ap (is_recorded c.args.hash.now) c.self.view_is ∙ c.requires.free))
      c.self.invariant.placed c.in_ok-insert.ensures.updates.0 c.remove.ensures.updates.0;
})

pub invariant_of-self-2 : goal.invariant_of-self-2
invariant_of-self-2 c =
    rw c.in-Ok.ensures.ok
    (named_recorded c.self.inside.recorded c.self.inside.planned.keys c.self.inside.pending.entries _ c.remove-2.new.self.keys c.remove-3.new.self.entries c.self.inside.places.entries c.insert.new.self.entries c.self.invariant
    (ap (is_recorded c.args.hash.now) c.self.view_is ∙ c.requires.free)
    (room_after _ _ _ (length c.self.inside.recorded) _ _ _ _ _ (ap (has_place c.args.hash.now) c.self.view_is ∙ c.requires.place) (λ t. grind (arith, nat_tests, t)) c.self.invariant.apart.few
    (ap (λ b. length c.remove-2.new.self.keys + cond b 1 0) (sym c.remove-2.ensures.test) ∙ c.remove-2.ensures.len)
    (ap (λ o. length c.remove-3.new.self.entries + cond (is_some o) 1 0) (sym c.remove-3.ensures.value) ∙ c.remove-3.ensures.len)
    (length-append c.self.inside.recorded _))
    (subst (λ n. Flags c.args.hash.now (Some n) (λ q. lookup (is_at (slice_cmp nat_cmp q)) c.self.inside.places.entries) (λ q. lookup (is_at (slice_cmp nat_cmp q)) c.insert.new.self.entries)) c.len.ensures c.in_ok-insert.ensures.updates.0)
    c.remove-2.ensures.updates.0
    c.remove-3.ensures.updates.0)
