use Rattle.std.proofs.Common.{◌≡◌, ◌∙◌, ◌+◌, ℕ, [], ◌∷◌, List, false, length, refl, ap, arith, subst, sym}
use Rattle.std.specs.Vec.Iter.{into_iter_items}
use Rattle.machine.proofs.HeldOperations.{IsTaking, not-stops, stops-is, taking-done, taking-first, taking-on, taking-stops}
use Rattle.machine.proofs.parts.Parts.take_operations.Goals as goal

one-fewer : {X : Type 0} (before after : ℕ) (all rest : List X) (x : X) → before ≡ length all → all ≡ x ∷ rest
    → after + 1 ≡ before → after ≡ length rest
one-fewer before after all rest x is split less =
    let short = ap length split in
    omega arith

none-left : {X : Type 0} (n : ℕ) (xs : List X) → n ≡ length xs → n ≡ 0 → xs ≡ []
none-left n [] is none = refl
none-left n (x ∷ xs) is none = absurd (omega arith)

pub loop-op-init : goal.loop-op-init
loop-op-init g c = (
  subst (λ rest. IsTaking c.args.item.now c.args.no_retry c.args.ops rest c.args.self.now c.args.self.now false)
      (sym c.into_iter-op-iterator.ensures.into_iter_gives.0)
      (taking-first c.args.item.now c.args.no_retry c.args.ops c.args.self.now c.requires.held),
  c.into_iter-op-iterator.ensures.into_iter_gives.1
      ∙ ap length (sym c.into_iter-op-iterator.ensures.into_iter_gives.0),
)

pub loop-op-preserved : goal.loop-op-preserved
loop-op-preserved g c =
    let rest = into_iter_items c.next.new.self in (
      subst (λ b. IsTaking c.args.item.now c.args.no_retry c.args.ops rest c.args.self.now c.take_operation.new.self b)
          (sym c.or_again-again.ensures)
          (taking-on c.args.item.now c.args.no_retry c.args.ops _ rest c.in-Some.op c.args.self.now c.loop-op.self
          c.take_operation.new.self c.loop-op.again c.in_ok-taken.taken c.in-Some.ensures.steps.0 c.loop-op.invariant.0
          c.in_ok-taken.ensures.taken c.in_ok-taken.ensures.now
          (not-stops c.in_ok-taken.taken (sym c.stops.ensures ∙ c.if-stops.false))),
      one-fewer _ _ (into_iter_items c.loop-op.op-iterator) rest c.in-Some.op c.loop-op.invariant.1
          c.in-Some.ensures.steps.0 c.in-Some.ensures.steps.1,
    )

pub returns-then-stops-clause-taken : goal.returns-then-stops-clause-taken
returns-then-stops-clause-taken g c =
    (taking-stops c.args.item.now c.args.no_retry c.args.ops _ (into_iter_items c.next.new.self) c.in-Some.op
    c.args.self.now c.loop-op.self c.take_operation.new.self c.loop-op.again c.in_ok-taken.taken
    c.in-Some.ensures.steps.0 c.loop-op.invariant.0 c.in_ok-taken.ensures.taken c.in_ok-taken.ensures.now
    (stops-is c.in_ok-taken.taken (sym c.stops.ensures ∙ c.if-stops.true))).0

pub returns-then-stops-clause-now : goal.returns-then-stops-clause-now
returns-then-stops-clause-now g c =
    (taking-stops c.args.item.now c.args.no_retry c.args.ops _ (into_iter_items c.next.new.self) c.in-Some.op
    c.args.self.now c.loop-op.self c.take_operation.new.self c.loop-op.again c.in_ok-taken.taken
    c.in-Some.ensures.steps.0 c.loop-op.invariant.0 c.in_ok-taken.ensures.taken c.in_ok-taken.ensures.now
    (stops-is c.in_ok-taken.taken (sym c.stops.ensures ∙ c.if-stops.true))).1

pub returns-clause-taken : goal.returns-clause-taken
returns-clause-taken g c =
    c.taken_again.ensures
    ∙ (taking-done c.args.item.now c.args.no_retry c.args.ops (into_iter_items c.loop-op.op-iterator) c.args.self.now
    c.loop-op.self c.loop-op.again (none-left _ _ c.loop-op.invariant.1 c.in-None.ensures.steps.0) c.loop-op.invariant.0).0

pub returns-clause-now : goal.returns-clause-now
returns-clause-now g c =
    (taking-done c.args.item.now c.args.no_retry c.args.ops (into_iter_items c.loop-op.op-iterator) c.args.self.now
    c.loop-op.self c.loop-op.again (none-left _ _ c.loop-op.invariant.1 c.in-None.ensures.steps.0) c.loop-op.invariant.0).1
