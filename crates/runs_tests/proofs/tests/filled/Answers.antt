use Rattle.std.proofs.Common.{subst, sym, ◌∙◌}
use Rattle.runs.specs.Runs.{run_number}
use Rattle.runs_tests.proofs.Fill.{AreBelow, below_at, below_more}
use Rattle.runs_tests.proofs.tests.filled.Goals as goal

pub add-requires : goal.add-requires
add-requires c = record {
  below = below_at run_number c.loop-number.number c.in_ok-added.added.number c.loop-number.runs.live c.loop-number.invariant.0 c.in_ok-added.ensures;
  closing = subst (AreBelow run_number c.in_ok-added.added.number) (sym c.loop-number.invariant.1) tt;
}

pub loop-number-preserved : goal.loop-number-preserved
loop-number-preserved c = (
  below_more run_number c.loop-number.number c.in_ok-added.added c.loop-number.runs.live c.add.new.self.live c.loop-number.invariant.0 c.in_ok-added.ensures c.in_ok-add.ensures.live,
  c.add.ensures.closing ∙ c.loop-number.invariant.1,
)
