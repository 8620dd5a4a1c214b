use Rattle.std.proofs.Common.{ap, ◌∙◌, arith}
use Rattle.kinds.specs.RunSteps.{is_known, names}
use Rattle.run_state.proofs.Names.{apart_planned, one_more}
use Rattle.run_state.proofs.active.Active.add_planned.Goals as goal

pub invariant_of-self-2 : goal.invariant_of-self-2
invariant_of-self-2 c =
    let count = ap names c.self.view_is in
    let few = c.requires.few in
    let more = one_more _ _ _ c.in_ok-insert.ensures.len in record {
      apart = apart_planned c.self.inside.recorded c.self.inside.planned.keys c.self.inside.pending.entries c.args.hash.now c.insert.new.self.keys c.self.invariant.apart
          (ap (is_known c.args.hash.now) c.self.view_is ∙ c.requires.free) (omega (arith, count, few, more)) c.in_ok-insert.ensures.updates.0;
      placed = c.self.invariant.placed;
    }
