use Rattle.runs.proofs.Listed.{closing_free_at, disjoint_fewer, disjoint_moved_at}
use Rattle.runs.proofs.runs.Runs.end.Goals as goal

pub invariant_of-self : goal.invariant_of-self
invariant_of-self c = disjoint_fewer c.args.number c.self.inside.live c.remove.new.self c.self.inside.closing c.remove.ensures.left c.self.invariant

pub put-requires : goal.put-requires
put-requires c = closing_free_at c.args.number _ c.self.inside.live c.self.inside.closing c.replace-before.result c.replace-before.ensures.value c.in-Some.ensures.value c.self.invariant

pub invariant_of-self-2 : goal.invariant_of-self-2
invariant_of-self-2 c =
    disjoint_moved_at c.args.number _ c.self.inside.live c.remove.new.self c.self.inside.closing c.replace-before.result _ c.remove.ensures.left c.in-Some.ensures.value
    c.replace-before.ensures.value c.in_ok-closing.ensures c.self.invariant
