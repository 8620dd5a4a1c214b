use Rattle.std.proofs.Common.{◌<◌, ◌≤◌, length, take, get_or, arith, subst}
use Rattle.std.proofs.lemmas.List.{take_all, take_more}
use Rattle.runs.specs.Mentions.{IsJoined}
use Rattle.runs.proofs.Mentioned.{joined_none, joined_on}
use Rattle.runs.proofs.mentions.Mentions.add_all.Goals as goal

pub loop-part-init : goal.loop-part-init
loop-part-init c = joined_none c.args.number c.args.self.now

pub loop-part-preserved : goal.loop-part-preserved
loop-part-preserved c =
    let lt : c.loop-part.part-index < length c.args.parts.now = omega arith in
    joined_on (take c.loop-part.part-index c.args.parts.now) _ (get_or c.args.parts.now c.loop-part.part-index 0) c.args.number c.args.self.now c.loop-part.self c.add.new.self
    (take_more c.args.parts.now c.loop-part.part-index 0 lt) c.loop-part.invariant c.in_ok-add.ensures

pub returns : goal.returns
returns c =
    let all : length c.args.parts.now ≤ c.loop-part.part-index = omega arith in
    subst (λ xs. IsJoined xs c.args.number c.args.self.now c.loop-part.self) (take_all c.loop-part.part-index c.args.parts.now all) c.loop-part.invariant
