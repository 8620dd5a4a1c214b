use Rattle.machine.proofs.HeldNamed.{weighed-below}
use Rattle.machine.proofs.parts.Parts.weigh.Goals as goal

pub returns : goal.returns
returns c =
    weighed-below c.args.self.now c.bytes.result c.results.result c.weight.result c.bytes.ensures c.results.ensures
    c.weight.ensures c.in_ok-named.named c.in_ok-named.ensures.value c.in_ok-sum.ensures.below c.requires.settled
    c.requires.held
