use Rattle.machine.proofs.ViewLemmas.{next-of-parts}
use Rattle.machine.proofs.machine.Machine.next_moment.Goals as goal

pub returns : goal.returns
returns c =
    next-of-parts c.parts-parts.result.now c.args.self.now c.earliest.result c.next_due.result c.next_item.result
    c.parts-parts.ensures.state c.parts-parts.ensures.ready.rest.now c.earliest.ensures c.next_due.ensures c.next_item.ensures
