use Rattle.std.proofs.Common.{◌∙◌, ap, arith, refl}
use Rattle.kinds.specs.Seen.{weight_of}
use Rattle.run_model.specs.State.{kept}
use Rattle.machine.proofs.HeldNamed.{kept-exact, kept-fits}
use Rattle.machine.proofs.machine.Machine.kept.Goals as goal

pub overflow_add-result : goal.overflow_add-result
overflow_add-result c =
    let m = c.parts-parts.result.now in
    let below = kept-fits m c.bytes.result c.results.result (weight_of m.seen) c.bytes.ensures c.results.ensures
    refl c.parts-parts.ensures.ready.rest in omega (arith, below)

pub overflow_add-result-2 : goal.overflow_add-result-2
overflow_add-result-2 c =
    let below = kept-fits c.parts-parts.result.now c.bytes.result c.results.result c.weight.result c.bytes.ensures
    c.results.ensures c.weight.ensures c.parts-parts.ensures.ready.rest in omega (arith, below)

pub returns : goal.returns
returns c =
    kept-exact c.parts-parts.result.now c.bytes.result c.results.result c.weight.result c.bytes.ensures
    c.results.ensures c.weight.ensures c.parts-parts.ensures.ready.rest ∙ ap kept c.parts-parts.ensures.state
