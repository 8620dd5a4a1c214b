use Rattle.std.proofs.Common.{inl, refl}
use Rattle.serde_json.specs.Errors.{IsMemory}
use Rattle.serde_json.specs.View.{view}
use Rattle.registry.proofs.Values.{no_value, some_value}
use Rattle.registry.proofs.app.value_of.Goals as goal

pub returns-in-Ok : goal.returns-in-Ok
returns-in-Ok c = rw (some_value c.args.body.now (view c.in-Ok.value) c.in-Ok.ensures.ok.0 c.in-Ok.ensures.ok.1) refl

pub returns-in_default : goal.returns-in_default
returns-in_default c =
    let not_memory = λ (is : IsMemory c.in-Err.error). c.in_default.not-Memory (c.classify.ensures.memory.1 is) in
    rw (no_value c.args.body.now (c.in-Err.ensures.err not_memory)) (inl refl)
