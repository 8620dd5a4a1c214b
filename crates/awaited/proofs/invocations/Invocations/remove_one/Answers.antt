use Rattle.std.proofs.Common.{◌<◌, ◌∙◌, length, sym, ap, subst}
use Rattle.lists.specs.Entries.{has}
use Rattle.ordered.proofs.Apart.{fewer_without}
use Rattle.awaited.specs.Entries.{invocation_number, is_invocation_of, without_invocation_of}
use Rattle.awaited.proofs.StepLemmas.{rest_same}
use Rattle.awaited.proofs.invocations.Invocations.remove_one.Goals as goal

pub returns-clause-rest : goal.returns-clause-rest
returns-clause-rest c =
    let one = c.in-Some.ensures.found in
    ap (without_invocation_of c.args.parent.now) c.remove.ensures.left
    ∙ rest_same invocation_number (is_invocation_of c.args.parent.now) c.in-Some.number one.0 c.args.self.now c.in-Some.ensures.apart one.1 one.2

pub returns-clause-fewer : goal.returns-clause-fewer
returns-clause-fewer c =
    let one = c.in-Some.ensures.found in
    subst (λ l. length l < length c.args.self.now) (sym c.remove.ensures.left) (fewer_without (has invocation_number c.in-Some.number) c.args.self.now one.0 one.1)
