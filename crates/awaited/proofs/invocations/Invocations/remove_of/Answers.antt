use Rattle.std.proofs.Common.{sym, ◌∙◌}
use Rattle.lists.proofs.Keyed.{filter_none}
use Rattle.awaited.specs.Entries.{is_invocation_of}
use Rattle.awaited.proofs.invocations.Invocations.remove_of.Goals as goal

pub returns : goal.returns
returns c = c.loop-test.ensures.same ∙ sym (filter_none (is_invocation_of c.args.parent.now) _ c.loop-test.ensures.none) ∙ c.loop.invariant
