use Rattle.std.proofs.Common.{◌∙◌, sym}
use Rattle.sdk_reply.proofs.Digits.{name-inside}
use Rattle.sdk_reply.proofs.members.name_within.Goals as goal

pub returns-then-is_step_hash-clause-name : goal.returns-then-is_step_hash-clause-name
returns-then-is_step_hash-clause-name c =
    name-inside c.args.spelling.now c.inside-text.result.now c.inside-text.ensures (sym c.is_step_hash.ensures ∙ c.if-is_step_hash.true)
