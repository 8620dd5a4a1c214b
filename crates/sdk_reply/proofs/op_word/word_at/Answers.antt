use Rattle.std.proofs.Common.{◌∙◌, ap}
use Rattle.json_text.specs.Grammar.{spelling}
use Rattle.json_text.specs.Nodes.{value_at}
use Rattle.json_text.specs.Text.{inside}
use Rattle.sdk_reply.specs.Operations.{word_of}
use Rattle.sdk_reply.proofs.Words.{known-word}
use Rattle.sdk_reply.proofs.op_word.word_at.Goals as goal

pub returns-in_default : goal.returns-in_default
returns-in_default c =
    known-word (spelling (value_at c.args.tree.now c.args.node)) c.word_of.result
    (c.word_of.ensures ∙ ap word_of (c.inside.ensures ∙ ap inside c.slice.ensures)) c.in_default.not-Unknown
