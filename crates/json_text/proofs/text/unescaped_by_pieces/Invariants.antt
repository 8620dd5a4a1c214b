-- What is written and what is left are the text.
use Rattle.std.proofs.Common.{◌≡◌, ◌++◌, length}
use Rattle.json_text.specs.Text.{text_from, none, unescaped}
use Rattle.json_text.proofs.text.unescaped_by_pieces.Given as goal

abbrev pub invariant-loop-first : goal.invariant-loop-first
invariant-loop-first l = l.text ++ text_from none l.rest ≡ unescaped l.spelling

abbrev pub decreases-loop-first : goal.decreases-loop-first
decreases-loop-first l = length l.rest
