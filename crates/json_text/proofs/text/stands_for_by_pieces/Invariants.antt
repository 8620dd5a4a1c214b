-- What is left of the text is to be what the rest stands for.
use Rattle.std.proofs.Common.{◌≡◌, length}
use Rattle.std.specs.Prelude.{bytes_eq}
use Rattle.json_text.specs.Text.{text_from, none, unescaped}
use Rattle.json_text.proofs.text.stands_for_by_pieces.Given as goal

abbrev pub invariant-loop-first : goal.invariant-loop-first
invariant-loop-first l = bytes_eq (unescaped l.spelling) l.fn.text ≡ bytes_eq (text_from none l.rest) l.text

abbrev pub decreases-loop-first : goal.decreases-loop-first
decreases-loop-first l = length l.rest
