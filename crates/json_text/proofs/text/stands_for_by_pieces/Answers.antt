-- The piece stands at the front of both.
use Rattle.std.proofs.Common.{◌++◌, ◌∙◌, ap}
use Rattle.std.specs.Prelude.{bytes_eq}
use Rattle.json_text.specs.Splitting.{piece_bytes}
use Rattle.json_text.specs.Text.{text_from, none}
use Rattle.json_text.proofs.Writing.{same-front}
use Rattle.json_text.proofs.text.stands_for_by_pieces.Goals as goal

pub loop-first-preserved : goal.loop-first-preserved
loop-first-preserved c = c.loop-first.invariant ∙ ap (λ t. bytes_eq t c.loop-first.text.now) c.in-Some.ensures.0
    ∙ ap (λ t. bytes_eq (piece_bytes c.in-Some.first.piece ++ text_from none c.in-Some.first.rest.now) t) c.in-Some-strip.ensures
    ∙ same-front (piece_bytes c.in-Some.first.piece) (text_from none c.in-Some.first.rest.now) c.in-Some-strip.left.now
