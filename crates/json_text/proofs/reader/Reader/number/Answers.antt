-- A number goes on, or has ended before this byte.
use Rattle.std.proofs.Common.{refl, sym, ◌∙◌}
use Rattle.json_text.proofs.Arms.{number-goes}
use Rattle.json_text.proofs.reader.Reader.number.Goals as goal

pub returns-in-Some : goal.returns-in-Some
returns-in-Some c = λ w m f fs i h. number-goes w c.args.self.now _ c.args.at c.args.byte c.args.stage c.in-Some.next m f fs _ refl refl refl refl (sym c.next.ensures ∙ c.in-Some.is) i h

pub returns-in-None : goal.returns-in-None
returns-in-None c = λ w m f fs i h. c.end_number.ensures w m f fs (sym c.next.ensures ∙ c.in-None.is) i h
