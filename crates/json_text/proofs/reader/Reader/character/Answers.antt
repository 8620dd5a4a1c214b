-- A byte of a character leaves what may follow it.
use Rattle.std.proofs.Common.{refl, sym, ◌∙◌, arith}
use Rattle.json_text.proofs.Shown.{not-json-answer}
use Rattle.json_text.proofs.Arms.{text-goes, text-stops}
use Rattle.json_text.proofs.reader.Reader.character.Goals as goal

pub returns-in-Some : goal.returns-in-Some
returns-in-Some c = λ w m f fs n i h. text-goes w c.args.self.now _ c.args.at c.args.byte c.args.within c.in-Some.next m f fs _ refl refl refl refl (sym c.next.ensures ∙ c.in-Some.is) (omega arith) n i h

pub returns-in-None : goal.returns-in-None
returns-in-None c = λ w m f fs n i h. not-json-answer w c.args.at _ _ _ c.not_json.ensures (text-stops c.args.byte c.args.within m f fs (sym c.next.ensures ∙ c.in-None.is) (omega arith) n i)
