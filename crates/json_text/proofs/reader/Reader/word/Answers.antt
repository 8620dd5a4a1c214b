-- A word goes on, or its value is put.
use Rattle.std.proofs.Common.{refl, ◌∙◌}
use Rattle.json_text.proofs.Arms.{word-goes, word-ends, put-answers}
use Rattle.json_text.proofs.reader.Reader.word.Goals as goal

pub returns-in-Some : goal.returns-in-Some
returns-in-Some c = λ w m f fs i h. let e = c.in-Some.ensures in word-goes w c.args.self.now _ c.args.at c.args.byte c.args.word c.in-Some.rest m f fs _ refl refl refl refl (c.if-byte-first.false ∙ c.first.ensures) e.0 e.1 i h

pub returns-in-None : goal.returns-in-None
returns-in-None c = λ w m f fs i h.
    put-answers w c.args.self.now c.put.new.self c.args.at c.args.self.now.start _ _ _ c.put.result c.put.ensures.mode c.put.ensures.put c.put.ensures.err
    (λ u a p. word-ends w c.args.self.now c.put.new.self c.args.at c.args.byte c.args.word c.kind.result m f fs u c.put.ensures.kept a p c.kind.ensures (c.if-byte-first.false ∙ c.first.ensures) c.in-None.ensures i h)
