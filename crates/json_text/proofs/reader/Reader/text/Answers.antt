-- Between two characters a byte that stands for itself goes on, and a quotation mark ends the text.
use Rattle.std.proofs.Common.{sym, ◌∙◌, ap, subst, refl, arith}
use Rattle.json_text.proofs.Within.{unescaped-goes, unescaped-is-no-mark}
use Rattle.json_text.proofs.Arms.{text-ends, text-goes, put-answers}
use Rattle.json_text.specs.Reading.{IsMode}
use Rattle.json_text.specs.declared.character.Within.{Within}
use Rattle.json_text.specs.declared.character.Within.TheVariants as inside
use Rattle.json_text.specs.declared.reader.Mode.TheVariants as code
use Rattle.json_text.specs.declared.kind.Kind.TheVariants as kind
use Rattle.json_text.proofs.reader.Reader.text.Goals as goal

pub returns-in-Between : goal.returns-in-Between
returns-in-Between c = λ w m f fs i h.
    let plain = sym c.is_unescaped.ensures ∙ c.if-is_unescaped.true in
    let here = c.requires.mode ∙ ap (λ (x : Within). code.Text x) c.in-Between.is in
    text-goes w c.args.self.now c.args.self.now c.args.at c.args.byte inside.Between inside.Between m f fs tt refl refl refl here
    (unescaped-goes c.args.byte plain) (omega arith) (λ _ e. unescaped-is-no-mark c.args.byte plain e)
    (subst (λ x. IsMode (code.Text x) m) c.in-Between.is i) h

pub returns-in-Between-2 : goal.returns-in-Between-2
returns-in-Between-2 c = λ w m f fs i h.
    put-answers w c.args.self.now c.put.new.self c.args.at c.args.self.now.start _ kind.Text _ c.put.result c.put.ensures.mode c.put.ensures.put c.put.ensures.err
    (λ u a p. text-ends w c.args.self.now c.put.new.self c.args.at c.args.byte m f fs u c.put.ensures.kept a p c.if-byte-eq34.true (subst (λ x. IsMode (code.Text x) m) c.in-Between-2.is i) h)
