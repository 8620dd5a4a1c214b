-- A bracket opens, or a number or a word begins.
use Rattle.std.proofs.Common.{sym, ◌∙◌, ap, subst}
use Rattle.json_text.proofs.Shown.{begins}
use Rattle.json_text.proofs.Arms.{begin-other}
use Rattle.json_text.specs.Reading.{IsMode}
use Rattle.json_text.proofs.reader.Reader.begin_value.Goals as goal

pub returns : goal.returns
returns c = λ w f fs h. let e = c.begin_token.ensures in let b = c.in-Some.ensures in
    begins w c.args.self.now c.begin_token.new.self c.args.at c.args.byte b.0 f fs _ _ (ap (λ r. r.bytes) e) (ap (λ r. r.builder) e)
    (subst (λ m. IsMode m b.0) (sym (ap (λ r. r.mode) e)) b.1) (ap (λ r. r.start) e) h (begin-other c.args.byte f fs c.if-byte-eq91.false c.if-byte-eq123.false ∙ b.4 f fs)
