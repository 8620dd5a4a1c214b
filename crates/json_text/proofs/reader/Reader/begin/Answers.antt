-- A quotation mark begins a text; where any value may come, another byte may begin one.
use Rattle.std.proofs.Common.{[], ◌∷◌, refl, sym, ◌∙◌, ap, subst}
use Rattle.json_text.proofs.Shown.{begins, as-answer, not-json-answer}
use Rattle.json_text.proofs.Laying.{laid-turn}
use Rattle.json_text.proofs.Arms.{begin-quote, begin-values, begin-nothing}
use Rattle.json_text.specs.Automaton.{text_at, begin_value, takes_values}
use Rattle.json_text.specs.Reading.{IsMode}
use Rattle.json_text.proofs.reader.Reader.begin.Goals as goal

pub returns-then-byte-eq34 : goal.returns-then-byte-eq34
returns-then-byte-eq34 c = λ w f fs h. let e = c.begin_token.ensures in
    begins w c.args.self.now c.begin_token.new.self c.args.at c.args.byte (text_at (c.args.byte ∷ [])) f fs _ _ (ap (λ r. r.bytes) e) (ap (λ r. r.builder) e)
    (subst (λ m. IsMode m (text_at (c.args.byte ∷ []))) (sym (ap (λ r. r.mode) e)) refl) (ap (λ r. r.start) e) h (begin-quote c.args.byte f fs c.if-byte-eq34.true)

pub returns-then-takes_values : goal.returns-then-takes_values
returns-then-takes_values c = λ w f fs h. as-answer w c.args.at _ (begin_value c.args.byte f fs) _ _
    (begin-values c.args.byte f fs c.if-byte-eq34.false (ap takes_values (sym (laid-turn w _ _ _ f.turn f.parts fs h.lies)) ∙ sym c.takes_values.ensures ∙ c.if-takes_values.true)) (c.begin_value.ensures w f fs h)

pub returns-else-takes_values : goal.returns-else-takes_values
returns-else-takes_values c = λ w f fs h. not-json-answer w c.args.at _ _ _ c.not_json.ensures
    (begin-nothing c.args.byte f fs c.if-byte-eq34.false (ap takes_values (sym (laid-turn w _ _ _ f.turn f.parts fs h.lies)) ∙ sym c.takes_values.ensures ∙ c.if-takes_values.false))
