-- A space stays; the closing bracket closes; a separator leads to the next part.
use Rattle.std.proofs.Common.{refl, sym, ◌∙◌, ap}
use Rattle.json_text.proofs.Reading.{space-step}
use Rattle.json_text.proofs.Shown.{moves}
use Rattle.json_text.proofs.Laying.{laid-turn}
use Rattle.json_text.proofs.Arms.{step-separates}
use Rattle.json_text.specs.Grammar.{parts_at}
use Rattle.json_text.specs.Automaton.{next, after, closes}
use Rattle.json_text.proofs.reader.Reader.after.Goals as goal

pub returns-then-is_space : goal.returns-then-is_space
returns-then-is_space c = λ m w f fs h. moves w c.args.self.now c.args.self.now c.args.at c.args.byte after f fs _ _ refl refl m tt h (space-step after c.args.byte f fs tt (sym c.is_space.ensures ∙ c.if-is_space.true))

pub returns-then-separates : goal.returns-then-separates
returns-then-separates c = λ m w f fs h. moves w c.args.self.now _ c.args.at c.args.byte next f fs _ _ refl refl tt tt h
    (let t = laid-turn w _ _ _ f.turn f.parts fs h.lies in
    step-separates c.args.byte f fs (sym c.is_space.ensures ∙ c.if-is_space.false)
    (ap (λ x. closes x c.args.byte) (sym t) ∙ sym c.closes.ensures ∙ c.if-closes.false)
    (ap (λ x. parts_at x c.args.byte) (sym t) ∙ sym c.separates.ensures ∙ c.if-separates.true))
