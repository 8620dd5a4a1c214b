-- A space stays; the closing bracket closes; another byte begins a part.
use Rattle.std.proofs.Common.{refl, sym, ◌∙◌}
use Rattle.json_text.proofs.Reading.{space-step}
use Rattle.json_text.proofs.Shown.{moves}
use Rattle.json_text.specs.Automaton.{first}
use Rattle.json_text.proofs.reader.Reader.first.Goals as goal

pub returns-then-is_space : goal.returns-then-is_space
returns-then-is_space c = λ m w f fs h. moves w c.args.self.now c.args.self.now c.args.at c.args.byte first f fs _ _ refl refl m tt h (space-step first c.args.byte f fs tt (sym c.is_space.ensures ∙ c.if-is_space.true))
