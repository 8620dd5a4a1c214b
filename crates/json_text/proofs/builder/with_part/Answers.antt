-- The new count is one more, as that of the parts.
use Rattle.std.proofs.Common.{ap, sym, ◌∙◌, ◌+◌, refl}
use Rattle.json_text.proofs.Laying.{count-snoc}
use Rattle.json_text.specs.Grammar.{following}
use Rattle.json_text.proofs.builder.with_part.Goals as goal

pub returns : goal.returns
returns c = (refl, λ t js j h. record { is_turn = c.following.ensures ∙ ap following h.is_turn; is_count = (let e = count-snoc js j in let k = c.in-Some.ensures in let i = h.is_count in k.1 ∙ ap (λ x. x + 1) i ∙ sym e) })
