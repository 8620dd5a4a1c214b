use Rattle.std.proofs.Common.{List, ℕ, sym, ◌∙◌, ap}
use Rattle.json_text.specs.Text.{text_from, none}
use Rattle.cel_eval.proofs.PlainLemmas.{plain}
use Rattle.cel_eval.proofs.text.plain.Goals as goal

pub returns-else-contains : goal.returns-else-contains
returns-else-contains c =
    sym (plain c.inside-inside.result.now (sym c.if-contains.ensures.value)) ∙ ap (λ (x : List ℕ). text_from none x) c.inside-inside.ensures
