-- The bracket's entry and those of its parts become a part of the bracket around it.
use Rattle.std.proofs.Common.{ap, sym, ◌∙◌, ◌++◌, ◌∷◌, []}
use Rattle.json_text.proofs.Laying.{close-laid}
use Rattle.json_text.proofs.builder.Builder.close.Goals as goal

pub returns-clause-closed : goal.returns-clause-closed
returns-clause-closed c = λ _ w t js g gs v h n e.
    close-laid w _ _ _ _ c.in-Some.outer _ c.end_entry.new.self.below.items t js g gs v _
    (c.in-Some.ensures.items ∙ ap (λ x. x.items ++ c.in-Some.outer ∷ []) (sym c.in_ok-end_entry.ensures.below)) c.in_ok-self.ensures n e c.in_ok-end_entry.ensures.written h
