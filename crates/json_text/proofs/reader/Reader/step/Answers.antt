-- Each arm answers as the automaton in its mode.
use Rattle.std.proofs.Common.{sym, ◌∙◌, ap, subst}
use Rattle.json_text.proofs.Reading.{step-in-is}
use Rattle.json_text.proofs.Shown.{as-answer, holds-stays}
use Rattle.json_text.proofs.Arms.{from-first, from-next, from-after}
use Rattle.json_text.specs.Automaton.{first, next, after, step_in}
use Rattle.json_text.specs.Reading.{IsMode}
use Rattle.json_text.specs.Automaton.{token}
use Rattle.json_text.proofs.reader.Reader.step.Goals as goal

pub returns-in-First : goal.returns-in-First
returns-in-First c = λ w s h.
    let e = from-first s.mode (subst (λ x. IsMode x s.mode) c.in-First.is h.shows.mode) in
    as-answer w c.args.at _ (step_in first c.args.byte s.top s.below) _ _ (step-in-is s.mode s.top s.below c.args.byte ∙ ap (λ x. step_in x c.args.byte s.top s.below) e)
    (c.first.ensures (subst (λ x. IsMode x first) (sym c.in-First.is) tt) w s.top s.below (holds-stays w c.args.self.now c.args.at c.args.byte s.mode s.top s.below (ap token e) h))

pub returns-in-Next : goal.returns-in-Next
returns-in-Next c = λ w s h.
    let e = from-next s.mode (subst (λ x. IsMode x s.mode) c.in-Next.is h.shows.mode) in
    as-answer w c.args.at _ (step_in next c.args.byte s.top s.below) _ _ (step-in-is s.mode s.top s.below c.args.byte ∙ ap (λ x. step_in x c.args.byte s.top s.below) e)
    (c.next.ensures (subst (λ x. IsMode x next) (sym c.in-Next.is) tt) w s.top s.below (holds-stays w c.args.self.now c.args.at c.args.byte s.mode s.top s.below (ap token e) h))

pub returns-in-After : goal.returns-in-After
returns-in-After c = λ w s h.
    let e = from-after s.mode (subst (λ x. IsMode x s.mode) c.in-After.is h.shows.mode) in
    as-answer w c.args.at _ (step_in after c.args.byte s.top s.below) _ _ (step-in-is s.mode s.top s.below c.args.byte ∙ ap (λ x. step_in x c.args.byte s.top s.below) e)
    (c.after.ensures (subst (λ x. IsMode x after) (sym c.in-After.is) tt) w s.top s.below (holds-stays w c.args.self.now c.args.at c.args.byte s.mode s.top s.below (ap token e) h))

pub returns-in-Text : goal.returns-in-Text
returns-in-Text c = λ w s h. as-answer w c.args.at _ (step_in s.mode c.args.byte s.top s.below) _ _ (step-in-is s.mode s.top s.below c.args.byte)
    (c.text.ensures w s.mode s.top s.below (subst (λ x. IsMode x s.mode) c.in-Text.is h.shows.mode) h)

pub returns-in-Number : goal.returns-in-Number
returns-in-Number c = λ w s h. as-answer w c.args.at _ (step_in s.mode c.args.byte s.top s.below) _ _ (step-in-is s.mode s.top s.below c.args.byte)
    (c.number.ensures w s.mode s.top s.below (subst (λ x. IsMode x s.mode) c.in-Number.is h.shows.mode) h)

pub returns-in-Word : goal.returns-in-Word
returns-in-Word c = λ w s h. as-answer w c.args.at _ (step_in s.mode c.args.byte s.top s.below) _ _ (step-in-is s.mode s.top s.below c.args.byte)
    (c.word.ensures w s.mode s.top s.below (subst (λ x. IsMode x s.mode) c.in-Word.is h.shows.mode) h)
