-- A value, or a number, ends the text.
use Rattle.std.proofs.Common.{refl, subst, inr, length}
use Rattle.json_text.proofs.Whole.{after-closes, after-value, other-value, ends-answer}
use Rattle.json_text.proofs.Arms.{from-after}
use Rattle.json_text.specs.Reading.{IsMode}
use Rattle.json_text.proofs.reader.Reader.finish.Goals as goal

pub into_tree-requires : goal.into_tree-requires
into_tree-requires c = let r = c.requires in let e = from-after r.0.mode (subst (λ x. IsMode x r.0.mode) c.in-After.is r.1.shows.mode) in
    (r.0.top, r.0.below, after-closes c.args.self.bytes.now c.args.self r.0 r.1 e)

pub returns-in-After-clause-value : goal.returns-in-After-clause-value
returns-in-After-clause-value c = λ s h. let e = from-after s.mode (subst (λ x. IsMode x s.mode) c.in-After.is h.shows.mode) in
    ends-answer (length c.args.self.bytes.now) (length c.args.self.bytes.now) _ _ c.into_tree.result refl (after-value s e)
    (c.into_tree.ensures.value s.top s.below (after-closes c.args.self.bytes.now c.args.self s h e))

pub finish_number-requires : goal.finish_number-requires
finish_number-requires c = let r = c.requires in (r.0, r.1, subst (λ x. IsMode x r.0.mode) c.in-Number.is r.1.shows.mode)

pub returns-in-Number-clause-value : goal.returns-in-Number-clause-value
returns-in-Number-clause-value c = λ s h. c.finish_number.ensures.value s h (subst (λ x. IsMode x s.mode) c.in-Number.is h.shows.mode)

pub returns-clause-value : goal.returns-clause-value
returns-clause-value c = λ s h. inr (c.not_json.ensures, other-value c.args.self.mode s h.shows.mode c.in_default.not-After (λ st e. c.in_default.not-Number st e))
