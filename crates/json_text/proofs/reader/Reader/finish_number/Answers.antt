-- The number ends the text where it may.
use Rattle.std.proofs.Common.{sym, ◌∙◌, ap, subst, inr, length}
use Rattle.json_text.proofs.Whole.{is-number, number-value, number-no-value, number-closes, ends-answer}
use Rattle.json_text.specs.Grammar.{number}
use Rattle.json_text.specs.Automaton.{put}
use Rattle.json_text.specs.Reading.{Closes}
use Rattle.json_text.proofs.reader.Reader.finish_number.Goals as goal

pub into_tree-requires : goal.into_tree-requires
into_tree-requires c = let r = c.requires in let n = is-number r.0.mode c.args.stage r.2 in (
  put (number n.0) r.0.top,
  r.0.below,
  subst (λ b. Closes b.now c.put.new.self (put (number n.0) r.0.top) r.0.below) (sym c.put.ensures.kept)
      (number-closes c.args.self.bytes.now c.args.self c.put.new.self r.0 n.0 c.args.stage r.1 n.1 (sym c.may_end.ensures ∙ c.if-not-may_end.false) c.in_ok-put.ensures.put),
)

pub returns-clause-value : goal.returns-clause-value
returns-clause-value c = λ s h i. let n = is-number s.mode c.args.stage i in let m = sym c.may_end.ensures ∙ c.if-not-may_end.false in
    ends-answer (length c.put.new.self.bytes.now) (length c.args.self.bytes.now) _ _ c.into_tree.result (ap (λ b. length b.now) c.put.ensures.kept) (number-value s n.0 c.args.stage n.1 m)
    (c.into_tree.ensures.value (put (number n.0) s.top) s.below
    (subst (λ b. Closes b.now c.put.new.self (put (number n.0) s.top) s.below) (sym c.put.ensures.kept)
    (number-closes c.args.self.bytes.now c.args.self c.put.new.self s n.0 c.args.stage h n.1 m c.in_ok-put.ensures.put)))

pub returns-then-not-may_end-clause-value : goal.returns-then-not-may_end-clause-value
returns-then-not-may_end-clause-value c = λ s h i. let n = is-number s.mode c.args.stage i in
    inr (c.not_json.ensures, number-no-value s n.0 c.args.stage n.1 (sym c.may_end.ensures ∙ c.if-not-may_end.true))
