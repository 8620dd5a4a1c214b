use Rattle.std.proofs.Common.{List, ℕ, subst}
use Rattle.expr.specs.Reading.{atom_or_callee, atom_of, callee_of}
use Rattle.cel_parse.specs.Frames.{open_in, Answers}
use Rattle.cel_parse.proofs.step.step_want.Goals as goal

pub returns-in-Word : goal.returns-in-Word
returns-in-Word c = let fs = open_in c.args.stack.now in rw c.in-Word.is
    (subst (λ (w : List ℕ). Answers fs (atom_or_callee fs (atom_of w) (callee_of w)) c.begin_word.result) c.as_slice.ensures (c.begin_word.ensures fs))
