-- The definition of accepted lines on examples.
use Rattle.std.proofs.Common.{◌≡◌, [], codes, refl}
use Rattle.replay_core.specs.Accepted.{accepted_line, accepted_lines}
use Rattle.replay_core.specs.Pieces.{all_lines, lines_of}
use Rattle.replay_core.specs.Replay.{on_line, start}
use Rattle.replay_core.specs.Line.{read_line}
use Rattle.replay_core.specs.declared.form.Form.TheVariants.{Full}
use Rattle.text_num.specs.Digits.{u64_of}

-- an empty line and a comment add nothing
row-passed : accepted_lines (start Full) (all_lines (lines_of (codes "\n# a\n"))) ≡ []
unfolding accepted_line accepted_lines lines_of on_line read_line
row-passed = refl

-- a line outside the grammar adds nothing, and ends the run
row-outside : accepted_lines (start Full) (all_lines (lines_of (codes "bogus\n0 EVENT x i1"))) ≡ []
unfolding accepted_line accepted_lines lines_of on_line read_line u64_of
row-outside = refl
