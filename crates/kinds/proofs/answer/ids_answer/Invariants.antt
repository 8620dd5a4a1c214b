use Rattle.std.proofs.Common.{◌≡◌, ◌++◌, map, take, codes}
use Rattle.std.specs.List.{join_with_byte}
use Rattle.kinds.specs.Answer.{quoted_id}
use Rattle.kinds.proofs.answer.ids_answer.Given as goal

-- the body holds the ids so far
abbrev pub invariant-loop-index : goal.invariant-loop-index
invariant-loop-index l = l.body ≡ codes "{\"ids\":[" ++ join_with_byte 44 (map quoted_id (take l.index l.numbers))
