-- All bytes so far are digits, or one isn't.
use Rattle.std.proofs.Common.{◌≡◌, take}
use Rattle.std.specs.List.{list_all}
use Rattle.step_ids.specs.Step.{is_lower_digit}
use Rattle.step_ids.proofs.step.are_lower_hex.Given as goal

abbrev pub invariant-loop-byte : goal.invariant-loop-byte
invariant-loop-byte l = l.all ≡ list_all is_lower_digit (take l.byte-index l.text)
