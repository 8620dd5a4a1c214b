-- The quotation mark and the bytes so far are written.
use Rattle.std.proofs.Common.{◌≡◌, ◌++◌, ◌∷◌, take}
use Rattle.json_text.specs.Text.{escaped}
use Rattle.json_text.proofs.text.put_text.Given as goal

abbrev pub invariant-loop-byte : goal.invariant-loop-byte
invariant-loop-byte l = l.out ≡ l.fn.out ++ 0x22 ∷ escaped (take l.byte-index l.text)
