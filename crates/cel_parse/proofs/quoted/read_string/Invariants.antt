use Rattle.std.proofs.Common.{◌≡◌, length}
use Rattle.expr.specs.Tokens.{cut_string, plain}
use Rattle.cel_parse.specs.Strings.{within_of}
use Rattle.cel_parse.proofs.quoted.read_string.Given as goal

abbrev pub invariant-loop-byte : goal.invariant-loop-byte
invariant-loop-byte l = cut_string l.quote l.value (within_of l.within) l.rest ≡ cut_string l.quote l.initial.value plain l.bytes

abbrev pub decreases-loop-byte : goal.decreases-loop-byte
decreases-loop-byte l = length l.rest
