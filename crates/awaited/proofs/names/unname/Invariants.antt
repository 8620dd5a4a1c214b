use Rattle.std.proofs.Common.{◌&&◌, not, take}
use Rattle.awaited.specs.Named.{is_in, has_pair, Renames}
use Rattle.awaited.proofs.names.unname.Given as goal

abbrev pub invariant-loop-name : goal.invariant-loop-name
invariant-loop-name l = Renames l.number (λ name. not (is_in name (take l.name-index l.names)) && has_pair l.initial.pairs.keys name l.number) l.initial.pairs.keys l.pairs.keys
