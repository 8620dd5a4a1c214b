use Rattle.std.proofs.Common.{◌≡◌, ◌<◌, ◌+◌, ◌^◌, ◌++◌, ℕ, List, length, take}
use Rattle.text_num.specs.Units.{fraction_digits}
use Rattle.text_num.proofs.WritingLemmas.{written}
use Rattle.text_num.proofs.units.put_fraction.Given as goal

abbrev pub invariant-loop-rest : goal.invariant-loop-rest
invariant-loop-rest l = (done : List ℕ)
    × (l.at ≡ l.initial.at + length done)
    × (length done + l.places ≡ 18)
    × (l.rest < 10 ^ l.places)
    × (done ++ fraction_digits l.places l.rest ≡ fraction_digits 18 l.initial.rest)
    × (l.out ≡ written (take l.initial.at l.initial.out ++ done) l.initial.out)

abbrev pub decreases-loop-rest : goal.decreases-loop-rest
decreases-loop-rest l = l.places
