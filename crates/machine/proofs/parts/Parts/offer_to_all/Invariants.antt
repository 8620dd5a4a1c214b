use Rattle.std.proofs.Common.{drop}
use Rattle.machine.proofs.HeldOffers.{IsOffering}
use Rattle.machine.proofs.parts.Parts.offer_to_all.Given as goal

abbrev pub invariant-loop-place : goal.invariant-loop-place
invariant-loop-place l =
    IsOffering l.number l.name (drop l.place l.initial.self.versions.current) l.initial.self l.self
