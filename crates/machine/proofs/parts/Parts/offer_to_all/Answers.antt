use Rattle.std.proofs.Common.{◌<◌, ap, arith, length}
use Rattle.machine.proofs.HeldOffers.{offering-on, offering-right}
use Rattle.machine.proofs.parts.Parts.offer_to_all.Goals as goal

pub take_offer-requires-clause-right : goal.take_offer-requires-clause-right
take_offer-requires-clause-right c =
    let same = ap length c.current-place-end.ensures in
    let within : c.loop-place.place < length c.args.self.now.versions.current = omega (arith, same) in
    offering-right c.args.number c.args.name.now c.loop-place.place c.args.self.now c.loop-place.self
    c.in_ok-offer.offer within c.loop-place.invariant c.in_ok-offer.ensures

pub loop-place-preserved : goal.loop-place-preserved
loop-place-preserved c =
    let same = ap length c.current-place-end.ensures in
    let within : c.loop-place.place < length c.args.self.now.versions.current = omega (arith, same) in
    offering-on c.args.number c.args.name.now c.loop-place.place c.args.self.now c.loop-place.self
    c.in_ok-offer.offer within c.loop-place.invariant c.in_ok-offer.ensures c.take_offer.new.self
    c.in_ok-take_offer.ensures
