use Rattle.std.proofs.Common.{◌≡◌, ◌∙◌, ap, find, subst}
use Rattle.awaited.specs.Named.{placed_as}
use Rattle.kinds.specs.Windows as windows
use Rattle.kinds.specs.Windows.{after_event, standing}
use Rattle.run_model.specs.Events.{window_of}
use Rattle.machine.specs.Numbers.{AreJoined}
use Rattle.machine.specs.Offers.{events_in, last_entry}
use Rattle.machine.specs.View.{state_of}
use Rattle.machine.proofs.HeldOffers.{held-joined, join-fresh, join-room, join-rule}
use Rattle.machine.proofs.parts.Parts.join.Goals as goal

pub offer-requires-clause-fresh : goal.offer-requires-clause-fresh
offer-requires-clause-fresh c =
    ap (λ n. find (windows.has_number n) c.args.self.now.windows) c.in_ok-number.ensures
    ∙ join-fresh c.args.self.now c.args.version c.args.rule.now c.args.value c.args.event c.requires.right
    c.requires.given c.requires.held

pub offer-requires-clause-room : goal.offer-requires-clause-room
offer-requires-clause-room c =
    join-room c.args.self.now c.args.version c.args.rule.now c.args.value c.args.event c.requires.right
    c.requires.given c.requires.held

pub offer-requires-clause-rule : goal.offer-requires-clause-rule
offer-requires-clause-rule c =
    join-rule c.args.self.now c.args.version c.args.rule.now c.args.value c.args.event c.requires.right
    c.requires.given c.requires.held

pub returns-clause-now : goal.returns-clause-now
returns-clause-now c =
    let m = c.args.self.now in
    let r = c.args.rule.now in
    let before = window_of c.args.version c.args.value (state_of m) in
    let given = c.in_ok-number.ensures in
    held-joined m c.args.version r c.args.value c.args.event c.requires.right c.requires.given c.requires.held
    c.last_entry-self.result c.insert.new.self c.insert-2.new.self c.touch_events.new.touched c.in_ok-placed.placed
    c.offer.new.self c.in_ok-insert.ensures c.in_ok-insert-2.ensures
    (subst (λ o. AreJoined (events_in o) c.insert-2.new.self c.touch_events.new.touched) c.find.ensures
    c.in_ok-touch_events.ensures)
    (subst (λ n. c.in_ok-placed.placed
    ≡ placed_as r before (after_event r c.args.version c.args.value c.args.event m.moment n before)) given
    c.in_ok-placed.ensures.answer)
    (subst (λ n. c.offer.new.self
    ≡ standing r (after_event r c.args.version c.args.value c.args.event m.moment n before) m.windows) given
    c.in_ok-placed.ensures.ok)
    (subst (λ n. c.last_entry-self.result ≡ last_entry c.in_ok-placed.placed m.counts.entries n) given
    c.last_entry-self.ensures)
