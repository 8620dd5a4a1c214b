use Rattle.std.proofs.Common.{◌≡◌, ℕ, false, true, subst}
use Rattle.std.specs.List.{list_any}
use Rattle.kinds.specs.Queue.{number_of}
use Rattle.ready_queue.specs.Parking.{Parking}
use Rattle.admission.specs.Indexes.{digest, has_key, IsIn}
use Rattle.admission.specs.Items.{is_item_of}
use Rattle.admission.proofs.Found.{asked_item, at_target, is_in, items_asked, none_at_target, none_weaker, some_weaker}
use Rattle.admission.proofs.waiting.Waiting.first_of.Goals as goal

pub returns-clause-some : goal.returns-clause-some
returns-clause-some c =
    let items = c.self.inside.queue.items in
    let target = c.args.target.now in
    some_weaker (λ n. (has_key c.self.inside.places.keys (c.args.run, digest c.args.target.now) n ≡ true) × (asked_item c.args.target.now c.self.inside.queue.items n ≡ true))
    (λ n. IsIn (is_item_of c.args.run c.args.target.now) n c.args.self.now.items) c.first_of.result
    (λ n h. subst (λ (q : Parking). IsIn (is_item_of c.args.run c.args.target.now) n q.items) c.self.view_is
    (is_in (is_item_of c.args.run target) n items c.self.invariant.listed.apart (at_target (λ i. i) number_of c.args.run n target (asked_item target items) items _ c.self.invariant.listed (items_asked target items) h.0 h.1)))
    c.first_of.ensures.some

pub returns-clause-none : goal.returns-clause-none
returns-clause-none c =
    let items = c.self.inside.queue.items in
    let target = c.args.target.now in
    none_weaker ((n : ℕ) → has_key c.self.inside.places.keys (c.args.run, digest c.args.target.now) n ≡ true → asked_item c.args.target.now c.self.inside.queue.items n ≡ false)
    (list_any (is_item_of c.args.run c.args.target.now) c.args.self.now.items ≡ false) c.first_of.result
    (λ h. subst (λ (q : Parking). list_any (is_item_of c.args.run c.args.target.now) q.items ≡ false) c.self.view_is
    (none_at_target (λ i. i) number_of c.args.run target (asked_item target items) items _ c.self.invariant.listed (items_asked target items) h))
    c.first_of.ensures.none
