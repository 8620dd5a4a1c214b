use Rattle.std.proofs.Common.{◌≡◌, Some, ◌∙◌, ap, subst}
use Rattle.ready_queue.specs.Held.{Groups, name_at, holds, Comes, AreFewer}
use Rattle.ready_queue.proofs.ReadyLemmas.{named_more, comes_added, fewer_named}
use Rattle.ready_queue.proofs.ready.Ready.put.Goals as goal

pub invariant_of-self-2 : goal.invariant_of-self-2
invariant_of-self-2 c =
    named_more c.requires.0 c.args.name c.args.score c.args.number _ _ _ _ c.self.invariant (ap (λ (r : Groups). name_at c.requires.0 r.held.names) c.self.view_is ∙ c.requires.1) c.in_ok-add.ensures.ok

pub returns-clause-ok : goal.returns-clause-ok
returns-clause-ok c = λ k is.
    subst (λ (r : Groups). Comes k c.args.score c.args.number (holds r.held) (holds (record { names = c.self.inside.names.entries; keys = c.add.new.self.keys }))) c.self.view_is
    (comes_added k c.args.name c.args.score c.args.number _ _ _ _ c.self.invariant (ap (λ (r : Groups). name_at k r.held.names) c.self.view_is ∙ is) c.in_ok-add.ensures.ok)

pub returns-clause-parked : goal.returns-clause-parked
returns-clause-parked c =
    subst (λ (r : Groups). AreFewer r (record { held = record { names = c.self.inside.names.entries; keys = c.add.new.self.keys }; places = c.add.new.self.places })) c.self.view_is
    (fewer_named _ _ _ _ _ c.in_ok-add.ensures.parked)

pub returns-in_err-add-clause-parked : goal.returns-in_err-add-clause-parked
returns-in_err-add-clause-parked c =
    subst (λ (r : Groups). AreFewer r (record { held = record { names = c.self.inside.names.entries; keys = c.add.new.self.keys }; places = c.add.new.self.places })) c.self.view_is
    (fewer_named _ _ _ _ _ c.in_err-add.ensures.parked)
