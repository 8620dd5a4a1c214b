use Rattle.std.proofs.Common.{◌≡◌, ◌∙◌, find, None, ap, subst, sym}
use Rattle.kinds.specs.Cells.{IsStart}
use Rattle.kinds.specs.Queue.{has_number, insert_item}
use Rattle.kinds.specs.declared.store.Item.{Item}
use Rattle.machine.specs.Steps.{due_now}
use Rattle.machine.specs.View.{state_of}
use Rattle.machine.proofs.HeldMaking.{on-ok}
use Rattle.machine.proofs.Reopened.{held-queue}
use Rattle.machine.proofs.parts.Parts.queue_now.Goals as goal

pub add-requires-clause-fresh : goal.add-requires-clause-fresh
add-requires-clause-fresh c =
    subst (λ (i : Item). find (has_number i.number) c.args.self.now.admission.items ≡ None) (sym c.due_at.ensures)
    c.requires.aside.unqueued

pub add-requires-clause-start : goal.add-requires-clause-start
add-requires-clause-start c = subst (λ (i : Item). IsStart i.start) (sym c.due_at.ensures) c.requires.start

pub returns : goal.returns
returns c =
    let m = c.args.self.now in
    on-ok c.add.result _ _
    (λ queued. held-queue m (due_now c.args.item (state_of m)) c.add.new.self
    (queued ∙ ap (λ i. record m.admission { items = insert_item i m.admission.items }) c.due_at.ensures)
    (record { number = c.requires.aside.given; start = c.requires.start }) c.requires.held) c.add.ensures.ok
