use Rattle.std.proofs.Common.{◌≡◌, ◌+◌, ◌∙◌, find, None, ap, subst, sym}
use Rattle.kinds.specs.Cells.{IsStart}
use Rattle.kinds.specs.Queue.{has_number, insert_item}
use Rattle.kinds.specs.declared.store.Item.{Item}
use Rattle.machine.proofs.HeldMaking.{on-ok}
use Rattle.machine.proofs.HeldReplies.{held-again}
use Rattle.machine.proofs.parts.Parts.queue_again.Goals as goal

pub add-requires-clause-fresh : goal.add-requires-clause-fresh
add-requires-clause-fresh c =
    subst (λ (i : Item). find (has_number i.number) c.args.self.now.admission.items ≡ None) (sym c.again.ensures)
    c.requires.aside.unqueued

pub add-requires-clause-start : goal.add-requires-clause-start
add-requires-clause-start c = subst (λ (i : Item). IsStart i.start) (sym c.again.ensures) tt

pub returns : goal.returns
returns c =
    let m = c.args.self.now in
    on-ok c.add.result _ _
    (λ added. held-again m c.args.item c.args.after c.add.new.self
    (added ∙ ap (λ i. record m.admission { items = insert_item i m.admission.items }) c.again.ensures
    ∙ ap (λ d. record m.admission {
      items = insert_item (record c.args.item { attempt = c.args.item.attempt + 1; due = d; start = None })
          m.admission.items;
    }) (c.in_ok-due.ensures ∙ ap (λ k. m.moment + k) c.delay.ensures)) c.requires.aside c.requires.held)
    c.add.ensures.ok
