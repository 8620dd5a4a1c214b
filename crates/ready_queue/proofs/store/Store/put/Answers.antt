use Rattle.std.proofs.Common.{◌∙◌, ap}
use Rattle.std.specs.List.{find}
use Rattle.kinds.specs.Queue.{has_number, insert_item}
use Rattle.ready_queue.proofs.ScanLemmas.{store_put}
use Rattle.ready_queue.proofs.store.Store.put.Goals as goal

pub invariant_of-self-2 : goal.invariant_of-self-2
invariant_of-self-2 c =
    (store_put c.self.inside.items.entries c.put_at.new.items.entries c.args.item c.self.invariant (ap (find (has_number c.args.item.number)) c.self.view_is ∙ c.requires.fresh) c.requires.start c.requires.score
    c.in_ok-put_at.ensures.entries c.in_ok-put_at.ensures.ordered).1

pub returns-clause-ok : goal.returns-clause-ok
returns-clause-ok c =
    (store_put c.self.inside.items.entries c.put_at.new.items.entries c.args.item c.self.invariant (ap (find (has_number c.args.item.number)) c.self.view_is ∙ c.requires.fresh) c.requires.start c.requires.score
    c.in_ok-put_at.ensures.entries c.in_ok-put_at.ensures.ordered).0
    ∙ ap (insert_item c.args.item) c.self.view_is
