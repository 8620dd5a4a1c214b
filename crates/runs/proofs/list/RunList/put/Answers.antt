use Rattle.std.proofs.Common.{◌∙◌, ap}
use Rattle.lists.specs.Entries.{insert_by}
use Rattle.runs.specs.Runs.{run_at, run_number}
use Rattle.runs.proofs.Listed.{indexed_put, sum_by}
use Rattle.runs.proofs.list.RunList.put.Goals as goal

pub invariant_of-result : goal.invariant_of-result
invariant_of-result c =
    (indexed_put c.self.inside.runs.entries c.self.inside.bytes c.self.inside.events c.self.inside.versions c.self.invariant c.put_at.new.runs.entries c.args.run c.number-number.result c.in_ok-bytes.bytes c.bytes.result c.version.result c.events-named.result.now c.add_all.new.self c.add.new.self
    c.number-number.ensures c.events-named.ensures c.version.ensures c.bytes.ensures (ap (run_at c.args.run.number) c.self.view_is ∙ c.requires) c.in_ok-put_at.ensures.entries c.in_ok-put_at.ensures.ordered
    (sum_by c.checked_add.result c.in_ok-bytes.bytes _ _ c.checked_add.ensures c.in_ok-bytes.ensures.ok_part) c.in_ok-add_all.ensures c.in_ok-add.ensures).1

pub returns : goal.returns
returns c =
    (indexed_put c.self.inside.runs.entries c.self.inside.bytes c.self.inside.events c.self.inside.versions c.self.invariant c.put_at.new.runs.entries c.args.run c.number-number.result c.in_ok-bytes.bytes c.bytes.result c.version.result c.events-named.result.now c.add_all.new.self c.add.new.self
    c.number-number.ensures c.events-named.ensures c.version.ensures c.bytes.ensures (ap (run_at c.args.run.number) c.self.view_is ∙ c.requires) c.in_ok-put_at.ensures.entries c.in_ok-put_at.ensures.ordered
    (sum_by c.checked_add.result c.in_ok-bytes.bytes _ _ c.checked_add.ensures c.in_ok-bytes.ensures.ok_part) c.in_ok-add_all.ensures c.in_ok-add.ensures).0
    ∙ ap (insert_by run_number c.args.run) c.self.view_is
