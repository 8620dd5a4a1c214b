use Rattle.std.proofs.Common.{◌∙◌, ◌&&◌, not, ap}
use Rattle.std.specs.List.{find}
use Rattle.lists.specs.Entries.{has}
use Rattle.lists.proofs.Keyed.{find_without}
use Rattle.kinds.specs.Stores.{due_number, due_at, insert_due}
use Rattle.awaited.specs.Named.{has_pair, is_one}
use Rattle.awaited.proofs.NameLemmas.{renames_none, inserted}
use Rattle.awaited.proofs.names.Names.open.Goals as goal

pub put-requires : goal.put-requires
put-requires c = record { new = ap (find (has due_number c.args.number)) c.drop_number.ensures ∙ find_without (has due_number c.args.number) _ }

pub returns-clause-dues : goal.returns-clause-dues
returns-clause-dues c = c.in_ok-put.ensures.ok ∙ ap (insert_due (due_at c.args.due c.args.number 0)) c.drop_number.ensures

pub returns-clause-events : goal.returns-clause-events
returns-clause-events c = inserted c.args.number (λ other. not (is_one c.args.replaced other) && has_pair c.args.self.now.events.keys other c.args.number) _ _ _ c.unname_one.ensures c.args.event c.in_ok-insert.ensures.updates.0

pub returns-clause-versions : goal.returns-clause-versions
returns-clause-versions c = inserted c.args.number (λ other. has_pair c.args.self.now.versions.keys other c.args.number) _ _ _ (renames_none c.args.number c.args.self.now.versions.keys) c.args.version c.in_ok-insert-2.ensures.updates.0
