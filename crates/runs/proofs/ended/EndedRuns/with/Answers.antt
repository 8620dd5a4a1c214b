use Rattle.std.proofs.Common.{[], ◌∷◌, ◌++◌, find, ap, subst, arith, ◌∙◌}
use Rattle.lists.specs.Entries.{has}
use Rattle.runs.specs.Ended.{ended_number, outgoing}
use Rattle.runs.specs.Mentions.{IsJoined, IsParted}
use Rattle.runs.proofs.Splits.{first_new, none_front, split_more, split_out}
use Rattle.runs.proofs.ended.EndedRuns.with.Goals as goal

pub push-requires : goal.push-requires
push-requires c = (none_front (has ended_number c.args.ended.run) c.self.inside.early c.self.inside.last (ap (find (has ended_number c.args.ended.run)) c.self.view_is ∙ c.requires)).1

pub invariant_of-result : goal.invariant_of-result
invariant_of-result c =
    (split_more c.self.inside.early c.self.inside.last c.self.inside.events c.self.invariant
    c.args.ended c.push.new.self c.add_all.new.self (ap (find (has ended_number c.args.ended.run)) c.self.view_is ∙ c.requires) c.in_ok-push.ensures (subst (λ xs. IsJoined xs c.args.ended.run c.self.inside.events c.add_all.new.self) c.as_slice.ensures c.in_ok-add_all.ensures)
    (let size = c.len.ensures in omega (arith, size))).2

pub push-requires-2 : goal.push-requires-2
push-requires-2 c =
    first_new c.self.inside.early c.self.inside.last c.self.inside.events c.self.invariant
    c.args.ended c.push.new.self c.add_all.new.self (ap (find (has ended_number c.args.ended.run)) c.self.view_is ∙ c.requires) c.in_ok-push.ensures (subst (λ xs. IsJoined xs c.args.ended.run c.self.inside.events c.add_all.new.self) c.as_slice.ensures c.in_ok-add_all.ensures)
    c.in-Some.first c.take_first.new.self c.in-Some.ensures (let size = c.len.ensures in omega (arith, size))

pub invariant_of-result-2 : goal.invariant_of-result-2
invariant_of-result-2 c =
    (split_out c.self.inside.early c.self.inside.last c.self.inside.events c.self.invariant
    c.args.ended c.push.new.self c.add_all.new.self (ap (find (has ended_number c.args.ended.run)) c.self.view_is ∙ c.requires) c.in_ok-push.ensures (subst (λ xs. IsJoined xs c.args.ended.run c.self.inside.events c.add_all.new.self) c.as_slice.ensures c.in_ok-add_all.ensures)
    c.in-Some.first c.take_first.new.self c.in-Some.ensures (let size = c.len.ensures in omega (arith, size))
    c.push-2.new.self c.remove_all.new.self c.in_ok-push-2.ensures (subst (λ xs. IsParted xs c.in-Some.first.run c.add_all.new.self c.remove_all.new.self) c.as_slice-2.ensures c.remove_all.ensures)).2

pub returns-clause-now : goal.returns-clause-now
returns-clause-now c =
    (split_out c.self.inside.early c.self.inside.last c.self.inside.events c.self.invariant
    c.args.ended c.push.new.self c.add_all.new.self (ap (find (has ended_number c.args.ended.run)) c.self.view_is ∙ c.requires) c.in_ok-push.ensures (subst (λ xs. IsJoined xs c.args.ended.run c.self.inside.events c.add_all.new.self) c.as_slice.ensures c.in_ok-add_all.ensures)
    c.in-Some.first c.take_first.new.self c.in-Some.ensures (let size = c.len.ensures in omega (arith, size))
    c.push-2.new.self c.remove_all.new.self c.in_ok-push-2.ensures (subst (λ xs. IsParted xs c.in-Some.first.run c.add_all.new.self c.remove_all.new.self) c.as_slice-2.ensures c.remove_all.ensures)).0
    ∙ ap (λ xs. xs ++ c.args.ended ∷ []) c.self.view_is

pub returns-clause-out : goal.returns-clause-out
returns-clause-out c =
    (split_out c.self.inside.early c.self.inside.last c.self.inside.events c.self.invariant
    c.args.ended c.push.new.self c.add_all.new.self (ap (find (has ended_number c.args.ended.run)) c.self.view_is ∙ c.requires) c.in_ok-push.ensures (subst (λ xs. IsJoined xs c.args.ended.run c.self.inside.events c.add_all.new.self) c.as_slice.ensures c.in_ok-add_all.ensures)
    c.in-Some.first c.take_first.new.self c.in-Some.ensures (let size = c.len.ensures in omega (arith, size))
    c.push-2.new.self c.remove_all.new.self c.in_ok-push-2.ensures (subst (λ xs. IsParted xs c.in-Some.first.run c.add_all.new.self c.remove_all.new.self) c.as_slice-2.ensures c.remove_all.ensures)).1
    ∙ ap outgoing c.self.view_is
