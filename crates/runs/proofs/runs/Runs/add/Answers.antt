use Rattle.std.proofs.Common.{◌∙◌, ap}
use Rattle.lists.specs.Entries.{insert_by}
use Rattle.runs.specs.Runs.{RunLists, run_at, run_number}
use Rattle.runs.proofs.Listed.{absent_below, disjoint_put, put_last}
use Rattle.runs.proofs.runs.Runs.add.Goals as goal

pub put-requires : goal.put-requires
put-requires c =
    ap (run_at c.args.run.number) (c.replace-before.ensures.value ∙ ap (λ (l : RunLists). l.live) c.self.view_is)
    ∙ absent_below c.args.run c.args.self.now.live c.requires.below

pub invariant_of-self-2 : goal.invariant_of-self-2
invariant_of-self-2 c =
    disjoint_put c.args.run c.self.inside.live _ c.self.inside.closing
    (c.in_ok-live.ensures ∙ ap (insert_by run_number c.args.run) c.replace-before.ensures.value)
    (ap (λ (l : RunLists). run_at c.args.run.number l.closing) c.self.view_is ∙ absent_below c.args.run c.args.self.now.closing c.requires.closing)
    c.self.invariant

pub returns-clause-live : goal.returns-clause-live
returns-clause-live c =
    c.in_ok-live.ensures ∙ ap (insert_by run_number c.args.run) (c.replace-before.ensures.value ∙ ap (λ (l : RunLists). l.live) c.self.view_is)
    ∙ put_last c.args.run c.args.self.now.live c.requires.below
