use Rattle.std.proofs.Common.{◌∙◌, subst, sym}
use Rattle.machine.specs.Numbers.{AreJoined, IsJoined, IsJoinedBy}
use Rattle.machine.proofs.HeldEnds.{ending-once, held-end}
use Rattle.machine.proofs.parts.Parts.end_run.Goals as goal

pub add-requires : goal.add-requires
add-requires c =
    ending-once c.args.self.now c.args.number c.args.status c.in-Some.field-0
    (sym c.in-Some.is ∙ c.in_ok-parent.ensures) c.requires.held

pub returns-clause-now : goal.returns-clause-now
returns-clause-now c =
    let m = c.args.self.now in
    held-end m c.args.number c.args.status c.in-Some.field-0 _ c.end.new.self c.remove_run.new.self
    c.drop_run.new.self c.drop_run-2.new.self c.drop_run-3.new.self c.drop_run-4.new.self c.add.new.self
    (sym c.in-Some.is ∙ c.in_ok-parent.ensures)
    (record {
      live = c.end.ensures.live;
      closing = c.in_ok-end.ensures.closing;
      admitted = c.remove_run.ensures;
      slept = c.drop_run.ensures;
      waited = c.drop_run-2.ensures;
      invoked = c.drop_run-3.ensures;
      ruled = c.drop_run-4.ensures;
    })
    c.in_ok-out.ensures.now
    (record {
      mid = c.touch.new.self.runs;
      own = subst (IsJoined c.args.number m.loose.runs) (sym c.in_ok-touch.ensures.runs) c.in_ok-insert.ensures;
      out = subst (λ o. IsJoinedBy o c.touch.new.self.runs c.insert_some.new.self) c.in_ok-out.ensures.out
          c.in_ok-insert_some.ensures;
      events = subst (λ ns. AreJoined ns m.loose.events c.touch.new.self.events) c.as_slice.ensures
          c.in_ok-touch.ensures.events;
      versions = c.in_ok-touch.ensures.versions;
    })
    c.requires.held
