use Rattle.std.proofs.Common.{◌∙◌, ◌++◌, ◌∷◌, [], ap, find, subst}
use Rattle.kinds.specs.Queue.{has_number}
use Rattle.kinds.specs.declared.store.Item.{Item}
use Rattle.run_model.specs.Making.{new_item, step_target}
use Rattle.runs.specs.Origin.{run_of}
use Rattle.machine.specs.Numbers.{IsTouched}
use Rattle.machine.specs.View.{state_of}
use Rattle.machine.proofs.HeldMaking.{fresh-number, on-ok}
use Rattle.machine.proofs.HeldRuns.{held-add_run}
use Rattle.machine.proofs.parts.Parts.add_run.Goals as goal

pub add-requires-2-clause-fresh : goal.add-requires-2-clause-fresh
add-requires-2-clause-fresh c =
    let m = c.args.self.now in
    ap (λ (i : Item). find (has_number i.number) m.admission.items) c.in_ok-item.ensures
    ∙ fresh-number m.counts.entries m.admission.items c.requires.held.fit.calls_fit.queued

pub returns : goal.returns
returns c =
    let m = c.args.self.now in
    on-ok c.add-2.result _ _
    (λ added. held-add_run m (run_of c.args.origin) c.in_ok-item.item c.touch.new.self c.add.new.self
    c.add-2.new.self c.requires.next c.requires.fit
    (c.in_ok-item.ensures ∙ ap (λ r. new_item r step_target (state_of m)) c.in_ok-run.ensures)
    (subst (λ es. IsTouched c.args.origin.version es m.loose c.touch.new.self) c.as_slice.ensures
    c.in_ok-touch.ensures)
    (c.in_ok-add.ensures.live ∙ ap (λ r. m.runs.live ++ r ∷ []) c.in_ok-run.ensures) c.in_ok-add.ensures.closing added
    c.requires.held) c.add-2.ensures.ok
