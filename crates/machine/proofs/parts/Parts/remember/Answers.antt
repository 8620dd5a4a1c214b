use Rattle.std.proofs.Common.{◌∙◌, Some, ap, subst, sym}
use Rattle.machine.specs.Held.{Becomes}
use Rattle.machine.specs.View.{state_of}
use Rattle.machine.specs.Words.{note_id}
use Rattle.machine.proofs.HeldMaking.{on-ok}
use Rattle.machine.proofs.HeldRequests.{held-note_id}
use Rattle.machine.proofs.parts.Parts.remember.Goals as goal

pub returns-in-Some : goal.returns-in-Some
returns-in-Some c =
    let m = c.args.self.now in
    on-ok c.note.result _ _
    (λ noted. subst (λ o. Becomes (note_id o c.args.number (state_of m)) m (record m { seen = c.note.new.self }))
    (ap Some c.as_slice.ensures ∙ sym c.in-Some.is)
    (held-note_id m c.as_slice.result.now c.args.number c.note.new.self noted c.requires.given c.requires.held))
    c.note.ensures.ok
