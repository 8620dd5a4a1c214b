use Rattle.std.proofs.Common.{◌≡◌, ◌∙◌, IfOk, subst}
use Rattle.machine.specs.View.{state_of}
use Rattle.machine.proofs.Matched.{waits-right, woken-by}
use Rattle.machine.proofs.parts.Parts.woken_by.Goals as goal

pub matches-requires : goal.matches-requires
matches-requires g c = record {
  right = waits-right c.in_ok-fresh.fresh c.in_ok-event.event (state_of c.args.self.now) c.requires.held.fit;
}

pub returns : goal.returns
returns g c =
    subst (λ exact. IfOk c.matches.result (λ ns. ns ≡ exact))
    (woken-by c.args.number c.args.name.now c.in_ok-fresh.fresh c.in_ok-event.event (state_of c.args.self.now) _
    c.in_ok-event.ensures (c.in_ok-fresh.ensures ∙ c.text_or_none.ensures)) c.matches.ensures.woken
