use Rattle.std.proofs.Common.{◌&&◌, not, find, sym, ap, ◌∙◌, subst}
use Rattle.kinds.specs.Windows.{has_number, has_room, is_of}
use Rattle.awaited.specs.Named.{Renames, has_pair, is_in, replaced_in}
use Rattle.awaited.proofs.WindowLemmas.{kept_full, kept_open}
use Rattle.awaited.proofs.windows.WindowSet.offer.Goals as goal

pub invariant_of-self-in-Full : goal.invariant_of-self-in-Full
invariant_of-self-in-Full c =
    let events = c.self.inside.names.events.keys in
    let n = c.in-Full.number in
    kept_full c.self.inside.windows _ _ _ c.self.invariant c.args.rule.now c.args.version c.args.value.now c.args.event c.args.t c.args.number
    (ap (find (has_number c.args.number)) c.self.view_is ∙ c.requires.fresh)
    (ap (λ ws. has_room c.args.rule.now (find (is_of c.args.version c.args.value.now) ws)) c.self.view_is ∙ c.requires.room)
    c.offer.new.self _ _ _ c.in_ok-offered.ensures.ok n c.in-Full.events (sym c.in-Full.is ∙ c.in_ok-offered.ensures.answer)
    c.close.ensures.dues
    (subst (λ l. Renames n (λ name. not (is_in name l) && has_pair events name n) events c.close.new.self.events.keys) c.as_slice.ensures c.close.ensures.events)
    c.close.ensures.versions

pub invariant_of-self-in-Ok : goal.invariant_of-self-in-Ok
invariant_of-self-in-Ok c =
    kept_open c.self.inside.windows _ _ _ c.self.invariant c.args.rule.now c.args.version c.args.value.now c.args.event c.args.t c.args.number
    (ap (find (has_number c.args.number)) c.self.view_is ∙ c.requires.fresh)
    (ap (λ ws. has_room c.args.rule.now (find (is_of c.args.version c.args.value.now) ws)) c.self.view_is ∙ c.requires.room)
    c.offer.new.self _ _ _ c.in_ok-offered.ensures.ok c.in-Waits.number c.in-Waits.due c.replaced_in-replaced.result
    (sym c.in-Waits.is ∙ c.in_ok-offered.ensures.answer)
    (c.replaced_in-replaced.ensures ∙ ap replaced_in (c.find-before.ensures.value ∙ ap (λ v. find (is_of c.args.version v) c.self.inside.windows) c.in_ok-clone.ensures.cases))
    c.in-Ok.ensures.dues c.in-Ok.ensures.events c.in-Ok.ensures.versions
