use Rattle.std.proofs.Common.{◌<◌, ◌∙◌, [], ◌∷◌, ◌++◌, ap, sym, subst}
use Rattle.std.specs.List.{AllByRecursion}
use Rattle.event_texts.specs.Texts.{Texts}
use Rattle.event_texts.specs.declared.texts.EventText.{EventText}
use Rattle.event_texts.proofs.Sums.{held-last}
use Rattle.event_texts.proofs.texts.Texts.add.Goals as goal

pub invariant_of-self-2 : goal.invariant_of-self-2
invariant_of-self-2 c =
    let x : EventText = record { number = c.args.number; text = c.args.text } in
    let below = subst (λ (t : Texts). AllByRecursion (λ (e : EventText). e.number < c.args.number) t.texts)
    (sym c.self.view_is) c.requires.below in
    (held-last x c.self.inside.texts.entries c.insert.new.self.entries c.self.inside.counted.keys c.self.inside.bytes
    below c.self.invariant c.in_ok-insert.ensures.entries c.in_ok-insert.ensures.ordered).1

pub returns-clause-ok : goal.returns-clause-ok
returns-clause-ok c =
    let x : EventText = record { number = c.args.number; text = c.args.text } in
    let below = subst (λ (t : Texts). AllByRecursion (λ (e : EventText). e.number < c.args.number) t.texts)
    (sym c.self.view_is) c.requires.below in
    ap (λ es. record { texts = es; counted = c.self.inside.counted.keys })
    (held-last x c.self.inside.texts.entries c.insert.new.self.entries c.self.inside.counted.keys c.self.inside.bytes
    below c.self.invariant c.in_ok-insert.ensures.entries c.in_ok-insert.ensures.ordered).0
    ∙ ap (λ (t : Texts). record t { texts = t.texts ++ x ∷ [] }) c.self.view_is
