use Rattle.std.proofs.Common.{◌≡◌, ◌∙◌, false, ap, sym, subst}
use Rattle.lists.specs.Entries.{without}
use Rattle.event_texts.specs.Texts.{Texts, event_number, has_number}
use Rattle.event_texts.proofs.Sums.{held-without}
use Rattle.event_texts.proofs.texts.Texts.remove.Goals as goal

pub invariant_of-self : goal.invariant_of-self
invariant_of-self c =
    (held-without c.args.number c.self.inside.texts.entries c.remove.new.self.entries c.self.inside.counted.keys
    c.self.inside.bytes (subst (λ (t : Texts). has_number t.counted c.args.number ≡ false) (sym c.self.view_is) c.requires)
    c.self.invariant c.remove.ensures.entries c.remove.ensures.ordered).1

pub returns : goal.returns
returns c = record {
  texts =
      (held-without c.args.number c.self.inside.texts.entries c.remove.new.self.entries c.self.inside.counted.keys
      c.self.inside.bytes (subst (λ (t : Texts). has_number t.counted c.args.number ≡ false) (sym c.self.view_is) c.requires)
      c.self.invariant c.remove.ensures.entries c.remove.ensures.ordered).0
      ∙ ap (λ (t : Texts). without event_number c.args.number t.texts) c.self.view_is;
  counted = ap (λ (t : Texts). t.counted) c.self.view_is;
}
