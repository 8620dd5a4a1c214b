use Rattle.std.proofs.Common.{None, refl, ap, ◌∙◌, subst}
use Rattle.kinds.specs.Cells.{put_start}
use Rattle.throttle.specs.Places.{entry_of, entries_of, Changes, Settles}
use Rattle.throttle.proofs.PlaceLemmas.{indexed_over, indexed_new, indexed_back, place_put}
use Rattle.throttle.proofs.starts.Starts.put.Goals as goal

pub invariant_of-self-in-Ok-Some : goal.invariant_of-self-in-Ok-Some
invariant_of-self-in-Ok-Some c =
    indexed_over _ _ _ _ _ c.self.invariant c.args.cell.now (c.args.greatest, c.self.inside.next) _ _ refl c.in-Some.ensures.1 c.in_ok-stand.ensures.ok c.in-Ok-Some.left (subst (λ o. Settles c.args.cell.now (c.args.greatest, c.self.inside.next) o c.self.inside.places.entries c.settle.new.places.entries) c.in-Ok-Some.field-0-is c.in-Ok-Some.ensures.ok)
    (subst (λ l. Changes l None c.stand.new.entries.entries c.leave.new.entries.entries) c.in-Ok-Some.left-is c.leave.ensures)

pub returns-in-Ok-Some-clause-ok : goal.returns-in-Ok-Some-clause-ok
returns-in-Ok-Some-clause-ok c =
    ap entries_of c.in-Ok-Some.ensures.ok.entries ∙ place_put c.args.cell.now (c.args.greatest, c.self.inside.next) c.self.inside.places.entries
    ∙ ap (put_start (entry_of (c.args.cell.now, (c.args.greatest, c.self.inside.next)))) c.self.view_is

pub invariant_of-self-in-Ok-None : goal.invariant_of-self-in-Ok-None
invariant_of-self-in-Ok-None c =
    indexed_new _ _ _ _ _ c.self.invariant c.args.cell.now (c.args.greatest, c.self.inside.next) _ _ refl c.in-Some.ensures.1 c.in_ok-stand.ensures.ok (subst (λ o. Settles c.args.cell.now (c.args.greatest, c.self.inside.next) o c.self.inside.places.entries c.settle.new.places.entries) c.in-Ok-None.field-0-is c.in-Ok-None.ensures.ok) refl

pub returns-in-Ok-None-clause-ok : goal.returns-in-Ok-None-clause-ok
returns-in-Ok-None-clause-ok c =
    ap entries_of c.in-Ok-None.ensures.ok.entries ∙ place_put c.args.cell.now (c.args.greatest, c.self.inside.next) c.self.inside.places.entries
    ∙ ap (put_start (entry_of (c.args.cell.now, (c.args.greatest, c.self.inside.next)))) c.self.view_is

pub invariant_of-self-in-Err : goal.invariant_of-self-in-Err
invariant_of-self-in-Err c =
    indexed_back _ _ _ _ _ c.self.invariant c.args.cell.now (c.args.greatest, c.self.inside.next) _ _ refl c.in-Some.ensures.1 c.in_ok-stand.ensures.ok c.in-Err.ensures.err c.leave-in-Err.ensures
