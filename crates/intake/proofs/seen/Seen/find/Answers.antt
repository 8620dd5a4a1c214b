use Rattle.std.proofs.Common.{cond, None, Some, sym, ◌∙◌, ap}
use Rattle.kinds.specs.Seen.{find_seen}
use Rattle.intake.proofs.seen.Seen.find.Goals as goal
use Rattle.intake.proofs.Ids.{entry_of, find_seen_at, seen_at}

pub returns-in_err-entry : goal.returns-in_err-entry
returns-in_err-entry c =
    c.from_residual.ensures
    ∙ sym (find_seen_at c.args.id.now c.args.moment c.self.inside.placed c.self.invariant.apart
    ∙ ap (seen_at c.args.moment) (sym (entry_of c.args.id.now c.self.inside.placed None c.self.invariant.apart c.in_err-entry.ensures)))
    ∙ ap (find_seen c.args.id.now c.args.moment) c.self.view_is

pub returns-then-is_inside : goal.returns-then-is_inside
returns-then-is_inside c =
    sym (sym (ap (find_seen c.args.id.now c.args.moment) c.self.view_is) ∙ find_seen_at c.args.id.now c.args.moment c.self.inside.placed c.self.invariant.apart
    ∙ ap (seen_at c.args.moment) (sym (entry_of c.args.id.now c.self.inside.placed (Some c.in_ok-entry.entry.now) c.self.invariant.apart c.in_ok-entry.ensures))
    ∙ ap (λ b. cond b (Some c.in_ok-entry.entry.now.number) None) (sym c.is_inside.ensures ∙ c.if-is_inside.true))

pub returns-else-is_inside : goal.returns-else-is_inside
returns-else-is_inside c =
    sym (sym (ap (find_seen c.args.id.now c.args.moment) c.self.view_is) ∙ find_seen_at c.args.id.now c.args.moment c.self.inside.placed c.self.invariant.apart
    ∙ ap (seen_at c.args.moment) (sym (entry_of c.args.id.now c.self.inside.placed (Some c.in_ok-entry.entry.now) c.self.invariant.apart c.in_ok-entry.ensures))
    ∙ ap (λ b. cond b (Some c.in_ok-entry.entry.now.number) None) (sym c.is_inside.ensures ∙ c.if-is_inside.false))
