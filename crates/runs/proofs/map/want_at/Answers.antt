use Rattle.std.proofs.Common.{ℕ, ap, sym, ◌∙◌}
use Rattle.std.specs.BTreeMap.{BTreeMap}
use Rattle.runs.specs.Changes.{want}
use Rattle.runs.specs.Runs.{Run}
use Rattle.runs.proofs.Written.{written, unwritten}
use Rattle.runs.proofs.map.want_at.Goals as goal

pub returns-in_default : goal.returns-in_default
returns-in_default c = ap (λ (m : BTreeMap ℕ Run). m.entries) c.get_mut.follows.holds-at-none ∙ sym (unwritten c.args.number want c.args.runs.now.entries c.in_default.ensures.value)

pub returns : goal.returns
returns c = (c.get_mut.follows.holds c.want.new.self).0 ∙ written c.args.number want _ c.want.new.self c.args.runs.now.entries c.in-Some.ensures.value c.want.ensures
