use Rattle.std.proofs.Common.{ℕ, ap, sym, ◌∙◌}
use Rattle.std.specs.BTreeMap.{BTreeMap}
use Rattle.runs.specs.Changes.{called}
use Rattle.runs.specs.Runs.{Run}
use Rattle.runs.proofs.Written.{written, unwritten}
use Rattle.runs.proofs.map.call_at.Goals as goal

pub returns-in_default : goal.returns-in_default
returns-in_default c = ap (λ (m : BTreeMap ℕ Run). m.entries) c.get_mut.follows.holds-at-none ∙ sym (unwritten c.args.number (called c.args.target.now) c.args.runs.now.entries c.in_default.ensures.value)

pub returns : goal.returns
returns c = (c.get_mut.follows.holds c.call.new.self).0 ∙ written c.args.number (called c.args.target.now) _ c.call.new.self c.args.runs.now.entries c.in-Some.ensures.value c.call.ensures
