use Rattle.std.proofs.Common.{◌≡◌, drop, Some}
use Rattle.json_text.specs.Nodes.{IsNodeOf, value_at}
use Rattle.event_keys.specs.Buckets.{member_at}
use Rattle.event_keys.proofs.bucket.member_at.Given as goal

abbrev pub invariant-loop-name : goal.invariant-loop-name
invariant-loop-name l = IsNodeOf l.tree l.node × (member_at (Some l.tree.value) l.path ≡ member_at (Some (value_at l.tree l.node)) (drop l.name-index l.path))
