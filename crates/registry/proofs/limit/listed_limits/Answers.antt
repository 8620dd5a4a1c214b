use Rattle.std.proofs.Common.{inl}
use Rattle.registry.proofs.Arrays.{too_many}
use Rattle.registry.proofs.limit.listed_limits.Goals as goal

pub returns-in_default : goal.returns-in_default
returns-in_default c = inl (too_many c.args.items.now c.in_default.len_at_least)
