use Rattle.std.proofs.Common.{◌≡◌, ◌++◌}
use Rattle.std.specs.List.{filter}
use Rattle.std.specs.Option.{option_map}
use Rattle.sdk_call.specs.Query.{pieces, is_kept, ended, pieces_left, bytes_left}
use Rattle.sdk_call.proofs.query.push_kept.Given as goal

abbrev pub invariant-loop-left : goal.invariant-loop-left
invariant-loop-left l = l.text ++ ended (filter is_kept (pieces_left (option_map (λ t. t.now) l.left))) ≡ l.initial.text ++ ended (filter is_kept (pieces l.query))

abbrev pub decreases-loop-left : goal.decreases-loop-left
decreases-loop-left l = bytes_left (option_map (λ t. t.now) l.left)
