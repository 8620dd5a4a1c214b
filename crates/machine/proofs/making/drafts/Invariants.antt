use Rattle.std.proofs.Common.{◌≡◌, map, take}
use Rattle.machine.specs.Making.{draft_of}
use Rattle.machine.proofs.making.drafts.Given as goal

abbrev pub invariant-loop-cancel : goal.invariant-loop-cancel
invariant-loop-cancel l = l.drafts ≡ map (draft_of l.moment l.event) (take l.cancel-index l.cancel-items)
