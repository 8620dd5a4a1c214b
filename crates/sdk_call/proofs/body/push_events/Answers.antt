use Rattle.std.proofs.Common.{◌∙◌, ◌++◌, ap, Bor, List, ℕ, [], get_or}
use Rattle.sdk_call.proofs.Parted.{parted-more, behind}
use Rattle.sdk_call.proofs.body.push_events.Goals as goal

pub loop-index-preserved : goal.loop-index-preserved
loop-index-preserved c =
    behind c.args.body.now _ _ _ _ _ _ (c.in_ok-extend_from_slice.ensures.ok ∙ ap (λ t. t ++ (get_or c.args.events.now c.loop-index.index (record { ref_ptr = (0, 0); now = [] })).now) c.in_ok-push_comma.ensures) c.loop-index.invariant
    (parted-more (λ (e : Bor (List ℕ)). e.now) c.args.events.now c.loop-index.index (record { ref_ptr = (0, 0); now = [] }) c.loop-index-test.true)
