use Rattle.std.proofs.Common.{rules, ◌≡◌, ◌∙◌, ◌++◌, ◌∷◌, [], ◌==◌, ap, map, take, if◌then◌else◌}
use Rattle.sdk_call.specs.Body.{parted, step_member}
use Rattle.sdk_call.proofs.Parted.{parted-more, behind}
use Rattle.sdk_call.proofs.body.push_steps.Goals as goal

pub loop-index-preserved : goal.loop-index-preserved
loop-index-preserved c =
    behind c.args.body.now _ _ _ _ _ _ (c.in_ok-push_step.ensures ∙ ap (λ t. t ++ step_member c.index-steps-index.result) c.in_ok-push_comma.ensures) c.loop-index.invariant
    (parted-more step_member c.args.steps.now c.loop-index.index c.index-steps-index.result c.loop-index-test.true
    ∙ ap (λ s. (parted (map step_member (take c.loop-index.index c.args.steps.now)) ++ (if c.loop-index.index == 0 then [] else 44 ∷ [])) ++ step_member s) (search rules))
