use Rattle.std.proofs.Common.{◌∙◌, ◌++◌, ap, codes, decimal, if◌then◌else◌}
use Rattle.sdk_call.proofs.Parted.{seven}
use Rattle.sdk_call.proofs.body.push_context.Goals as goal

pub returns : goal.returns
returns c = seven c.args.body.now (codes "{\"run_id\":\"") c.args.run_id.now (codes "\",\"attempt\":") (decimal c.args.attempt) (codes ",\"disable_immediate_execution\":")
    (if c.args.planned then codes "true" else codes "false") (codes ",\"use_api\":false}") c.extend_from_slice-6.new.self
    (c.in_ok-extend_from_slice-6.ensures.ok ∙ ap (λ t. t ++ codes ",\"use_api\":false}")
    ((c.in_ok-extend_from_slice-5.ensures.ok ∙ ap (λ t. c.extend_from_slice-4.new.self ++ t) c.truth.ensures) ∙ ap (λ t. t ++ (if c.args.planned then codes "true" else codes "false"))
    (c.in_ok-extend_from_slice-4.ensures.ok ∙ ap (λ t. t ++ codes ",\"disable_immediate_execution\":")
    ((c.in_ok-push_decimal.ensures.ok ∙ ap (λ n. c.extend_from_slice-3.new.self ++ decimal n) c.from.ensures) ∙ ap (λ t. t ++ decimal c.args.attempt)
    (c.in_ok-extend_from_slice-3.ensures.ok ∙ ap (λ t. t ++ codes "\",\"attempt\":")
    (c.in_ok-extend_from_slice-2.ensures.ok ∙ ap (λ t. t ++ c.args.run_id.now) c.in_ok-extend_from_slice.ensures.ok))))))
