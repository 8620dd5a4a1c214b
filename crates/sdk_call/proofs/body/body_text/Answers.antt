use Rattle.std.proofs.Common.{◌∙◌, ◌++◌, ap, codes, map, Bor, List, ℕ}
use Rattle.sdk_call.specs.Body.{context, first_of, parted, step_member}
use Rattle.sdk_call.proofs.body.body_text.Goals as goal

pub returns : goal.returns
returns c =
    let parts = c.args.parts.now in
    let events : List (List ℕ) = map (λ (e : Bor (List ℕ)). e.now) parts.events.now in
    c.in_ok-extend_from_slice-5.ensures.ok ∙ ap (λ t. t ++ codes "},\"use_api\":false}")
    (c.in_ok-push_steps.ensures ∙ ap (λ t. t ++ parted (map step_member parts.steps.now))
    (c.in_ok-extend_from_slice-4.ensures.ok ∙ ap (λ t. t ++ codes "],\"steps\":{")
    (c.in_ok-push_events.ensures ∙ ap (λ t. t ++ parted events)
    (c.in_ok-extend_from_slice-3.ensures.ok ∙ ap (λ t. t ++ codes ",\"events\":[")
    ((c.in_ok-extend_from_slice-2.ensures.ok ∙ ap (λ t. c.extend_from_slice.new.self ++ t) c.first_event.ensures) ∙ ap (λ t. t ++ first_of events)
    (c.in_ok-extend_from_slice.ensures.ok ∙ ap (λ t. t ++ codes ",\"event\":")
    (c.in_ok-push_context.ensures ∙ ap (λ t. t ++ context parts.run_id parts.attempt parts.planned) c.in_ok-body.ensures)))))))
