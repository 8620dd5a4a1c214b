use Rattle.std.proofs.Common.{◌∙◌, ◌++◌, ap, codes}
use Rattle.std.specs.List.{filter}
use Rattle.sdk_call.specs.Query.{is_kept, pieces}
use Rattle.sdk_call.proofs.Pieces.{query-joined}
use Rattle.sdk_call.proofs.query.push_query.Goals as goal

pub returns : goal.returns
returns c = query-joined (filter is_kept (pieces c.args.query.now)) c.args.text.now c.args.id.now c.args.target.now c.extend_from_slice-4.new.self
    (c.in_ok-extend_from_slice-4.ensures.ok ∙ ap (λ t. t ++ c.args.target.now) (c.in_ok-extend_from_slice-3.ensures.ok ∙ ap (λ t. t ++ codes "&stepId=")
    (c.in_ok-extend_from_slice-2.ensures.ok ∙ ap (λ t. t ++ c.args.id.now) (c.in_ok-extend_from_slice.ensures.ok ∙ ap (λ t. t ++ codes "fnId=") c.in_ok-push_kept.ensures))))
