use Rattle.std.proofs.Common.{◌∙◌, ◌++◌, ◌∷◌, [], ap, take, drop, if◌then◌else◌}
use Rattle.std.specs.List.{filter}
use Rattle.sdk_call.specs.Query.{is_kept, ended, pieces_left, behind_first}
use Rattle.sdk_call.proofs.Pieces.{piece-on}
use Rattle.sdk_call.proofs.query.push_piece.Goals as goal

pub returns-clause-text : goal.returns-clause-text
returns-clause-text c =
    ap (λ o. c.push_own.new.text ++ ended (filter is_kept (pieces_left o))) (c.behind_first.ensures.value ∙ ap behind_first (c.split_at.ensures.back ∙ ap (λ n. drop n c.args.rest.now) c.until-end.ensures.value))
    ∙ piece-on c.args.text.now c.push_own.new.text c.args.rest.now
    (c.in_ok-push_own.ensures ∙ ap (λ p. if is_kept p then c.args.text.now ++ p ++ 38 ∷ [] else c.args.text.now) (c.split_at.ensures.front ∙ ap (λ n. take n c.args.rest.now) c.until-end.ensures.value))
