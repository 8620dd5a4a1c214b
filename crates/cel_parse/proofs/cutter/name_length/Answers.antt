use Rattle.std.proofs.Common.{ℕ, cond, rules, tests, not, ◌∙◌, ap, length, unwrap_or}
use Rattle.std.proofs.lemmas.Iterator.{YieldsList-from_slice}
use Rattle.std.proofs.lemmas.Iterator.Search.{position_from_yields_List}
use Rattle.expr.specs.Tokens.{goes_on_name}
use Rattle.cel_parse.proofs.Names.{count_is}
use Rattle.cel_parse.proofs.cutter.name_length.Goals as goal

pub returns : goal.returns
returns c =
    let at = position_from_yields_List (λ b. not (goes_on_name b)) _ _ c.position-end.result c.position-end.ensures.ran (YieldsList-from_slice c.args.bytes.now (cc)) (λ x b q k. search (rules, tests)) in
    c.unwrap_or.ensures ∙ ap (λ o. unwrap_or o (length c.args.bytes.now)) at ∙ count_is c.args.bytes.now
