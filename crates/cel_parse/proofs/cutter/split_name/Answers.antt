use Rattle.std.proofs.Common.{◌∙◌, ap, take, drop}
use Rattle.cel_parse.proofs.Names.{length-front, take_front, drop_front}
use Rattle.cel_parse.proofs.cutter.split_name.Goals as goal

pub split_at-requires : goal.split_at-requires
split_at-requires c = rw c.name_length.ensures (length-front c.args.bytes.now)

pub returns-clause-name : goal.returns-clause-name
returns-clause-name c = c.split_at.ensures.front ∙ ap (λ n. take n c.args.bytes.now) c.name_length.ensures ∙ take_front c.args.bytes.now

pub returns-clause-rest : goal.returns-clause-rest
returns-clause-rest c = c.split_at.ensures.back ∙ ap (λ n. drop n c.args.bytes.now) c.name_length.ensures ∙ drop_front c.args.bytes.now
