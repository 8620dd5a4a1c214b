use Rattle.std.specs.Str.Parse.{ExplainsUnsignedError, HasUnsignedDigitsIfOk, ParsesUnsigned}
use Rattle.std.proofs.lemmas.Result.{err_from_is_err_and}
use Rattle.words.proofs.ReplayLemmas.{replay_read, replay_refuses}
use Rattle.words.proofs.replay.read_replay_words.Goals as goal

pub returns-in_err-matches-clause-exact : goal.returns-in_err-matches-clause-exact
returns-in_err-matches-clause-exact c =
    let p = err_from_is_err_and c.from_residual-in_err-matches.result c.from_residual-in_err-matches.ensures.1 in
    rw p.1 (replay_refuses c.in_ok-command.command c.args.words.now c.in_ok-command.ensures c.in_err-matches.field-0.0 p.0 c.in_err-matches.ensures.kinds p.2)

pub returns : goal.returns
returns c =
    let e = c.in_ok-matches.ensures in
    let read = replay_read c.in_ok-command.command c.args.words.now c.in_ok-command.ensures _ _ (λ text r. ParsesUnsigned 32 10 text r × ExplainsUnsignedError 10 text r × HasUnsignedDigitsIfOk text r) (λ u x g. g.0) c.in_ok-matches.matches c.get_one.result c.get_one-2.result
    e.parsed e.matches e.kinds c.get_one.ensures.none c.get_one.ensures.value c.get_one-2.ensures.none c.get_one-2.ensures.value in
    record { exact = rw c.unwrap_or.ensures read.0; range = read.1 }
