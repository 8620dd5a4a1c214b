-- The bytes so far are a beginning of what is written.
use Rattle.std.proofs.Common.{◌++◌, sym, ◌∙◌, ap, get_or}
use Rattle.json_text.specs.Text.{quoted, escaped_byte}
use Rattle.json_text.proofs.Writing.{begun-here, on-err, escaped-more}
use Rattle.json_text.proofs.ReadBack.{quoted-json, unquoted}
use Rattle.json_text.proofs.text.put_text.Goals as goal

pub returns-in_err-push-clause-err : goal.returns-in_err-push-clause-err
returns-in_err-push-clause-err c = on-err c.from_residual.result _ (quoted c.args.text.now, ap (λ o. o ++ quoted c.args.text.now) (sym c.in_err-push.ensures.err))

pub returns-in_err-put_byte-clause-err : goal.returns-in_err-put_byte-clause-err
returns-in_err-put_byte-clause-err c = on-err c.from_residual-in_err-put_byte.result _ (begun-here c.args.text.now c.loop-byte.byte-index c.args.out.now c.put_byte.new.out (c.in_err-put_byte.ensures.err ∙ c.loop-byte.invariant))

pub loop-byte-preserved : goal.loop-byte-preserved
loop-byte-preserved c = c.in_ok-put_byte.ensures.ok ∙ ap (λ o. o ++ escaped_byte (get_or c.args.text.now c.loop-byte.byte-index 0)) c.loop-byte.invariant ∙ escaped-more c.args.text.now c.loop-byte.byte-index c.args.out.now c.loop-byte-test.true

pub returns-clause-reads_back : goal.returns-clause-reads_back
returns-clause-reads_back c = λ u. (quoted-json c.args.text.now u, unquoted c.args.text.now)

pub returns-in_err-push-clause-reads_back : goal.returns-in_err-push-clause-reads_back
returns-in_err-push-clause-reads_back c = λ u. (quoted-json c.args.text.now u, unquoted c.args.text.now)

pub returns-in_err-put_byte-clause-reads_back : goal.returns-in_err-put_byte-clause-reads_back
returns-in_err-put_byte-clause-reads_back c = λ u. (quoted-json c.args.text.now u, unquoted c.args.text.now)
