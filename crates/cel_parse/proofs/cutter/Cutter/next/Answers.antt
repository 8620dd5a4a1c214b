use Rattle.std.proofs.Common.{sym}
use Rattle.cel_parse.proofs.Lengths.{is-next}
use Rattle.cel_parse.proofs.cutter.Cutter.next.Goals as goal

pub returns-clause-next : goal.returns-clause-next
returns-clause-next c = is-next c.args.self.now.whole c.args.self.now.rest.now c.behind_spaces-bytes.result.now c.in-Some.first.now c.saturating_sub-start.result c.in_ok-token.token c.cut.new.self.rest.now
    c.behind_spaces-bytes.ensures (sym c.in-Some.ensures.value) c.saturating_sub-start.ensures c.in_ok-token.ensures.cut
