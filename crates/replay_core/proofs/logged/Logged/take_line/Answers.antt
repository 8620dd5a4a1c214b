use Rattle.std.proofs.Common.{◌∙◌, ◌++◌, List, ℕ, ap, arith, subst, sym}
use Rattle.std.proofs.lemmas.Result.{err_from_is_err_and}
use Rattle.replay_core.specs.Log.{Logs, StandsForEither, payloads_in}
use Rattle.replay_core.specs.Pieces.{text_of_line}
use Rattle.replay_core.specs.Replay.{on_line}
use Rattle.replay_core.proofs.LoggedLemmas.{accepted-is, accepted-some, logs-either, runs-says, runs-stops}
use Rattle.replay_core.proofs.ReplayLemmas.{within-line}
use Rattle.replay_core.proofs.logged.Logged.take_line.Goals as goal

pub returns-in_err-ran-clause-run : goal.returns-in_err-ran-clause-run
returns-in_err-ran-clause-run c =
    let p = err_from_is_err_and c.from_residual.result c.from_residual.ensures.1 in
    rw (p.1, p.2) (runs-says (on_line c.args.self.progress c.args.line.now) c.args.said.now c.in_err-ran.field-0.0 c.in_err-ran.ensures.run)

pub returns-in_err-ran-clause-stops : goal.returns-in_err-ran-clause-stops
returns-in_err-ran-clause-stops c =
    let p = err_from_is_err_and c.from_residual.result c.from_residual.ensures.1 in
    rw (p.1, p.2) (runs-stops c.args.self.progress c.args.line.now c.args.self.journal c.args.rig.now c.in_err-ran.field-0.0 c.requires.within c.requires.logging c.in_err-ran.ensures.accepted)

pub log_line-requires-clause-some : goal.log_line-requires-clause-some
log_line-requires-clause-some c = λ is. accepted-some c.args.self.progress.state (text_of_line c.args.line.now) (sym is ∙ c.in_ok-ran.ensures.accepted)

pub log_line-requires-clause-fits : goal.log_line-requires-clause-fits
log_line-requires-clause-fits c =
    let within = within-line c.args.self.progress.room c.args.line.now c.requires.within in
    omega (arith, within)

pub returns-in_err-journal-clause-stops : goal.returns-in_err-journal-clause-stops
returns-in_err-journal-clause-stops c =
    let p = err_from_is_err_and c.from_residual-in_err-journal.result c.from_residual-in_err-journal.ensures.1 in
    let same = accepted-is c.args.self.progress c.args.line.now c.in_ok-ran.ran.accepted c.requires.within c.in_ok-ran.ensures.accepted in
    rw (p.1, p.2) (subst (λ (added : List (List ℕ)). StandsForEither (payloads_in c.args.rig.now) added c.log_line.new.rig.a.bytes) same c.in_err-journal.ensures.failed)

pub returns-in_err-extend_from_slice-clause-stops : goal.returns-in_err-extend_from_slice-clause-stops
returns-in_err-extend_from_slice-clause-stops c =
    let p = err_from_is_err_and c.from_residual-in_err-extend_from_slice.result c.from_residual-in_err-extend_from_slice.ensures.1 in
    let same = accepted-is c.args.self.progress c.args.line.now c.in_ok-ran.ran.accepted c.requires.within c.in_ok-ran.ensures.accepted in
    rw (p.1, p.2) (subst (λ (added : List (List ℕ)). StandsForEither (payloads_in c.args.rig.now) added c.log_line.new.rig.a.bytes) same (logs-either _ _ _ _ c.in_ok-journal.ensures.log))

pub returns-clause-run : goal.returns-clause-run
returns-clause-run c = (
  c.in_ok-ran.ran.text,
  c.in_ok-ran.ensures.run,
  c.in_ok-extend_from_slice.ensures.ok ∙ ap (λ (t : List ℕ). c.args.said.now ++ t) c.as_slice.ensures,
)

pub returns-clause-log : goal.returns-clause-log
returns-clause-log c =
    let same = accepted-is c.args.self.progress c.args.line.now c.in_ok-ran.ran.accepted c.requires.within c.in_ok-ran.ensures.accepted in
    subst (λ (added : List (List ℕ)). Logs (payloads_in c.args.rig.now) added c.in_ok-journal.journal c.log_line.new.rig) same c.in_ok-journal.ensures.log
