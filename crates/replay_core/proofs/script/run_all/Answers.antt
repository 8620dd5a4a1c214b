use Rattle.std.proofs.Common.{◌≡◌, ◌∙◌, ◌≤◌, ◌+◌, ℕ, List, [], true, false, Err, Ok, ap, arith, length, subst, sym}
use Rattle.std.proofs.lemmas.Result.{err_from_is_err_and}
use Rattle.replay_core.specs.Accepted.{accepted_line, accepted_lines}
use Rattle.replay_core.specs.Log.{FinishesLog, StopsLog}
use Rattle.replay_core.specs.Pieces.{IsUnended, last_line}
use Rattle.replay_core.specs.Replay.{finish, on_line, on_lines}
use Rattle.replay_core.specs.Run.{Finishes, Says}
use Rattle.replay_core.proofs.LogLemmas.{logs-stands}
use Rattle.replay_core.proofs.LogRun.{log-finish-fault, log-finished, log-line-fault, log-memory, log-nothing, log-outside, log-sink, log-source}
use Rattle.replay_core.proofs.ReplayLemmas.{limits-at, over-limit, within-room}
use Rattle.replay_core.proofs.RunLemmas.{at-end, at-false, at-true, moved-lengths, run-finish-fault, run-finished, run-line-fault, run-memory, run-nothing, run-outside, run-sink, run-source, running-moved, running-start, running-written, smaller-line, smaller-read, step-ran, step-read, unended-none, writes-all}
use Rattle.replay_core.proofs.script.run_all.Goals as goal

pub returns-in_err-logged-clause-log : goal.returns-in_err-logged-clause-log
returns-in_err-logged-clause-log g c =
    let p = err_from_is_err_and c.from_residual.result c.from_residual.ensures.1 in
    rw (p.1, p.2) (log-nothing c.args.form _ _ _ c.args.rig.now c.start.new.rig c.requires.silent c.in_err-logged.ensures.failed)

pub returns-in_err-lines-clause-run : goal.returns-in_err-lines-clause-run
returns-in_err-lines-clause-run g c =
    let p = err_from_is_err_and c.from_residual-in_err-lines.result c.from_residual-in_err-lines.ensures.1 in
    rw (p.1, p.2) (run-nothing c.args.form _ _ _ c.requires.silent)

pub returns-in_err-lines-clause-log : goal.returns-in_err-lines-clause-log
returns-in_err-lines-clause-log g c =
    let p = err_from_is_err_and c.from_residual-in_err-lines.result c.from_residual-in_err-lines.ensures.1 in
    rw (p.1, p.2) (log-nothing c.args.form _ _ _ c.args.rig.now c.start.new.rig c.requires.silent (logs-stands [] [] c.in_ok-logged.logged.journal c.start.new.rig c.in_ok-logged.ensures.log))

pub reading-init : goal.reading-init
reading-init g c =
    let none = c.in_ok-lines.ensures in
    record {
      running = running-start c.args.form (g.I.Source.incoming c.args.input.now) (g.O.Sink.outgoing c.args.out.now) c.args.said.now c.start.new.rig c.in_ok-logged.logged c.in_ok-lines.lines c.requires.silent c.in_ok-logged.ensures.progress c.in_ok-logged.ensures.log none.0 none.1;
      unended = unended-none c.in_ok-lines.lines.line none.0;
      starved = c.in_ok-logged.ensures.starved;
      within = rw none.0 (omega arith);
    }

pub returns-in_err-ended-clause-run : goal.returns-in_err-ended-clause-run
returns-in_err-ended-clause-run g c =
    let p = err_from_is_err_and c.from_residual-in_err-ended.result c.from_residual-in_err-ended.ensures.1 in
    rw (p.1, p.2) (run-memory c.args.form _ _ _ _ _ _ _ _ c.reading.invariant.running)

pub returns-in_err-ended-clause-log : goal.returns-in_err-ended-clause-log
returns-in_err-ended-clause-log g c =
    let p = err_from_is_err_and c.from_residual-in_err-ended.result c.from_residual-in_err-ended.ensures.1 in
    rw (p.1, p.2) (log-memory c.args.form _ _ _ _ _ c.args.rig.now _ _ _ c.reading.invariant.running)

pub returns-then-passes_limits-clause-run : goal.returns-then-passes_limits-clause-run
returns-then-passes_limits-clause-run g c =
    let a = c.end_line.new.self in
    let moved = running-moved c.args.form _ _ _ _ _ _ _ c.reading.lines a c.reading.invariant.running c.in_ok-ended.ensures.moved in
    let over = λ (more : List ℕ). over-limit c.reading.logged.progress c.in_ok-ended.ended a.line more _ _ c.in_ok-ended.ensures.ended (limits-at _ _ _ _ _ true c.passes_limits.ensures c.room.ensures c.line.ensures c.if-passes_limits.true) in
    rw c.next_line.ensures (run-outside c.args.form _ _ _ _ _ _ c.reading.logged a (c.reading.logged.progress.lines + 1) moved (λ more. (over more).0))

pub returns-then-passes_limits-clause-log : goal.returns-then-passes_limits-clause-log
returns-then-passes_limits-clause-log g c =
    let a = c.end_line.new.self in
    let moved = running-moved c.args.form _ _ _ _ _ _ _ c.reading.lines a c.reading.invariant.running c.in_ok-ended.ensures.moved in
    let over = λ (more : List ℕ). over-limit c.reading.logged.progress c.in_ok-ended.ended a.line more _ _ c.in_ok-ended.ensures.ended (limits-at _ _ _ _ _ true c.passes_limits.ensures c.room.ensures c.line.ensures c.if-passes_limits.true) in
    rw c.next_line.ensures (log-outside c.args.form _ _ _ _ _ _ c.args.rig.now _ c.reading.logged a (c.reading.logged.progress.lines + 1) moved (λ more. (over more).1) c.reading.invariant.starved)

pub returns-in_err-logged-2-clause-run : goal.returns-in_err-logged-2-clause-run
returns-in_err-logged-2-clause-run g c =
    let p = err_from_is_err_and c.from_residual-in_err-logged-2.result c.from_residual-in_err-logged-2.ensures.1 in
    let a = c.end_line.new.self in
    let moved = running-moved c.args.form _ _ _ _ _ _ _ c.reading.lines a c.reading.invariant.running c.in_ok-ended.ensures.moved in
    let ended = (at-true c.in_ok-ended.ended _ _ c.if-ended.true c.in_ok-ended.ensures.ended).0 in
    let e = c.in_err-logged-2.field-0.0 in
    let says = subst (λ (l : List ℕ). Says (on_line c.reading.logged.progress l) c.reading.said c.take_line.new.said (Err e)) c.line-line.ensures c.in_err-logged-2.ensures.run in
    rw (p.1, p.2) (run-line-fault c.args.form _ _ _ _ c.reading.said c.take_line.new.said c.reading.rig c.reading.logged a e moved ended says)

pub returns-in_err-logged-2-clause-log : goal.returns-in_err-logged-2-clause-log
returns-in_err-logged-2-clause-log g c =
    let p = err_from_is_err_and c.from_residual-in_err-logged-2.result c.from_residual-in_err-logged-2.ensures.1 in
    let a = c.end_line.new.self in
    let moved = running-moved c.args.form _ _ _ _ _ _ _ c.reading.lines a c.reading.invariant.running c.in_ok-ended.ensures.moved in
    let ended = (at-true c.in_ok-ended.ended _ _ c.if-ended.true c.in_ok-ended.ensures.ended).0 in
    let e = c.in_err-logged-2.field-0.0 in
    let says = subst (λ (l : List ℕ). Says (on_line c.reading.logged.progress l) c.reading.said c.take_line.new.said (Err e)) c.line-line.ensures c.in_err-logged-2.ensures.run in
    let stops = subst (λ (l : List ℕ). StopsLog (accepted_line c.reading.logged.progress l) c.reading.rig c.take_line.new.rig e) c.line-line.ensures c.in_err-logged-2.ensures.stops in
    rw (p.1, p.2) (log-line-fault c.args.form _ _ _ _ c.reading.said c.take_line.new.said c.args.rig.now c.reading.rig c.take_line.new.rig c.reading.logged a e moved ended says stops c.reading.invariant.starved)

pub reading-smaller-in_ok-write_full : goal.reading-smaller-in_ok-write_full
reading-smaller-in_ok-write_full g c =
    let a = c.end_line.new.self in
    let both = at-true c.in_ok-ended.ended _ _ c.if-ended.true c.in_ok-ended.ensures.ended in
    let lengths = moved-lengths a.line a.unread c.reading.lines.line c.reading.lines.unread c.in_ok-ended.ensures.moved in
    let same : length c.line-line.result.now ≡ length a.line = ap length c.line-line.ensures in
    let within : length a.line ≤ c.reading.logged.progress.room = within-room _ a.line (limits-at _ _ _ _ _ false c.passes_limits.ensures c.room.ensures c.line.ensures c.if-passes_limits.false) in
    let counted : c.in_ok-logged-2.logged.progress.room + length a.line ≡ c.reading.logged.progress.room = omega (arith, same, c.in_ok-logged-2.ensures.room) in
    smaller-line c.reading.logged.progress.room (length c.reading.lines.line) (length c.reading.lines.unread) (length a.line) (length a.unread) c.in_ok-logged-2.logged.progress.room (length c.begin_line.new.self.line) (length c.begin_line.new.self.unread) lengths both.1 within counted (ap length c.begin_line.ensures.line) (ap length c.begin_line.ensures.unread)

pub reading-preserved-in_ok-write_full : goal.reading-preserved-in_ok-write_full
reading-preserved-in_ok-write_full g c =
    let a = c.end_line.new.self in
    let moved = running-moved c.args.form _ _ _ _ _ _ _ c.reading.lines a c.reading.invariant.running c.in_ok-ended.ensures.moved in
    let ended = (at-true c.in_ok-ended.ended _ _ c.if-ended.true c.in_ok-ended.ensures.ended).0 in
    let ran = step-ran c.args.form _ _ _ _ _ c.take_line.new.said _ c.take_line.new.rig c.reading.logged c.in_ok-logged-2.logged a c.begin_line.new.self c.line-line.result.now moved c.line-line.ensures ended c.in_ok-logged-2.ensures.run c.in_ok-logged-2.ensures.log c.begin_line.ensures.line c.begin_line.ensures.unread in
    record {
      running = running-written c.args.form _ _ _ _ _ c.take_line.new.said _ _ _ c.begin_line.new.self ran c.in_ok-write_full.ensures.some;
      unended = unended-none _ c.begin_line.ensures.line;
      starved = c.in_ok-logged-2.ensures.starved ∙ c.reading.invariant.starved;
      within = rw c.begin_line.ensures.line (omega arith);
    }

pub returns-in_err-write_full-clause-run : goal.returns-in_err-write_full-clause-run
returns-in_err-write_full-clause-run g c =
    let p = err_from_is_err_and c.from_residual-in_err-write_full.result c.from_residual-in_err-write_full.ensures.1 in
    let a = c.end_line.new.self in
    let moved = running-moved c.args.form _ _ _ _ _ _ _ c.reading.lines a c.reading.invariant.running c.in_ok-ended.ensures.moved in
    let ended = (at-true c.in_ok-ended.ended _ _ c.if-ended.true c.in_ok-ended.ensures.ended).0 in
    let ran = step-ran c.args.form _ _ _ _ _ c.take_line.new.said _ c.take_line.new.rig c.reading.logged c.in_ok-logged-2.logged a c.begin_line.new.self c.line-line.result.now moved c.line-line.ensures ended c.in_ok-logged-2.ensures.run c.in_ok-logged-2.ensures.log c.begin_line.ensures.line c.begin_line.ensures.unread in
    rw (p.1, p.2) (run-sink c.args.form _ _ _ _ _ c.take_line.new.said c.write_full.new.said _ _ c.begin_line.new.self ran c.in_err-write_full.ensures.failed.1 c.in_err-write_full.ensures.failed.0)

pub returns-in_err-write_full-clause-log : goal.returns-in_err-write_full-clause-log
returns-in_err-write_full-clause-log g c =
    let p = err_from_is_err_and c.from_residual-in_err-write_full.result c.from_residual-in_err-write_full.ensures.1 in
    let a = c.end_line.new.self in
    let moved = running-moved c.args.form _ _ _ _ _ _ _ c.reading.lines a c.reading.invariant.running c.in_ok-ended.ensures.moved in
    let ended = (at-true c.in_ok-ended.ended _ _ c.if-ended.true c.in_ok-ended.ensures.ended).0 in
    let ran = step-ran c.args.form _ _ _ _ _ c.take_line.new.said _ c.take_line.new.rig c.reading.logged c.in_ok-logged-2.logged a c.begin_line.new.self c.line-line.result.now moved c.line-line.ensures ended c.in_ok-logged-2.ensures.run c.in_ok-logged-2.ensures.log c.begin_line.ensures.line c.begin_line.ensures.unread in
    rw (p.1, p.2) (log-sink c.args.form _ _ _ _ _ c.take_line.new.said c.write_full.new.said c.args.rig.now _ _ c.begin_line.new.self ran c.in_err-write_full.ensures.failed.1 c.in_err-write_full.ensures.failed.0 (c.in_ok-logged-2.ensures.starved ∙ c.reading.invariant.starved))

pub returns-in_err-write_said-clause-run : goal.returns-in_err-write_said-clause-run
returns-in_err-write_said-clause-run g c =
    let p = err_from_is_err_and c.from_residual-in_err-write_said.result c.from_residual-in_err-write_said.ensures.1 in
    let a = c.end_line.new.self in
    let moved = running-moved c.args.form _ _ _ _ _ _ _ c.reading.lines a c.reading.invariant.running c.in_ok-ended.ensures.moved in
    rw (p.1, p.2) (run-sink c.args.form _ _ _ _ _ c.reading.said c.write_said.new.said _ _ a moved c.in_err-write_said.ensures.failed c.in_err-write_said.ensures.left)

pub returns-in_err-write_said-clause-log : goal.returns-in_err-write_said-clause-log
returns-in_err-write_said-clause-log g c =
    let p = err_from_is_err_and c.from_residual-in_err-write_said.result c.from_residual-in_err-write_said.ensures.1 in
    let a = c.end_line.new.self in
    let moved = running-moved c.args.form _ _ _ _ _ _ _ c.reading.lines a c.reading.invariant.running c.in_ok-ended.ensures.moved in
    rw (p.1, p.2) (log-sink c.args.form _ _ _ _ _ c.reading.said c.write_said.new.said c.args.rig.now _ _ a moved c.in_err-write_said.ensures.failed c.in_err-write_said.ensures.left c.reading.invariant.starved)

pub returns-in_err-over-clause-run : goal.returns-in_err-over-clause-run
returns-in_err-over-clause-run g c =
    let p = err_from_is_err_and c.from_residual-in_err-over.result c.from_residual-in_err-over.ensures.1 in
    let a = c.end_line.new.self in
    let moved = running-moved c.args.form _ _ _ _ _ _ _ c.reading.lines a c.reading.invariant.running c.in_ok-ended.ensures.moved in
    let un = at-false c.in_ok-ended.ended _ _ c.if-ended.false c.in_ok-ended.ensures.ended in
    let wrote = running-written c.args.form _ _ _ _ (g.O.Sink.outgoing c.write_said.new.out) _ c.write_said.new.said _ _ a moved (writes-all _ _ _ _ c.in_ok-write_said.ensures.all c.in_ok-write_said.ensures.left) in
    rw (p.1, p.2) (run-source c.args.form _ _ _ _ _ c.write_said.new.said _ _ a wrote c.in_err-over.ensures.failed c.in_ok-write_said.ensures.left un.1 un.0)

pub returns-in_err-over-clause-log : goal.returns-in_err-over-clause-log
returns-in_err-over-clause-log g c =
    let p = err_from_is_err_and c.from_residual-in_err-over.result c.from_residual-in_err-over.ensures.1 in
    let a = c.end_line.new.self in
    let moved = running-moved c.args.form _ _ _ _ _ _ _ c.reading.lines a c.reading.invariant.running c.in_ok-ended.ensures.moved in
    let wrote = running-written c.args.form _ _ _ _ (g.O.Sink.outgoing c.write_said.new.out) _ c.write_said.new.said _ _ a moved (writes-all _ _ _ _ c.in_ok-write_said.ensures.all c.in_ok-write_said.ensures.left) in
    rw (p.1, p.2) (log-source c.args.form _ _ _ _ c.write_said.new.said c.args.rig.now _ _ a wrote c.reading.invariant.starved)

pub returns-in_err-finish-clause-run : goal.returns-in_err-finish-clause-run
returns-in_err-finish-clause-run g c =
    let p = err_from_is_err_and c.from_residual-in_err-finish.result c.from_residual-in_err-finish.ensures.1 in
    let a = c.end_line.new.self in
    let moved = running-moved c.args.form _ _ _ _ _ _ _ c.reading.lines a c.reading.invariant.running c.in_ok-ended.ensures.moved in
    let un = at-false c.in_ok-ended.ended _ _ c.if-ended.false c.in_ok-ended.ensures.ended in
    let wrote = running-written c.args.form _ _ _ _ (g.O.Sink.outgoing c.write_said.new.out) _ c.write_said.new.said _ _ a moved (writes-all _ _ _ _ c.in_ok-write_said.ensures.all c.in_ok-write_said.ensures.left) in
    let end = at-end c.args.form _ _ (g.I.Source.incoming c.read.new.input) _ _ _ _ _ a c.read.new.self wrote un.1 c.in_ok-over.ensures.reads (at-true c.in_ok-over.over _ _ c.if-over.true c.in_ok-over.ensures.over) in
    let last : c.line-last.result.now ≡ a.line = c.line-last.ensures ∙ c.in_ok-over.ensures.line in
    let e = c.in_err-finish.field-0.0 in
    let finishes = subst (λ (l : List ℕ). Finishes (finish (on_lines c.reading.logged.progress (last_line l))) c.write_said.new.said c.finish.new.said (Err e)) last c.in_err-finish.ensures.run in
    rw (p.1, p.2) (run-finish-fault c.args.form _ _ _ _ _ c.write_said.new.said c.finish.new.said c.reading.rig c.reading.logged a e wrote end un.0 finishes)

pub returns-in_err-finish-clause-log : goal.returns-in_err-finish-clause-log
returns-in_err-finish-clause-log g c =
    let p = err_from_is_err_and c.from_residual-in_err-finish.result c.from_residual-in_err-finish.ensures.1 in
    let a = c.end_line.new.self in
    let moved = running-moved c.args.form _ _ _ _ _ _ _ c.reading.lines a c.reading.invariant.running c.in_ok-ended.ensures.moved in
    let un = at-false c.in_ok-ended.ended _ _ c.if-ended.false c.in_ok-ended.ensures.ended in
    let wrote = running-written c.args.form _ _ _ _ (g.O.Sink.outgoing c.write_said.new.out) _ c.write_said.new.said _ _ a moved (writes-all _ _ _ _ c.in_ok-write_said.ensures.all c.in_ok-write_said.ensures.left) in
    let end = at-end c.args.form _ _ (g.I.Source.incoming c.read.new.input) _ _ _ _ _ a c.read.new.self wrote un.1 c.in_ok-over.ensures.reads (at-true c.in_ok-over.over _ _ c.if-over.true c.in_ok-over.ensures.over) in
    let last : c.line-last.result.now ≡ a.line = c.line-last.ensures ∙ c.in_ok-over.ensures.line in
    let e = c.in_err-finish.field-0.0 in
    let finishes = subst (λ (l : List ℕ). Finishes (finish (on_lines c.reading.logged.progress (last_line l))) c.write_said.new.said c.finish.new.said (Err e)) last c.in_err-finish.ensures.run in
    let log = subst (λ (l : List ℕ). FinishesLog (accepted_lines c.reading.logged.progress (last_line l)) c.reading.rig c.finish.new.rig c.write_said.new.said c.finish.new.said (Err e)) last c.in_err-finish.ensures.log in
    rw (p.1, p.2) (log-finish-fault c.args.form _ _ _ _ _ c.write_said.new.said c.finish.new.said c.args.rig.now c.reading.rig c.finish.new.rig c.reading.logged a e wrote end un.0 finishes log c.reading.invariant.starved)

pub returns-then-over-clause-run : goal.returns-then-over-clause-run
returns-then-over-clause-run g c =
    let a = c.end_line.new.self in
    let moved = running-moved c.args.form _ _ _ _ _ _ _ c.reading.lines a c.reading.invariant.running c.in_ok-ended.ensures.moved in
    let un = at-false c.in_ok-ended.ended _ _ c.if-ended.false c.in_ok-ended.ensures.ended in
    let wrote = running-written c.args.form _ _ _ _ (g.O.Sink.outgoing c.write_said.new.out) _ c.write_said.new.said _ _ a moved (writes-all _ _ _ _ c.in_ok-write_said.ensures.all c.in_ok-write_said.ensures.left) in
    let end = at-end c.args.form _ _ (g.I.Source.incoming c.read.new.input) _ _ _ _ _ a c.read.new.self wrote un.1 c.in_ok-over.ensures.reads (at-true c.in_ok-over.over _ _ c.if-over.true c.in_ok-over.ensures.over) in
    let last : c.line-last.result.now ≡ a.line = c.line-last.ensures ∙ c.in_ok-over.ensures.line in
    let finishes = subst (λ (l : List ℕ). Finishes (finish (on_lines c.reading.logged.progress (last_line l))) c.write_said.new.said c.finish.new.said (Ok tt)) last c.in_ok-finish.ensures.run in
    run-finished c.args.form _ _ _ _ _ c.write_said.new.said c.finish.new.said c.reading.rig c.reading.logged a wrote end un.0 tt finishes

pub returns-then-over-clause-log : goal.returns-then-over-clause-log
returns-then-over-clause-log g c =
    let a = c.end_line.new.self in
    let moved = running-moved c.args.form _ _ _ _ _ _ _ c.reading.lines a c.reading.invariant.running c.in_ok-ended.ensures.moved in
    let un = at-false c.in_ok-ended.ended _ _ c.if-ended.false c.in_ok-ended.ensures.ended in
    let wrote = running-written c.args.form _ _ _ _ (g.O.Sink.outgoing c.write_said.new.out) _ c.write_said.new.said _ _ a moved (writes-all _ _ _ _ c.in_ok-write_said.ensures.all c.in_ok-write_said.ensures.left) in
    let end = at-end c.args.form _ _ (g.I.Source.incoming c.read.new.input) _ _ _ _ _ a c.read.new.self wrote un.1 c.in_ok-over.ensures.reads (at-true c.in_ok-over.over _ _ c.if-over.true c.in_ok-over.ensures.over) in
    let last : c.line-last.result.now ≡ a.line = c.line-last.ensures ∙ c.in_ok-over.ensures.line in
    let log = subst (λ (l : List ℕ). FinishesLog (accepted_lines c.reading.logged.progress (last_line l)) c.reading.rig c.finish.new.rig c.write_said.new.said c.finish.new.said (Ok tt)) last c.in_ok-finish.ensures.log in
    log-finished c.args.form _ _ _ _ _ c.write_said.new.said c.finish.new.said c.args.rig.now c.reading.rig c.finish.new.rig c.reading.logged a wrote end un.0 tt log (c.in_ok-finish.ensures.starved ∙ c.reading.invariant.starved)

pub reading-smaller : goal.reading-smaller
reading-smaller g c =
    let a = c.end_line.new.self in
    let un = at-false c.in_ok-ended.ended _ _ c.if-ended.false c.in_ok-ended.ensures.ended in
    let lengths = moved-lengths a.line a.unread c.reading.lines.line c.reading.lines.unread c.in_ok-ended.ensures.moved in
    let within : length a.line ≤ c.reading.logged.progress.room = within-room _ a.line (limits-at _ _ _ _ _ false c.passes_limits.ensures c.room.ensures c.line.ensures c.if-passes_limits.false) in
    smaller-read c.reading.logged.progress.room (length c.reading.lines.line) (length c.reading.lines.unread) (length a.line) (length a.unread) (length c.read.new.self.line) (length c.read.new.self.unread) lengths (ap length un.1) within (ap length c.in_ok-over.ensures.line) (at-false c.in_ok-over.over _ _ c.if-over.false c.in_ok-over.ensures.over)

pub reading-preserved : goal.reading-preserved
reading-preserved g c =
    let a = c.end_line.new.self in
    let moved = running-moved c.args.form _ _ _ _ _ _ _ c.reading.lines a c.reading.invariant.running c.in_ok-ended.ensures.moved in
    let un = at-false c.in_ok-ended.ended _ _ c.if-ended.false c.in_ok-ended.ensures.ended in
    let within : length a.line ≤ c.reading.logged.progress.room = within-room _ a.line (limits-at _ _ _ _ _ false c.passes_limits.ensures c.room.ensures c.line.ensures c.if-passes_limits.false) in
    record {
      running = step-read c.args.form _ _ _ _ _ _ _ _ _ _ a c.read.new.self moved c.in_ok-write_said.ensures.all c.in_ok-write_said.ensures.left un.1 c.in_ok-over.ensures.line c.in_ok-over.ensures.reads;
      unended = subst IsUnended (sym c.in_ok-over.ensures.line) un.0;
      starved = c.reading.invariant.starved;
      within = rw c.in_ok-over.ensures.line within;
    }
