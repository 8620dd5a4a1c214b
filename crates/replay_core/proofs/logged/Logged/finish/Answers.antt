use Rattle.std.proofs.Common.{◌<◌, length, arith}
use Rattle.std.proofs.lemmas.List.{nil_from_length}
use Rattle.std.proofs.lemmas.Result.{err_from_is_err_and}
use Rattle.replay_core.proofs.LoggedLemmas.{empty-finishes, empty-log, line-finishes, line-log, line-log-nothing, line-log-stops, line-nothing, line-stops, nothing-finishes}
use Rattle.replay_core.proofs.logged.Logged.finish.Goals as goal

pub returns-in_err-logged-clause-run : goal.returns-in_err-logged-clause-run
returns-in_err-logged-clause-run c =
    let p = err_from_is_err_and c.from_residual-in_err-logged.result c.from_residual-in_err-logged.ensures.1 in
    let some : 0 < length c.args.last.now = grind arith in
    rw (p.1, p.2) (line-stops c.args.self.progress c.args.last.now c.args.said.now c.take_line.new.said c.in_err-logged.field-0.0 some c.in_err-logged.ensures.run)

pub returns-in_err-logged-clause-log : goal.returns-in_err-logged-clause-log
returns-in_err-logged-clause-log c =
    let p = err_from_is_err_and c.from_residual-in_err-logged.result c.from_residual-in_err-logged.ensures.1 in
    let some : 0 < length c.args.last.now = grind arith in
    rw (p.1, p.2) (line-log-stops c.args.self.progress c.args.last.now c.args.said.now c.take_line.new.said c.args.rig.now c.take_line.new.rig c.in_err-logged.field-0.0 some c.in_err-logged.ensures.run c.in_err-logged.ensures.stops)

pub returns-in_err-say_end-clause-run : goal.returns-in_err-say_end-clause-run
returns-in_err-say_end-clause-run c =
    let p = err_from_is_err_and c.from_residual.result c.from_residual.ensures.1 in
    rw (p.1, p.2) (nothing-finishes c.args.self.progress c.args.last.now c.args.said.now c.say_end.new.said c.in_err-say_end.ensures.nothing)

pub returns-then-is_empty-clause-run : goal.returns-then-is_empty-clause-run
returns-then-is_empty-clause-run c = empty-finishes c.args.self.progress c.args.last.now c.args.said.now c.say_end.new.said tt (nil_from_length c.args.last.now (grind arith)) c.in_ok-say_end.ensures.all

pub returns-then-is_empty-clause-log : goal.returns-then-is_empty-clause-log
returns-then-is_empty-clause-log c = empty-log c.args.self.progress c.args.last.now c.args.said.now c.say_end.new.said c.args.self.journal c.args.rig.now tt (nil_from_length c.args.last.now (grind arith)) c.requires.logging

pub returns-in_err-say_end-2-clause-run : goal.returns-in_err-say_end-2-clause-run
returns-in_err-say_end-2-clause-run c =
    let p = err_from_is_err_and c.from_residual-in_err-say_end-2.result c.from_residual-in_err-say_end-2.ensures.1 in
    let some : 0 < length c.args.last.now = grind arith in
    rw (p.1, p.2) (line-nothing c.args.self.progress c.in_ok-logged.logged c.args.last.now c.args.said.now c.take_line.new.said c.say_end-2.new.said some c.in_ok-logged.ensures.run c.in_err-say_end-2.ensures.nothing)

pub returns-in_err-say_end-2-clause-log : goal.returns-in_err-say_end-2-clause-log
returns-in_err-say_end-2-clause-log c =
    let p = err_from_is_err_and c.from_residual-in_err-say_end-2.result c.from_residual-in_err-say_end-2.ensures.1 in
    let some : 0 < length c.args.last.now = grind arith in
    rw (p.1, p.2) (line-log-nothing c.args.self.progress c.args.last.now c.args.said.now c.say_end-2.new.said c.in_ok-logged.logged.journal c.args.rig.now c.take_line.new.rig some c.in_ok-logged.ensures.log)

pub returns-clause-run : goal.returns-clause-run
returns-clause-run c =
    let some : 0 < length c.args.last.now = grind arith in
    line-finishes c.args.self.progress c.in_ok-logged.logged c.args.last.now c.args.said.now c.take_line.new.said c.say_end-2.new.said tt some c.in_ok-logged.ensures.run c.in_ok-say_end-2.ensures.all

pub returns-clause-log : goal.returns-clause-log
returns-clause-log c =
    let some : 0 < length c.args.last.now = grind arith in
    line-log c.args.self.progress c.args.last.now c.args.said.now c.say_end-2.new.said c.in_ok-logged.logged.journal c.args.rig.now c.take_line.new.rig tt some c.in_ok-logged.ensures.log
