use Rattle.std.proofs.Common.{subst, sym}
use Rattle.replay_core.specs.Log.{HasLogged}
use Rattle.replay_core.specs.Script.{HasRun}
use Rattle.replay_core.specs.declared.end.ReplayEnd.{ReplayEnd}
use Rattle.replay_core.proofs.LogRun.{failed-holds, failed-synced, written-holds}
use Rattle.replay_core.proofs.RunLemmas.{failed-reads, failed-replays, failed-writes, written-faults, written-replays}
use Rattle.replay_core.proofs.script.run_lines.Goals as goal

pub returns-in-Ok : goal.returns-in-Ok
returns-in-Ok g c =
    let in0 = g.I.Source.incoming c.args.input.now in
    let in1 = g.I.Source.incoming c.run_all.new.input in
    let out0 = g.O.Sink.outgoing c.args.out.now in
    let out1 = g.O.Sink.outgoing c.run_all.new.out in
    let said = c.run_all.new.said in
    let end = c.end_of-end.result in
    let run = subst (λ (e : ReplayEnd). HasRun c.args.form in0 in1 out0 out1 said e) (sym c.end_of-end.ensures) c.run_all.ensures.run in
    let log = subst (λ (e : ReplayEnd). HasLogged c.args.form in0 out0 out1 said c.args.rig.now c.run_all.new.rig e) (sym c.end_of-end.ensures) c.run_all.ensures.log in
    record {
      replays = written-replays c.args.form in0 in1 out0 out1 _ said end run c.in-Ok.ensures.all;
      reads = run.reads;
      writes = written-faults c.args.form in0 in1 out0 out1 _ said end run c.in-Ok.ensures.all;
      holds = written-holds c.args.form in0 out0 out1 _ said c.args.rig.now c.run_all.new.rig end log c.in-Ok.ensures.all;
      synced = log.synced;
      starved = log.starved;
    }

pub returns : goal.returns
returns g c =
    let in0 = g.I.Source.incoming c.args.input.now in
    let in1 = g.I.Source.incoming c.run_all.new.input in
    let out0 = g.O.Sink.outgoing c.args.out.now in
    let out1 = g.O.Sink.outgoing c.run_all.new.out in
    let said = c.run_all.new.said in
    let end = c.end_of-end.result in
    let run = subst (λ (e : ReplayEnd). HasRun c.args.form in0 in1 out0 out1 said e) (sym c.end_of-end.ensures) c.run_all.ensures.run in
    let log = subst (λ (e : ReplayEnd). HasLogged c.args.form in0 out0 out1 said c.args.rig.now c.run_all.new.rig e) (sym c.end_of-end.ensures) c.run_all.ensures.log in
    let failed = c.in-Err.ensures.failed in
    let some = c.in-Err.ensures.some in
    let safe = failed-synced c.args.form in0 out0 out1 said c.args.rig.now c.run_all.new.rig end log in
    rw c.unwritten.ensures (record {
      replays = failed-replays c.args.form in0 in1 out0 out1 _ said end run failed some;
      reads = failed-reads c.args.form in0 in1 out0 out1 said end run some;
      writes = failed-writes c.args.form in0 in1 out0 out1 _ said end run failed some;
      holds = failed-holds c.args.form in0 in1 out0 out1 _ said c.args.rig.now c.run_all.new.rig end run log failed some;
      synced = safe.0;
      starved = safe.1;
    })
