use Rattle.std.proofs.Common.{◌≡◌, ◌≤◌, ◌+◌, ◌*◌, ◌-◌, length}
use Rattle.replay_core.specs.Pieces.{IsUnended}
use Rattle.replay_core.proofs.RunLemmas.{IsRunning}
use Rattle.replay_core.proofs.script.run_all.Given as goal

abbrev pub invariant-reading : goal.invariant-reading
invariant-reading g l = record {
  running : IsRunning l.fn.form (g.I.Source.incoming l.fn.input) (g.I.Source.incoming l.input) (g.O.Sink.outgoing l.fn.out) (g.O.Sink.outgoing l.out) l.said l.rig l.logged l.lines;
  unended : IsUnended l.lines.line;
  starved : l.rig.counts.starved ≡ l.fn.rig.counts.starved;
  within : length l.lines.line ≤ l.logged.progress.room;
}

-- each look takes bytes of the room, or reads where nothing is unread
abbrev pub decreases-reading : goal.decreases-reading
decreases-reading g l = 2 * (l.logged.progress.room - length l.lines.line) + (1 - length l.lines.unread)
