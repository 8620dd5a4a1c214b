-- How the run of a script ends, by how it went.
use Rattle.std.specs.Prelude.{Result, Ok, Err}
use Rattle.replay_core.specs.declared.end.LineFault.TheVariants as line
use Rattle.replay_core.specs.declared.end.ReplayEnd.{ReplayEnd}
use Rattle.replay_core.specs.declared.end.ReplayEnd.TheVariants.{Done, Script, ReadFault, WriteFault, NumbersSpent, Memory}
use Rattle.replay_core.specs.declared.end.RunFault.{RunFault}
use Rattle.replay_core.specs.declared.end.RunFault.TheVariants.{Source, Sink, Line}

abbrev pub end_of : Result (Unit {0}) RunFault → ReplayEnd
end_of (Ok done) = Done
end_of (Err Source) = ReadFault
end_of (Err Sink) = WriteFault
end_of (Err (Line (line.Outside number))) = Script number
end_of (Err (Line line.Spent)) = NumbersSpent
end_of (Err (Line line.Memory)) = Memory

-- the end of a run whose last write fails
abbrev pub unwritten : ReplayEnd → ReplayEnd
unwritten Done = WriteFault
unwritten (Script line) = WriteFault
unwritten ReadFault = WriteFault
unwritten WriteFault = WriteFault
unwritten NumbersSpent = WriteFault
unwritten Memory = Memory
