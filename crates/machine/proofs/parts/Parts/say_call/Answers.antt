use Rattle.std.proofs.Common.{sym}
use Rattle.machine.proofs.HeldSettle.{live-dated}
use Rattle.machine.proofs.parts.Parts.say_call.Goals as goal

pub call_of-requires : goal.call_of-requires
call_of-requires c = record {
  dated = live-dated c.args.self.now c.in-Some.item.now.run c.in-Some-live.run'.now (sym c.in-Some-live.ensures)
      c.requires.held;
}
