use Rattle.std.proofs.Common.{sym}
use Rattle.debounce_batch.proofs.Kept.{took_debounce, took_batch}
use Rattle.debounce_batch.proofs.windows.take.Goals as goal

pub returns-in-Some-clause-value : goal.returns-in-Some-clause-value
returns-in-Some-clause-value c = sym (took_debounce c.args.windows.now.entries c.remove.new.self.entries c.requires.sorted c.args.number c.in-Some.held c.requires.apart c.in-Some.ensures.value c.in-Some.ensures.entries c.in-Some.ensures.ordered).0

pub returns-in-Some-clause-left : goal.returns-in-Some-clause-left
returns-in-Some-clause-left c = (took_debounce c.args.windows.now.entries c.remove.new.self.entries c.requires.sorted c.args.number c.in-Some.held c.requires.apart c.in-Some.ensures.value c.in-Some.ensures.entries c.in-Some.ensures.ordered).1

pub returns-in-Some-clause-sorted : goal.returns-in-Some-clause-sorted
returns-in-Some-clause-sorted c = (took_debounce c.args.windows.now.entries c.remove.new.self.entries c.requires.sorted c.args.number c.in-Some.held c.requires.apart c.in-Some.ensures.value c.in-Some.ensures.entries c.in-Some.ensures.ordered).2

pub returns-in-None-clause-value : goal.returns-in-None-clause-value
returns-in-None-clause-value c = (took_batch c.args.windows.now.entries c.remove-in-None.new.self.entries c.requires.sorted c.args.number c.remove.new.self.entries c.remove-in-None.result c.in-None.ensures.value c.in-None.ensures.unchanged c.remove-in-None.ensures.value c.remove-in-None.ensures.entries c.remove-in-None.ensures.ordered).0

pub returns-in-None-clause-left : goal.returns-in-None-clause-left
returns-in-None-clause-left c = (took_batch c.args.windows.now.entries c.remove-in-None.new.self.entries c.requires.sorted c.args.number c.remove.new.self.entries c.remove-in-None.result c.in-None.ensures.value c.in-None.ensures.unchanged c.remove-in-None.ensures.value c.remove-in-None.ensures.entries c.remove-in-None.ensures.ordered).1

pub returns-in-None-clause-sorted : goal.returns-in-None-clause-sorted
returns-in-None-clause-sorted c = (took_batch c.args.windows.now.entries c.remove-in-None.new.self.entries c.requires.sorted c.args.number c.remove.new.self.entries c.remove-in-None.result c.in-None.ensures.value c.in-None.ensures.unchanged c.remove-in-None.ensures.value c.remove-in-None.ensures.entries c.remove-in-None.ensures.ordered).2
