use Rattle.std.proofs.Common.{sym}
use Rattle.admission.specs.Items.{is_item_of}
use Rattle.admission.proofs.Found.{in_any}
use Rattle.admission.proofs.waiting.Waiting.has.Goals as goal

pub returns-in_default : goal.returns-in_default
returns-in_default c = sym c.in_default.ensures.none

pub returns : goal.returns
returns c = sym (in_any (is_item_of c.args.run c.args.target.now) c.in-Some._number c.args.self.now.items c.in-Some.ensures.some)
