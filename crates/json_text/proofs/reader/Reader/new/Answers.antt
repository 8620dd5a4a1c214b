-- At the start nothing is read.
use Rattle.std.proofs.Common.{refl}
use Rattle.json_text.proofs.reader.Reader.new.Goals as goal

pub returns : goal.returns
returns c = record { source = refl; mode = tt; begins = tt; lies = c.new.ensures c.args.bytes.now }
