use Rattle.cel_parse.specs.Frames.{open_in, state_of}
use Rattle.cel_parse.proofs.Walks.{walks-begin, walks-keep}
use Rattle.cel_parse.proofs.parser.walk.Goals as goal

pub loop-place-init : goal.loop-place-init
loop-place-init c = walks-begin c.args.text.now c.new-cutter.result.rest.now c.new-cutter.result.whole (open_in c.new-stack.result) c.new-cutter.ensures.whole c.new-cutter.ensures.rest c.new-stack.ensures

pub loop-place-preserved : goal.loop-place-preserved
loop-place-preserved c = let l = c.loop-place in
    walks-keep l.cutter.whole c.next.new.self.whole c.args.text.now (state_of (open_in l.stack) l.place) (state_of (open_in c.step.new.stack) c.in-Ok.next) l.cutter.rest.now c.next.new.self.rest.now
    c.in-Some.placed c.in_ok-placed.field-0 c.next.ensures.whole l.invariant.0 l.invariant.1 c.in-Some.is c.in_ok-placed.ensures.next c.in-Ok.ensures
