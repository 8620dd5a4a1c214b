use Rattle.cel_parse.proofs.Shapes.{rules-begin, rules-keep}
use Rattle.cel_parse.proofs.rules.least_rule.Goals as goal

pub loop-opens-init : goal.loop-opens-init
loop-opens-init c = rules-begin c.args.text.now c.new-cutter.result.rest.now c.new-cutter.result.whole c.new-opens.result c.new-cutter.ensures.whole c.new-cutter.ensures.rest c.new-opens.ensures

pub loop-opens-preserved : goal.loop-opens-preserved
loop-opens-preserved c = let l = c.loop-opens in
    rules-keep l.cutter.whole c.next.new.self.whole c.args.text.now l.least c.lesser-least.result c.in-Takes.place l.opens c.take_token.new.opens l.seat c.in-Takes.next l.cutter.rest.now c.next.new.self.rest.now
    c.in-Some.placed c.in_ok-placed.field-0 c.in_ok-take_token.field-0 c.next.ensures.whole l.invariant.0 l.invariant.1 c.in-Some.is c.in_ok-placed.ensures.next c.in-Takes.is c.in_ok-take_token.ensures c.lesser-least.ensures
