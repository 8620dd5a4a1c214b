use Rattle.matching.proofs.near.near.Goals as goal
use Rattle.matching.proofs.Scan.{stands_first, stands_next, stands_nearer, scanning_done}

pub loop-field-init : goal.loop-field-init
loop-field-init g c = stands_first (g.M.PathMatcher.value_of c.args.matcher.now) c.args.event.now c.args.places.now.keys _ _ _ c.as_slice.ensures c.new-found.ensures.empty c.in_ok-start.ensures

pub loop-field-smaller : goal.loop-field-smaller
loop-field-smaller g c = stands_nearer (g.M.PathMatcher.value_of c.args.matcher.now) c.args.event.now c.args.places.now.keys c.loop-field.start.0.0 c.in_ok-start-2.start c.in-Some.field.now c.in-Some.ensures c.in_ok-start-2.ensures

pub loop-field-preserved : goal.loop-field-preserved
loop-field-preserved g c = stands_next (g.M.PathMatcher.value_of c.args.matcher.now) c.args.event.now c.args.places.now.keys _ _ c.loop-field.start _ c.in-Some.field.now c.loop-field.invariant c.in-Some.ensures c.in_ok-look.ensures c.in_ok-start-2.ensures

pub returns : goal.returns
returns g c = scanning_done (g.M.PathMatcher.value_of c.args.matcher.now) c.args.event.now c.args.places.now.keys _ c.loop-field.start.0.0 c.loop-field.invariant.0 c.in_default.ensures
