use Rattle.std.proofs.Common.{◌≡◌, ◌≤◌, ◌+◌, ◌∙◌, ap, map, sym, subst}
use Rattle.std.specs.Prelude.{IfOk}
use Rattle.kinds.specs.Stores.{wait_condition, woken, AreBucketsRight}
use Rattle.matching.specs.Met.{asked_count}
use Rattle.awaited.specs.Entries.{wait_of}
use Rattle.awaited.proofs.waits.Waits.matches.Goals as goal

pub matches-requires : goal.matches-requires
matches-requires g c = record {
  right = subst (AreBucketsRight wait_condition (g.M.Matcher.is_true c.args.matcher.now) (g.M.PathMatcher.value_of c.args.matcher.now) c.args.event.now)
      (sym (c.self.invariant.waits ∙ ap (map wait_of) c.self.view_is)) c.requires.right;
}

pub returns-clause-woken : goal.returns-clause-woken
returns-clause-woken g c =
    subst (λ ws. IfOk c.matches.result (λ ns. ns ≡ woken (g.M.Matcher.is_true c.args.matcher.now) c.args.event.now ws))
    (c.self.invariant.waits ∙ ap (map wait_of) c.self.view_is) c.matches.ensures.woken

pub returns-clause-asked : goal.returns-clause-asked
returns-clause-asked g c =
    subst (λ ws. c.matches.new.steps ≤ c.args.steps.now + asked_count wait_condition (g.M.PathMatcher.value_of c.args.matcher.now) c.args.event.now ws)
    (c.self.invariant.waits ∙ ap (map wait_of) c.self.view_is) c.matches.ensures.asked
