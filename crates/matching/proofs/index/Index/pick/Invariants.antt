use Rattle.std.proofs.Common.{◌≡◌, ◌++◌, ◌+◌, ◌≤◌, filter, length}
use Rattle.matching.specs.Met.{meets_at, asks_at}
use Rattle.matching.proofs.index.Index.pick.Given as goal

abbrev pub invariant-loop-number : goal.invariant-loop-number
invariant-loop-number g l =
    (l.met ++ filter (meets_at g.E.Conditional.condition_of g.E.Ranked.number_of (g.M.Matcher.is_true l.matcher) l.event l.self) l.number-iterator ≡ filter (meets_at g.E.Conditional.condition_of g.E.Ranked.number_of (g.M.Matcher.is_true l.matcher) l.event l.self) l.near.keys)
    × (l.steps + length (filter (asks_at g.E.Conditional.condition_of g.E.Ranked.number_of l.event l.self) l.number-iterator) ≤ l.initial.steps + length (filter (asks_at g.E.Conditional.condition_of g.E.Ranked.number_of l.event l.self) l.near.keys))
