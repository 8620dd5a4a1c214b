use Rattle.std.proofs.Common.{◌≡◌, [], drop}
use Rattle.std.specs.List.{filter_map}
use Rattle.lists.specs.Entries.{add_numbers}
use Rattle.matching.specs.Met.{run_at}
use Rattle.matching.proofs.index.Index.runs_of.Given as goal

abbrev pub invariant-loop-number : goal.invariant-loop-number
invariant-loop-number g l =
    add_numbers (filter_map (run_at g.E.OfRun.run_of g.E.Ranked.number_of l.self) (drop l.number-index l.numbers)) l.runs.keys
    ≡ add_numbers (filter_map (run_at g.E.OfRun.run_of g.E.Ranked.number_of l.self) l.numbers) []
