use Rattle.std.proofs.Common.{◌≡◌, ◌∙◌, ap}
use Rattle.std.specs.List.{filter_map}
use Rattle.lists.specs.Entries.{in_order}
use Rattle.kinds.specs.Stores.{is_met}
use Rattle.matching.specs.Met.{met_runs, run_at}
use Rattle.matching.proofs.Meets.{if_ok}
use Rattle.matching.proofs.Runs.{runs_named}
use Rattle.matching.proofs.index.Index.runs.Goals as goal

pub returns-clause-met : goal.returns-clause-met
returns-clause-met g c =
    if_ok c.runs_of.result _ (λ rs. rs ≡ met_runs g.E.Conditional.condition_of g.E.OfRun.run_of (g.M.Matcher.is_true c.args.matcher.now) c.args.event.now c.args.self.now)
    (λ rs h. h ∙ ap (λ ns. in_order (filter_map (run_at g.E.OfRun.run_of g.E.Ranked.number_of c.args.self.now) ns)) (c.as_slice.ensures ∙ c.in_ok-met.ensures.met)
    ∙ ap in_order (runs_named g.E.OfRun.run_of g.E.Ranked.number_of (λ e. is_met (g.M.Matcher.is_true c.args.matcher.now) c.args.event.now (g.E.Conditional.condition_of e)) c.args.self.now c.runs_of.ensures.apart))
    c.runs_of.ensures.runs
