-- The twenty conditions, put together.
use Rattle.std.proofs.Common.{◌≢◌, ◌<◌, ◌^◌, List, [], ◌∷◌}
use Rattle.std.specs.List.{AllByRecursion}
use Rattle.kinds.specs.declared.input.Input.{Input}
use Rattle.kinds.specs.declared.limits.Limits.{Limits}
use Rattle.kinds.specs.declared.seen.SeenEntry.{SeenEntry}
use Rattle.run_model.specs.Fit.{IsInRange}
use Rattle.run_model.specs.Laws.{IsFormed}
use Rattle.run_model.specs.Machine.{fold}
use Rattle.run_model.specs.Sound.{AreApart, ArePairwise, IsReached, IsSound, StandsApart}
use Rattle.run_model.proofs.Reached.{reached}
use Rattle.run_model.proofs.Registered.{own-fold}
use Rattle.run_model.proofs.RunsFixed.{fixed-fold}
use Rattle.run_model.proofs.TimelySteps.{timely-fold}
use Rattle.run_model.proofs.WindowRules.{windows-fold}
use Rattle.soundness.proofs.FreshRuns.{fresh-fold}
use Rattle.soundness.proofs.NamedThere.{named-fold}
use Rattle.soundness.proofs.OneDiscovery.{discovers-fold}
use Rattle.soundness.proofs.PlannedOnce.{planned-fold}
use Rattle.soundness.proofs.QueuedNew.{unrecorded-fold}

other-ids : (e : SeenEntry) (es : List SeenEntry) → AllByRecursion (StandsApart e) es
    → AllByRecursion (λ (later : SeenEntry). e.id ≢ later.id) es
other-ids e [] h = tt
other-ids e (later ∷ es) h = (h.0.1, other-ids e es h.1)

apart-ids : (es : List SeenEntry) → ArePairwise StandsApart es → AreApart (λ (e : SeenEntry). e.id) es
apart-ids [] h = tt
apart-ids (e ∷ es) h = (other-ids e es h.0, apart-ids es h.1)

pub sound-fold : (limits : Limits) (inputs : List Input) → AllByRecursion IsInRange inputs
    → AllByRecursion IsFormed inputs → (fold limits inputs).entries < 2 ^ 64 → IsSound (fold limits inputs)
sound-fold limits inputs ranges formed few =
    let h : IsReached (fold limits inputs) = reached limits inputs in
    record {
      numbered = h.numbered;
      whole = record {
        named = named-fold limits inputs;
        kept = h.kept;
        once = h.once;
      };
      recorded = h.recorded;
      pending = h.pending;
      planned = planned-fold limits inputs;
      room = h.room;
      discovered = discovers-fold limits inputs;
      going = h.going;
      timely = timely-fold limits inputs ranges few;
      dated = h.dated;
      fixed = fixed-fold limits inputs ranges;
      apart = h.apart;
      of_live = h.of_live;
      fresh = fresh-fold limits inputs;
      unrecorded = unrecorded-fold limits inputs;
      invocations = h.invocations_held;
      unique = record {
        seen = apart-ids (fold limits inputs).seen h.remembered.apart;
        functions = own-fold limits inputs formed;
      };
      windows = windows-fold limits inputs ranges;
      limits = h.limits;
      settled = h.settled;
    }
