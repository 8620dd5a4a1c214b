-- What the laws say of each state that is reached, in one.
use Rattle.std.proofs.Common.{◌≡◌, List, [], ◌∷◌, None, refl}
use Rattle.kinds.specs.Queue.{least}
use Rattle.kinds.specs.declared.input.Input.{Input}
use Rattle.kinds.specs.declared.limits.Limits.{Limits}
use Rattle.run_model.specs.Machine.{fold, state_after, step}
use Rattle.run_model.specs.Settle.{next_issued}
use Rattle.run_model.specs.Sound.{IsReached}
use Rattle.run_model.specs.State.{State, empty}
use Rattle.run_model.proofs.Awaiting.{Awaits, awaits-fold}
use Rattle.run_model.proofs.AwaitingOnce.{awaits-once, wakes-all}
use Rattle.run_model.proofs.Dated.{all-dated, all-named}
use Rattle.run_model.proofs.Discovered.{live-go_on, wanted-found}
use Rattle.run_model.proofs.EntryNumbers.{apart-fold}
use Rattle.run_model.proofs.Invoking.{invoked-fold}
use Rattle.run_model.proofs.Limits.{limited-fold}
use Rattle.run_model.proofs.OfLive.{of-fold}
use Rattle.run_model.proofs.OrderedLists.{numbered-fold}
use Rattle.run_model.proofs.SeenOnce.{seen-fold}
use Rattle.run_model.proofs.SettlingRests.{rests-step}
use Rattle.run_model.proofs.StepsOnce.{once-recorded, room-fold}
use Rattle.run_model.proofs.Whole.{kept-fold, stand-fold}

settled-after : (inputs : List Input) (s : State) → next_issued s ≡ None → next_issued (state_after s inputs) ≡ None
settled-after [] s h = h
settled-after (input ∷ inputs) s h = settled-after inputs (step s input).state (rests-step s input)

settled-empty : (limits : Limits) → next_issued (empty limits) ≡ None
unfolding least
settled-empty limits = refl

pub reached : (limits : Limits) (inputs : List Input) → IsReached (fold limits inputs)
reached limits inputs =
    let s : State = fold limits inputs in
    let h : Awaits s = awaits-fold limits inputs in
    record {
      numbered = numbered-fold limits inputs;
      kept = kept-fold limits inputs;
      once = stand-fold limits inputs;
      recorded = once-recorded limits inputs;
      pending = awaits-once s h;
      wakes = wakes-all s h;
      room = room-fold limits inputs;
      wanted = wanted-found limits inputs;
      going = live-go_on limits inputs;
      dated = all-dated limits inputs;
      named = all-named limits inputs;
      of_live = of-fold limits inputs;
      apart = apart-fold limits inputs;
      invocations_held = invoked-fold limits inputs;
      remembered = seen-fold limits inputs;
      limits = limited-fold limits inputs;
      settled = settled-after inputs (empty limits) (settled-empty limits);
    }
