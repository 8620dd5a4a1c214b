use Rattle.std.proofs.Common.{◌∙◌, ap, sym, Some}
use Rattle.std.specs.Option.{option_map}
use Rattle.kinds.specs.RunSteps.{result_of}
use Rattle.run_state.proofs.Names.{unplaced, placed_entry}
use Rattle.run_state.proofs.active.Active.result_of.Goals as goal

pub returns-in_err-place : goal.returns-in_err-place
returns-in_err-place c =
    ap (option_map (λ text. text.now)) c.from_residual.ensures
    ∙ sym (ap (option_map (λ e. e.result)) (unplaced c.args.hash.now c.self.inside.recorded (c.in_err-place.ensures.value ∙ c.self.invariant.placed c.args.hash.now)))
    ∙ ap (result_of c.args.hash.now) c.self.view_is

pub returns-in_err-entry : goal.returns-in_err-entry
returns-in_err-entry c =
    ap (option_map (λ text. text.now)) c.from_residual-in_err-entry.ensures
    ∙ ap (option_map (λ e. e.result)) (c.in_err-entry.ensures ∙ placed_entry c.args.hash.now c.self.inside.recorded _ (c.in_ok-place.ensures.value ∙ c.self.invariant.placed c.args.hash.now))
    ∙ ap (result_of c.args.hash.now) c.self.view_is

pub returns : goal.returns
returns c =
    ap Some c.as_slice.ensures
    ∙ ap (option_map (λ e. e.result)) (c.in_ok-entry.ensures ∙ placed_entry c.args.hash.now c.self.inside.recorded _ (c.in_ok-place.ensures.value ∙ c.self.invariant.placed c.args.hash.now))
    ∙ ap (result_of c.args.hash.now) c.self.view_is
