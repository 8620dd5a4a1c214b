-- Which conditions are true of the events of a state.
use Rattle.std.specs.Option.{option_map}
use Rattle.kinds.specs.Stores.{Truth}
use Rattle.event_keys.specs.Matching.{Texts, truth_by}
use Rattle.run_model.specs.State.{State, EventText, text_of}

abbrev pub texts_in : State → Texts
texts_in s = λ number. option_map (λ (e : EventText). e.text) (text_of number s)

-- whether an expression is true of the event with a number and a fresh one
unfoldable pub truth_in : State → Truth
truth_in s = truth_by (texts_in s)
