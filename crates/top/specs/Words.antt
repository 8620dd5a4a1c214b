-- What the words of replay ask for.
use Rattle.std.specs.Prelude.{ℕ, Bool, true, false, List, Option, Some, None, String, option_and_then}
use Rattle.std.specs.declared.alloc.Global.{Global}
use Rattle.replay_core.specs.declared.form.Form.{Form}
use Rattle.replay_core.specs.declared.form.Form.TheVariants.{Full, Brief}
use Rattle.words.specs.Replay.{replay_words}
use Rattle.words.specs.declared.replay.ReplayWords.{ReplayWords}

-- how calls are printed, with `--brief` or without
abbrev pub form_by : Bool → Form
form_by false = Full
form_by true = Brief

-- a script is run where no input is generated
abbrev pub unless_generated : Option ℕ → Form → Option Form
unless_generated None form = Some form
unless_generated (Some count) form = None

-- how the calls of a script are printed, where a script is asked for
abbrev pub form_asked : ReplayWords → Option Form
form_asked asked = unless_generated asked.generate (form_by asked.brief)

abbrev pub form_of : List (String Global) → Option Form
form_of words = option_and_then form_asked (replay_words words)

-- of how many runs inputs are generated, where that is asked for
abbrev pub count_of : List (String Global) → Option ℕ
count_of words = option_and_then (λ asked. asked.generate) (replay_words words)
