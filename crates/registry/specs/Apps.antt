-- The application that the body of a registration tells of.
use Rattle.std.specs.Prelude.{ℕ, if◌then◌else◌, List, [], codes, Option, Some, None, option_and_then, Result, Ok, Err}
use Rattle.std.specs.Str.{is_utf8}
use Rattle.kinds.specs.declared.function.App.{App}
use Rattle.serde_json.specs.Data.{Data, Items}
use Rattle.serde_json.specs.Read.{read}
use Rattle.serde_json.specs.View.{view}
use Rattle.serde_json.specs.declared.value.Value.{Value}
use Rattle.registry.specs.Functions.{function_of}
use Rattle.registry.specs.Members.{◌>>=◌, array_in, found_or, has_count, is_object, read_behind, text_in}
use Rattle.registry.specs.declared.fault.RegisterFault.{RegisterFault}
use Rattle.registry.specs.declared.fault.RegisterFault.TheVariants.{NotJson, NoAppName, NoFunctions}

-- the value that `serde_json` reads from a body
abbrev pub value_of : List ℕ → Option Data
value_of body = if is_utf8 body then read body else None

-- a value of the code as the data that it is
abbrev pub viewed : {E : Type 0} → Result Value E → Result Data E
viewed (Ok value) = Ok (view value)
viewed (Err fault) = Err fault

abbrev pub most_functions : ℕ
most_functions = 256

abbrev pub few : Items → Option Items
few ds = if has_count 0 most_functions ds then Some ds else None

-- at most 256; there may be none
abbrev pub functions_in : Data → Option Items
functions_in d = option_and_then few (array_in (codes "functions") d)

unfoldable pub app_in : Data → Result App RegisterFault
app_in d = do
  name ← found_or NoAppName (text_in (codes "appName") d)
  items ← found_or NoFunctions (functions_in d)
  functions ← read_behind function_of [] items
  Ok (record { name = name; functions = functions })

abbrev pub app_of : Data → Result App RegisterFault
app_of d = if is_object d then app_in d else Err NotJson

-- the application of a body, or the first fault
unfoldable pub read_app : List ℕ → Result App RegisterFault
read_app body = found_or NotJson (value_of body) >>= app_of
