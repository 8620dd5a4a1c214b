-- The text that a value or a fault is as a key.
use Rattle.std.specs.Prelude.{ℕ, ◌^◌, ◌<◌, Bool, true, false, List, ◌++◌, codes, Result, Ok, Err, unsigned_abs, ⊤}
use Rattle.text_num.specs.Units.{units_text}
use Rattle.cel_eval.specs.Operations.{bool_text}
use Rattle.cel_eval.specs.declared.fault.EvalFault.{EvalFault}
use Rattle.cel_eval.specs.declared.value.Value.{Value}
use Rattle.cel_eval.specs.declared.value.Value.TheVariants as value

abbrev pub value_text : Value → List ℕ
value_text value.Null = codes "null"
value_text (value.Bool b) = bool_text b
value_text (value.Number n) = codes "n" ++ units_text n
value_text (value.Text t) = codes "s" ++ t
value_text value.List = codes "!"
value_text value.Object = codes "!"

abbrev pub cell_text : Result Value EvalFault → List ℕ
cell_text (Ok v) = value_text v
cell_text (Err e) = codes "!"

-- a number is below its limit
abbrev pub IsInUnits : Value → Type 0
IsInUnits (value.Number n) = unsigned_abs n < 10 ^ 38
IsInUnits _ = ⊤
