-- What an operand of the code stands for.
use Rattle.std.specs.Prelude.{◌≡◌, ◌⊎◌, List, [], ◌∷◌, Result, Ok, Err, map}
use Rattle.cel_eval.specs.Data.{Datum, null, boolean, number, text, list, object, written, Data, none, more, Outcome}
use Rattle.cel_eval.specs.declared.fault.EvalFault.{EvalFault}
use Rattle.cel_eval.specs.declared.fault.EvalFault.TheVariants as fault
use Rattle.cel_eval.specs.declared.operand.Operand.{Operand, fold-Operand}
use Rattle.cel_eval.specs.declared.operand.Operand.TheOpen.{Operand-F}

abbrev pub data_from : List Datum → Data
data_from [] = none
data_from (d ∷ ds) = more d (data_from ds)

-- one level, with each operand inside already seen
abbrev pub datum_step : Operand-F Datum → Datum
datum_step Operand-F.Null = null
datum_step (Operand-F.Bool b) = boolean b
datum_step (Operand-F.Number n) = number n
datum_step (Operand-F.Text t) = text t.now
datum_step (Operand-F.Made t) = text t
datum_step (Operand-F.List j) = list j
datum_step (Operand-F.Object j) = object j
datum_step (Operand-F.Written v) = written (data_from v.items)

abbrev pub datum_of : Operand → Datum
datum_of = fold-Operand Datum datum_step

abbrev pub data_of : List Operand → Data
data_of os = data_from (map datum_of os)

-- the answer is the exact one, unless memory ran out
abbrev pub Gives : Outcome → Result Operand EvalFault → Type 0
Gives exact (Ok o) = exact ≡ Ok (datum_of o)
Gives exact (Err e) = (exact ≡ Err e) ⊎ (e ≡ fault.Memory)

-- where the part gives its exact answer, the whole does
abbrev pub GivesOf : (Outcome → Outcome) → Result Operand EvalFault → Result Operand EvalFault → Type 0
GivesOf f part whole = (exact : Outcome) → Gives exact part → Gives (f exact) whole

abbrev pub GivesOfTwo : (Outcome → Outcome → Outcome) → Result Operand EvalFault
    → Result Operand EvalFault → Result Operand EvalFault → Type 0
GivesOfTwo f left right whole = (l r : Outcome) → Gives l left → Gives r right → Gives (f l r) whole
