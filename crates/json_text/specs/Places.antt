-- Where a text stops being one: the place of a fault, from the grammar alone.
use Rattle.std.specs.Prelude.{ℕ, ◌+◌, ◌≤◌, ◌<◌, List, ◌++◌, length, take, ⊤}
use Rattle.json_text.specs.Grammar.{Json, IsText, IsJson}
use Rattle.json_text.specs.declared.fault.JsonFault.{JsonFault}
use Rattle.json_text.specs.declared.fault.JsonFault.TheVariants.{NotJson, TooDeep, Memory}

-- a text that begins so is JSON
abbrev pub MayBegin : List ℕ → Type 0
MayBegin w = (rest : List ℕ) × (j : Json) × IsJson (w ++ rest) j

-- no text that begins so is JSON
abbrev pub NeverBegins : List ℕ → Type 0
NeverBegins w = (rest : List ℕ) (j : Json) → IsJson (w ++ rest) j → ⊥

-- the same where brackets may nest as deep as they like
abbrev pub MayBeginDeeper : List ℕ → Type 0
MayBeginDeeper w = (rest : List ℕ) × (j : Json) × IsText (w ++ rest) j

abbrev pub NeverBeginsDeeper : List ℕ → Type 0
NeverBeginsDeeper w = (rest : List ℕ) (j : Json) → IsText (w ++ rest) j → ⊥

-- The first `at` bytes begin a text, and with the byte there they begin none, however deep it nests;
-- or the bytes end too early.
pub record IsNotJsonAt (at : ℕ) (w : List ℕ) : Type 0 where
  pub within : at ≤ length w
  pub before : MayBegin (take at w)
  pub here : at < length w → NeverBeginsDeeper (take (at + 1) w)
  pub whole : (j : Json) → IsText w j → ⊥

-- The first `at` bytes begin a text, and with the bracket there they begin one, but none that has no more
-- than 64 open brackets.
pub record IsTooDeepAt (at : ℕ) (w : List ℕ) : Type 0 where
  pub within : at < length w
  pub before : MayBegin (take at w)
  pub deeper : MayBeginDeeper (take (at + 1) w)
  pub here : NeverBegins (take (at + 1) w)

abbrev pub IsFaultOf : JsonFault → List ℕ → Type 0
IsFaultOf (NotJson at) w = IsNotJsonAt at w
IsFaultOf (TooDeep at) w = IsTooDeepAt at w
IsFaultOf Memory w = ⊤
