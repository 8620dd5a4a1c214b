-- What the parts of an expression are worth: the values that its operations take and give.
use Rattle.std.specs.Prelude.{◌≡◌, ℕ, ◌^◌, ℤ, nat_lt, unsigned_abs, Bool, if◌then◌else◌, List, [], ◌∷◌, Option, Some, None, Result, Ok, Err, refl, bytes_eq, codes, option_map}
use Rattle.std.specs.Coded.{Coded, code_by, coded×, coded_option}
use Rattle.json_text.specs.Grammar.{Json, spelling}
use Rattle.json_text.specs.Trees.{document_code}
use Rattle.json_text.specs.Nodes.{Document, kind_of}
use Rattle.json_text.specs.Text.{text_of}
use Rattle.json_text.specs.declared.kind.Kind.{Kind}
use Rattle.json_text.specs.declared.kind.Kind.TheVariants as kind
use Rattle.text_num.specs.Units.{units_of}
use Rattle.text_num.specs.declared.fault.NumFault.{NumFault}
use Rattle.cel_eval.specs.declared.fault.EvalFault.{EvalFault}
use Rattle.cel_eval.specs.declared.fault.EvalFault.TheVariants as fault
use Rattle.cel_eval.specs.declared.value.Value.{Value}
use Rattle.cel_eval.specs.declared.value.Value.TheVariants as value

-- a value is stored as a text without a source
abbrev pub json_code : Coded Json
json_code =
    code_by Document document_code (λ j. record { source = []; value = j }) (λ d. d.value) (λ _. refl)

-- A list is one of an event's text, or one that the expression writes out. An object is one of an event's text.
mutual
  pub data Datum : Type 0 where
    null : Datum
    boolean : Bool → Datum
    -- in units of 10^-18
    number : ℤ → Datum
    text : List ℕ → Datum
    list : Json → Datum
    object : Json → Datum
    written : Data → Datum

  pub data Data : Type 0 where
    none : Data
    more : Datum → Data → Data

abbrev pub Outcome : Type 0
Outcome = Result Datum EvalFault

-- ---- numbers

-- units, where they are below 10^38
abbrev pub in_units : ℤ → Result ℤ EvalFault
in_units n = if nat_lt (unsigned_abs n) (10 ^ 38) then Ok n else Err fault.Range

abbrev pub as_number : Result ℤ EvalFault → Outcome
as_number (Ok n) = Ok (number n)
as_number (Err e) = Err e

-- those of a number of an event's text
abbrev pub units_within : Result ℤ NumFault → Result ℤ EvalFault
units_within (Ok n) = in_units n
units_within (Err e) = Err fault.Range

-- ---- values of an event's text

-- the literal `true`
abbrev pub is_true : Json → Bool
is_true j = bytes_eq (spelling j) (codes "true")

abbrev pub of_kind : Kind → Json → Outcome
of_kind kind.Null j = Ok null
of_kind kind.Bool j = Ok (boolean (is_true j))
of_kind kind.Number j = as_number (units_within (units_of (spelling j)))
of_kind kind.Text j = Ok (text (text_of j))
of_kind kind.List j = Ok (list j)
of_kind kind.Object j = Ok (object j)

abbrev pub of_json : Json → Outcome
of_json j = of_kind (kind_of j) j

-- one that may be absent
abbrev pub of_found : Option Json → Outcome
of_found None = Err fault.NoField
of_found (Some j) = of_json j

-- The event, and the fresh event where there is one.
pub record Events : Type 0 where
  pub event : Json
  pub fresh : Option Json

abbrev pub over : Json → Option Json → Events
over event fresh = record { event = event; fresh = fresh }

abbrev pub over_documents : Document → Option Document → Events
over_documents event fresh = over event.value (option_map (λ d. d.value) fresh)

abbrev pub events_code : Coded Events
events_code =
    code_by (Json × Option Json) (coded× json_code (coded_option json_code)) (λ e. (e.event, e.fresh))
    (λ p. over p.0 p.1) (λ _. refl)

-- ---- answers

-- the value that the caller sees
abbrev pub seen : Datum → Value
seen null = value.Null
seen (boolean b) = value.Bool b
seen (number n) = value.Number n
seen (text t) = value.Text t
seen (list j) = value.List
seen (object j) = value.Object
seen (written ds) = value.List

abbrev pub seen_outcome : Outcome → Result Value EvalFault
seen_outcome (Ok d) = Ok (seen d)
seen_outcome (Err e) = Err e
