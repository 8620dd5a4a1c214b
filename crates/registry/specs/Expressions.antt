-- Expressions and durations of a registration.
use Rattle.std.specs.Prelude.{ℕ, ◌==◌, if◌then◌else◌, List, Option, Some, None, Result, Ok, Err}
use Rattle.cel_parse.specs.Faults.{parse_text}
use Rattle.cel_parse.specs.declared.fault.ParseFault.{ParseFault}
use Rattle.cel_parse.specs.declared.fault.ParseFault.TheVariants as parse
use Rattle.serde_json.specs.Data.{Data}
use Rattle.serde_json.specs.Find.{as_str}
use Rattle.text_num.specs.Duration.{duration_of}
use Rattle.text_num.specs.declared.fault.NumFault.{NumFault}
use Rattle.registry.specs.declared.flaw.Flaw.{Flaw}
use Rattle.registry.specs.declared.flaw.Flaw.TheVariants.{Expression, Period, Memory}
use Rattle.registry.specs.Members.{◌>>=◌, part}

-- a text that is too long has no place of its own
abbrev pub bad_expression : ParseFault → Flaw
bad_expression parse.TooLong = Expression 0
bad_expression (parse.Syntax at) = Expression at
bad_expression (parse.TooDeep at) = Expression at
bad_expression parse.Memory = Memory

abbrev pub parsed : Result (List ℕ) ParseFault → Result (List ℕ) Flaw
parsed (Ok text) = Ok text
parsed (Err fault) = Err (bad_expression fault)

abbrev pub text_expression : Option (List ℕ) → Result (List ℕ) Flaw
text_expression None = Err (Expression 0)
text_expression (Some text) = parsed (parse_text text)

-- the expression that a value is; what is no text is none
unfoldable pub expression_of : Data → Result (List ℕ) Flaw
expression_of d = text_expression (as_str d)

abbrev pub optional_expression : Option Data → Result (Option (List ℕ)) Flaw
optional_expression None = Ok None
optional_expression (Some d) = expression_of d >>= λ text. Ok (Some text)

-- the expression in a member that may be absent
abbrev pub condition_in : List ℕ → Data → Result (Option (List ℕ)) Flaw
condition_in name d = optional_expression (part name d)

abbrev pub from_one : Result ℕ NumFault → Result ℕ Flaw
from_one (Ok millis) = if millis == 0 then Err Period else Ok millis
from_one (Err fault) = Err Period

abbrev pub text_period : Option (List ℕ) → Result ℕ Flaw
text_period None = Err Period
text_period (Some text) = from_one (duration_of text)

-- the duration that a value is, in milliseconds, one or more
unfoldable pub period_of : Data → Result ℕ Flaw
period_of d = text_period (as_str d)

abbrev pub needed_period : Option Data → Result ℕ Flaw
needed_period None = Err Period
needed_period (Some d) = period_of d

-- the duration in a member that is to be there
abbrev pub period_in : List ℕ → Data → Result ℕ Flaw
period_in name d = needed_period (part name d)

abbrev pub optional_period : Option Data → Result (Option ℕ) Flaw
optional_period None = Ok None
optional_period (Some d) = period_of d >>= λ millis. Ok (Some millis)

-- the duration in a member that may be absent
abbrev pub timeout_in : List ℕ → Data → Result (Option ℕ) Flaw
timeout_in name d = optional_period (part name d)
