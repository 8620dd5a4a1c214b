-- The texts of answers.
use Rattle.std.specs.Prelude.{ℕ, List, [], ◌++◌, Option, Some, None, codes, decimal, map}
use Rattle.std.specs.List.{join_with_byte}
use Rattle.kinds.specs.declared.out.Out.{Out}
use Rattle.kinds.specs.declared.out.Out.TheVariants.{Answer}

-- the id of the event with this number, in quotes
abbrev pub quoted_id : ℕ → List ℕ
quoted_id number = codes "\"evt-" ++ decimal number ++ codes "\""

-- the ids of the events that a request brought, in order, parted by commas (44)
abbrev pub ids_body : List ℕ → List ℕ
ids_body numbers =
    codes "{\"ids\":[" ++ join_with_byte 44 (map quoted_id numbers) ++ codes "],\"status\":200}"

abbrev pub ids_answer : List ℕ → Out
ids_answer numbers = Answer 200 (ids_body numbers)

-- the member `at`, where there is a number
abbrev pub at_member : Option ℕ → List ℕ
at_member None = []
at_member (Some number) = codes ",\"at\":" ++ decimal number

abbrev pub error_begun : List ℕ → List ℕ
error_begun word = codes "{\"error\":\"" ++ word ++ codes "\""

abbrev pub error_ended : Option ℕ → ℕ → List ℕ
error_ended at status = at_member at ++ codes ",\"status\":" ++ decimal status ++ codes "}"

abbrev pub error_answer : ℕ → List ℕ → Option ℕ → Out
error_answer status word at = Answer status (error_begun word ++ error_ended at status)

-- the function of a registration that is at fault, and its member
abbrev pub function_member : ℕ → List ℕ → List ℕ
function_member function member =
    codes ",\"function\":" ++ decimal function ++ codes ",\"member\":\"" ++ member ++ codes "\""

abbrev pub function_error_answer : ℕ → List ℕ → ℕ → List ℕ → Option ℕ → Out
function_error_answer status word function member at =
    Answer status (error_begun word ++ function_member function member ++ error_ended at status)
