-- The error objects that the server makes itself.
use Rattle.std.specs.Prelude.{ℕ, List, ◌++◌, codes}

-- the error with a message that has no `"`, `\` or control byte
abbrev pub error_object : List ℕ → List ℕ
error_object message = codes "{\"name\":\"Error\",\"message\":\"" ++ message ++ codes "\"}"
