-- The code's steps of the rules as the definition's.
use Rattle.std.specs.Prelude.{List}
use Rattle.cel_parse.specs.declared.rules.Shape.{Shape}
use Rattle.cel_parse.specs.declared.rules.Taken as code
use Rattle.cel_parse.specs.declared.rules.Taken.TheVariants as taken
use Rattle.cel_parse.specs.Rules.{Taken, stops, takes}

-- with these shapes open behind it
abbrev pub taken_of : code.Taken → List Shape → Taken
taken_of taken.Stops os = stops
taken_of (taken.Takes place s) os = takes place os s
