-- How the words of a command are read, by what `clap` states of a simple command.
use Rattle.std.specs.Prelude.{ℕ, ◌≡◌, ⊤, Bool, false, List, [], ◌∷◌, map, Option, Some, None, Result, Ok, Err}
use Rattle.std.specs.Prelude.{String, codes, string_bytes, option_map}
use Rattle.std.specs.Option.{option_map_or}
use Rattle.std.specs.Str.{bytes_eq}
use Rattle.std.specs.Str.Parse.{digits_value, without_leading_plus}
use Rattle.std.specs.declared.alloc.Global.{Global}
use Rattle.clap.specs.Words.{App, Kinds, Row, Text, fault_of, matches_of, one_of}
use Rattle.words.specs.declared.fault.WordsFault.{WordsFault}
use Rattle.words.specs.declared.fault.WordsFault.TheVariants.{Usage, Memory}

-- ## What a parse found

-- the flag was given
abbrev pub is_true : Option Text → Bool
is_true text = option_map_or (λ t. bytes_eq t (codes "true")) text false

abbrev pub flag_of : Text → List Row → Bool
flag_of id rows = is_true (one_of id rows)

-- the number of an option, where it was given
abbrev pub number_in : Text → ℕ
number_in text = digits_value 10 (without_leading_plus text)

abbrev pub number_of : Text → List Row → Option ℕ
number_of id rows = option_map number_in (one_of id rows)

-- ## The words of a program

-- what is found, where no step of the parse refuses a word
abbrev pub unless_refused : {W : Type 0} → Kinds → W → Option W
unless_refused [] found = Some found
unless_refused (kind ∷ kinds) found = None

-- what the words of a command ask for, and nothing where it refuses them
abbrev pub words_of : {W : Type 0} → App → (List Row → W) → List Text → Option W
words_of app found texts = unless_refused (fault_of app texts) (found (matches_of app texts))

abbrev pub texts_of : List (String Global) → List Text
texts_of = map string_bytes

-- The answer is what the words ask for, and `Usage` exactly where they are refused.
abbrev pub IsRead : {W : Type 0} → Option W → Result W WordsFault → Type 0
IsRead asked (Ok words) = asked ≡ Some words
IsRead asked (Err Usage) = asked ≡ None
IsRead asked (Err Memory) = ⊤
