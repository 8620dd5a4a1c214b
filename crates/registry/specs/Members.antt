-- Members of a registration's objects, as `serde_json` reads them (RFC 8259): of several of one name the last.
use Rattle.std.specs.Prelude.{ℕ, ◌==◌, ◌&&◌, nat_le, if◌then◌else◌, Bool, List, [], ◌∷◌, ◌++◌, length, find, is_some, Option, Some, None, option_and_then, Result, Ok, Err}
use Rattle.serde_json.specs.Data.{Data, null, Items, no_items, item}
use Rattle.serde_json.specs.Events.{items_len}
use Rattle.serde_json.specs.Find.{get, as_array, as_object, as_str, as_number, as_u64}
use Rattle.registry.specs.Faults.{member_name}
use Rattle.registry.specs.declared.member.Member.{Member}

-- the next reading, unless this one told a fault
infixl 10 ◌>>=◌
abbrev pub ◌>>=◌ : {A B E : Type 0} → Result A E → (A → Result B E) → Result B E
Ok value >>= next = next value
Err fault >>= next = Err fault

-- what was found, or a fault
abbrev pub found_or : {A E : Type 0} → E → Option A → Result A E
found_or fault (Some value) = Ok value
found_or fault None = Err fault

-- the items, each read with those before it and put behind them; the first fault ends it
unfoldable pub read_behind : {A E : Type 0} → (List A → Data → Result A E) → List A → Items
    → Result (List A) E
read_behind read so_far no_items = Ok so_far
read_behind read so_far (item d ds) =
    read so_far d >>= λ value. read_behind read (so_far ++ value ∷ []) ds

-- ## Parts of a value

abbrev pub is_object : Data → Bool
is_object d = is_some (as_object d)

-- a member that is null counts as absent
abbrev pub present : Option Data → Option Data
present (Some null) = None
present found = found

-- the member of this name, where the value is an object that has it; what is no object has no members
abbrev pub part : List ℕ → Data → Option Data
part name d = present (get name d)

-- the member of this name, where it is an array
abbrev pub array_in : List ℕ → Data → Option Items
array_in name d = option_and_then as_array (part name d)

-- an array with so many items
abbrev pub has_count : ℕ → ℕ → Items → Bool
has_count least most ds = nat_le least (items_len ds) && nat_le (items_len ds) most

-- the first of these members that is there
abbrev pub first_present : List Member → Data → Option Member
first_present members d = find (λ m. is_some (part (member_name m) d)) members

-- ## Texts and numbers

abbrev pub not_empty : List ℕ → Option (List ℕ)
not_empty text = if length text == 0 then None else Some text

-- the member of this name, where it is a text that isn't empty
abbrev pub text_in : List ℕ → Data → Option (List ℕ)
text_in name d = option_and_then not_empty (option_and_then as_str (part name d))

abbrev pub within : ℕ → ℕ → ℕ → Option ℕ
within least most n = if nat_le least n && nat_le n most then Some n else None

-- a whole number in this range, written without sign, fraction or exponent
abbrev pub whole : ℕ → ℕ → Data → Option ℕ
whole least most d = option_and_then (within least most) (option_and_then as_u64 (as_number d))

-- the same in a member of this name
abbrev pub whole_in : ℕ → ℕ → List ℕ → Data → Option ℕ
whole_in least most name d = option_and_then (whole least most) (part name d)
