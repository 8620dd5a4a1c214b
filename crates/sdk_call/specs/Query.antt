-- The query of a call: what was registered, with the function and the target of this call.
use Rattle.std.specs.Prelude.{ℕ, suc, ◌+◌, ◌==◌, Bool, not, ◌||◌, List, [], ◌∷◌, ◌++◌, codes, filter, take, length, Option, Some, None, if◌then◌else◌}
use Rattle.std.specs.List.{join_with_byte}
use Rattle.std.specs.Str.{bytes_eq}

-- how many bytes stand before the first one of a kind
abbrev pub until : ℕ → List ℕ → ℕ
until byte [] = 0
until byte (x ∷ xs) = if x == byte then 0 else suc (until byte xs)

-- one byte more in front of the first piece
abbrev pub in_front : ℕ → List (List ℕ) → List (List ℕ)
in_front x [] = (x ∷ []) ∷ []
in_front x (piece ∷ pieces) = (x ∷ piece) ∷ pieces

-- a text cut at each byte of a kind: always one piece more than there are such bytes
abbrev pub cut_at : ℕ → List ℕ → List (List ℕ)
cut_at byte [] = [] ∷ []
cut_at byte (x ∷ xs) = if x == byte then [] ∷ cut_at byte xs else in_front x (cut_at byte xs)

-- a query's pieces stand between `&`s (38); an empty query has none
abbrev pub pieces : List ℕ → List (List ℕ)
pieces [] = []
pieces (x ∷ xs) = cut_at 38 (x ∷ xs)

-- what stands before the first `=` (61)
abbrev pub name_of : List ℕ → List ℕ
name_of piece = take (until 61 piece) piece

-- each call has its own function and target
abbrev pub is_kept : List ℕ → Bool
is_kept piece =
    not (bytes_eq (name_of piece) (codes "fnId") || bytes_eq (name_of piece) (codes "stepId"))

abbrev pub call_query : List ℕ → List ℕ → List ℕ → List ℕ
call_query query id target =
    join_with_byte 38
    (filter is_kept (pieces query) ++ (codes "fnId=" ++ id) ∷ (codes "stepId=" ++ target) ∷ [])

-- pieces with a `&` behind each
abbrev pub ended : List (List ℕ) → List ℕ
ended [] = []
ended (piece ∷ pieces) = piece ++ 38 ∷ ended pieces

-- what is left of a query, where anything is: its pieces, and a measure of it
abbrev pub pieces_left : Option (List ℕ) → List (List ℕ)
pieces_left None = []
pieces_left (Some rest) = cut_at 38 rest

abbrev pub bytes_left : Option (List ℕ) → ℕ
bytes_left None = 0
bytes_left (Some rest) = suc (length rest)

-- what stands behind the first byte, where there is one
abbrev pub behind_first : List ℕ → Option (List ℕ)
behind_first [] = None
behind_first (x ∷ xs) = Some xs
