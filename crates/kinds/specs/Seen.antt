-- Remembered event ids: an id that was accepted tells a repeated event for one day.
use Rattle.std.specs.Prelude.{ℕ, ◌+◌, ◌-◌, Bool, not, ◌&&◌, List, [], ◌∷◌, length, find, filter, Option, nat_lt, if◌then◌else◌}
use Rattle.std.specs.Option.{option_map}
use Rattle.std.specs.Str.{bytes_eq}
use Rattle.kinds.specs.declared.seen.SeenEntry.{SeenEntry}

-- a day, in milliseconds
abbrev pub window : ℕ
window = 86400000

-- Less than a day has passed since the entry. A moment before it counts as inside: the difference stops at 0.
abbrev pub is_remembered : ℕ → SeenEntry → Bool
is_remembered moment entry = nat_lt (moment - entry.moment) window

abbrev pub has_id : List ℕ → SeenEntry → Bool
has_id id entry = bytes_eq id entry.id

-- the number of the event that has this id, where it is remembered at the moment
abbrev pub find_seen : List ℕ → ℕ → List SeenEntry → Option ℕ
find_seen id moment entries =
    option_map (λ (e : SeenEntry). e.number) (find (λ e. has_id id e && is_remembered moment e) entries)

-- the entries that outlast a moment
abbrev pub remembered : ℕ → List SeenEntry → List SeenEntry
remembered moment entries = filter (is_remembered moment) entries

-- the entries that aren't of this id
abbrev pub without_id : List ℕ → List SeenEntry → List SeenEntry
without_id id entries = filter (λ e. not (has_id id e)) entries

-- the entry in its place, where entries stand by number
abbrev pub insert_seen : SeenEntry → List SeenEntry → List SeenEntry
insert_seen entry [] = entry ∷ []
insert_seen entry (e ∷ es) =
    if nat_lt entry.number e.number then entry ∷ e ∷ es else e ∷ insert_seen entry es

-- A new entry takes the place of one of its id.
abbrev pub note_seen : SeenEntry → List SeenEntry → List SeenEntry
note_seen entry entries = insert_seen entry (without_id entry.id entries)

-- what the entries count against the limit of kept bytes: each id's length and 64
abbrev pub weight_of : List SeenEntry → ℕ
weight_of [] = 0
weight_of (e ∷ es) = length e.id + 64 + weight_of es
