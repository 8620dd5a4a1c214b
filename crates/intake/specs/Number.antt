-- An entry by its number.
use Rattle.std.specs.Prelude.{ℕ, ◌==◌, Bool, not, List, filter}
use Rattle.kinds.specs.declared.seen.SeenEntry.{SeenEntry}

abbrev pub number_of : SeenEntry → ℕ
number_of entry = entry.number

abbrev pub has_number : ℕ → SeenEntry → Bool
has_number number entry = number == entry.number

abbrev pub without_number : ℕ → List SeenEntry → List SeenEntry
without_number number entries = filter (λ e. not (has_number number e)) entries
