-- What the maps of the windows hold.
use Rattle.std.specs.Prelude.{◌≡◌, ℕ, ◌==◌, Bool, ◌&&◌, List, [], ◌∷◌, Option}
use Rattle.std.specs.BTreeMap.{is_at}
use Rattle.std.specs.Cmp.Lexicographic.{slice_cmp}
use Rattle.std.specs.List.{AllByRecursion}
use Rattle.std.specs.Map.{lookup, values_of}
use Rattle.std.specs.Ordering.{nat_cmp, ordering_then}
use Rattle.std.specs.Str.{bytes_eq}
use Rattle.std.specs.declared.cmp.Ordering.{Ordering}
use Rattle.lists.specs.Entries.{AreApart}
use Rattle.ordered.specs.Indexes.{IsSorted, IsPlaced}
use Rattle.kinds.specs.Windows.{number_of, version_of, value_of, kind_of, place_of, IsDated}
use Rattle.kinds.specs.declared.window.Window.{Window}
use Rattle.kinds.specs.declared.window.Window.TheVariants as window

-- beside a debounce stands the list of its one event, beside a batch an empty list
abbrev pub IsAlone : Window → List ℕ → Type 0
IsAlone (window.Debounce number version value event first due) alone = alone ≡ event ∷ []
IsAlone (window.Batch number version value events due) alone = Unit {0}

-- ---- a function version and a value of its rule's key

abbrev pub key_of : Window → ℕ × List ℕ
key_of w = (version_of w, value_of w)

abbrev pub key_eq : ℕ × List ℕ → ℕ × List ℕ → Bool
key_eq a b = (a.0 == b.0) && bytes_eq a.1 b.1

abbrev pub key_cmp : ℕ × List ℕ → ℕ × List ℕ → Ordering
key_cmp a b = ordering_then (nat_cmp a.0 b.0) (slice_cmp nat_cmp a.1 b.1)

-- ---- the windows, and where each key's stands

pub record AreOpen (ws : List Window) (look : ℕ × List ℕ → Option (ℕ × ℕ)) : Type 0 where
  pub placed : IsPlaced key_eq key_of place_of ws look
  pub apart : AreApart number_of ws
  pub dated : AllByRecursion IsDated ws

pub record AreHeld
    (windows : List ((ℕ × ℕ) × Window))
    (places : List ((ℕ × List ℕ) × (ℕ × ℕ))) : Type 0 where
  pub sorted : IsSorted kind_of number_of windows
  pub open_by : AreOpen (values_of windows) (λ key. lookup (is_at (key_cmp key)) places)
