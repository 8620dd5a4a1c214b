-- Functions by version: those that are current, and those that no longer are.
use Rattle.std.specs.Prelude.{ℕ, ◌≢◌, ◌==◌, List, [], ◌++◌, find, Option}
use Rattle.std.specs.List.Sorted.{IsStrictlySortedBy}
use Rattle.std.specs.Map.{values_of}
use Rattle.std.specs.Ordering.{nat_cmp}
use Rattle.std.specs.declared.cmp.Ordering.{Ordering}
use Rattle.lists.proofs.Stored.{IsStored}
use Rattle.functions.specs.Functions.{version_of}
use Rattle.functions.specs.declared.entry.FunctionEntry.{FunctionEntry}
use Rattle.run_model.specs.Laws.{IsIn}

-- each in order of version
pub record Versions : Type 0 where
  pub current : List FunctionEntry
  pub retired : List FunctionEntry

abbrev pub no_versions : Versions
no_versions = record { current = []; retired = [] }

abbrev pub version_at : ℕ → Versions → Option FunctionEntry
version_at version vs = find (λ (f : FunctionEntry). version == f.version) (vs.current ++ vs.retired)

abbrev pub by_version : FunctionEntry → FunctionEntry → Ordering
by_version f g = nat_cmp f.version g.version

-- no function of the one list has the version of one of the other
abbrev pub HaveOtherVersions : List FunctionEntry → List FunctionEntry → Type 0
HaveOtherVersions fs gs = (f g : FunctionEntry) → IsIn f fs → IsIn g gs → f.version ≢ g.version

-- functions in order, whose versions no other has
pub record AreFresh (fs : List FunctionEntry) (vs : Versions) : Type 0 where
  pub ordered : IsStrictlySortedBy by_version fs
  pub current : HaveOtherVersions fs vs.current
  pub retired : HaveOtherVersions fs vs.retired

-- each retired one stands under its version, and none is current
pub record AreVersioned (current : List FunctionEntry)
    (entries : List (ℕ × FunctionEntry)) : Type 0 where
  pub ordered : IsStrictlySortedBy by_version current
  pub stored : IsStored nat_cmp version_of entries
  pub apart : HaveOtherVersions current (values_of entries)
