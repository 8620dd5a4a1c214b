-- The dues of entries that stand in a list, and which of the entries is due first.
use Rattle.std.specs.Prelude.{ℕ, ◌==◌, Bool, ◌&&◌, ◌||◌, List, [], ◌∷◌, Option, Some, None, nat_lt, if◌then◌else◌}
use Rattle.kinds.specs.Stores.{due_at, insert_due}
use Rattle.kinds.specs.declared.store.Due.{Due}

-- ## The dues

abbrev pub put_due : Option ℕ → ℕ → ℕ → List Due → List Due
put_due None number run ds = ds
put_due (Some due) number run ds = insert_due (due_at due number run) ds

-- the dues of the entries that have one, in order of due and number
abbrev pub dues_of : {X : Type 0} → (X → Option ℕ) → (X → ℕ) → (X → ℕ) → List X → List Due
dues_of due number run [] = []
dues_of due number run (x ∷ xs) = put_due (due x) (number x) (run x) (dues_of due number run xs)

-- ## What is due first

-- an entry, and when it is due
pub record DueEntry (X : Type 0) : Type 0 where
  pub due : ℕ
  pub entry : X

abbrev pub comes_before : {X : Type 0} → (X → ℕ) → DueEntry X → DueEntry X → Bool
comes_before number a b =
    nat_lt a.due b.due || ((a.due == b.due) && nat_lt (number a.entry) (number b.entry))

abbrev pub earlier : {X : Type 0} → (X → ℕ) → DueEntry X → Option (DueEntry X) → Option (DueEntry X)
earlier number a None = Some a
earlier number a (Some b) = if comes_before number b a then Some b else Some a

abbrev pub with_due : {X : Type 0} → (X → ℕ) → X → Option ℕ → Option (DueEntry X) → Option (DueEntry X)
with_due number e None next = next
with_due number e (Some due) next = earlier number (record { due = due; entry = e }) next

-- The least by due and number of the entries that have a due; of those that tie the first.
abbrev pub least_due : {X : Type 0} → (X → Option ℕ) → (X → ℕ) → List X → Option (DueEntry X)
least_due due number [] = None
least_due due number (e ∷ es) = with_due number e (due e) (least_due due number es)

abbrev pub as_due : {X : Type 0} → (X → ℕ) → (X → ℕ) → DueEntry X → Due
as_due number run a = due_at a.due (number a.entry) (run a.entry)

-- ## Entries of one kind among others

abbrev pub seen_as : {X Y : Type 0} → (X → Y) → DueEntry X → DueEntry Y
seen_as f a = record { due = a.due; entry = f a.entry }

abbrev pub earlier_of : {X : Type 0} → (X → ℕ) → Option (DueEntry X) → Option (DueEntry X)
    → Option (DueEntry X)
earlier_of number None b = b
earlier_of number (Some a) b = earlier number a b
