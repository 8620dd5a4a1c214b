-- Lists of entries that have numbers as parts of theirs: what finds and drops an entry, and where a new one
-- goes. A part is a function of the entry, so that each store reads these words at its own fields.
use Rattle.std.specs.Prelude.{◌≡◌, ℕ, ◌==◌, Bool, not, List, [], ◌∷◌, filter, find, map, nat_le, if◌then◌else◌, Option, None, MatchOption, ⊤}
use Rattle.std.specs.Ordering.{nat_cmp, ordering_then, is_lt}
use Rattle.std.specs.declared.cmp.Ordering.{Ordering}
use Rattle.std.specs.List.Sorted.{IsStrictlySortedBy}
use Rattle.std.specs.BTreeSet.{insert_key}

-- ---- one part

abbrev pub has : {X : Type 0} → (X → ℕ) → ℕ → X → Bool
has part n e = n == part e

-- the entries whose part is another
abbrev pub without : {X : Type 0} → (X → ℕ) → ℕ → List X → List X
without part n es = filter (λ e. not (has part n e)) es

-- what stands after an entry was taken out, or none
abbrev pub Leaves : {X : Type 0} → (X → ℕ) → List X → Option X → List X → Type 0
Leaves number old taken new = MatchOption taken (new ≡ old) (λ e. new ≡ without number (number e) old)

-- the rank is reached: a moment is due, a number isn't greater
abbrev pub is_due : {X : Type 0} → (X → ℕ) → ℕ → X → Bool
is_due rank t e = nat_le (rank e) t

-- ---- an order by two parts, the rank first

abbrev pub pair_cmp : ℕ × ℕ → ℕ × ℕ → Ordering
pair_cmp a b = ordering_then (nat_cmp a.0 b.0) (nat_cmp a.1 b.1)

abbrev pub key_of : {X : Type 0} → (X → ℕ) → (X → ℕ) → X → ℕ × ℕ
key_of rank number e = (rank e, number e)

-- the entry in its place, where entries stand in order of rank and number
abbrev pub insert_in : {X : Type 0} → (X → ℕ) → (X → ℕ) → X → List X → List X
insert_in rank number x [] = x ∷ []
insert_in rank number x (e ∷ es) =
    if is_lt (pair_cmp (key_of rank number x) (key_of rank number e)) then x ∷ e ∷ es
    else e ∷ insert_in rank number x es

abbrev pub IsInOrder : {X : Type 0} → (X → ℕ) → (X → ℕ) → List X → Type 0
IsInOrder rank number es = IsStrictlySortedBy pair_cmp (map (key_of rank number) es)

-- ---- keys that no two entries share

abbrev pub by_key : {X K : Type 0} → (K → K → Bool) → (X → K) → K → X → Bool
by_key eq key k e = eq k (key e)

abbrev pub AreApartBy : {X K : Type 0} → (K → K → Bool) → (X → K) → List X → Type 0
AreApartBy eq key [] = ⊤
AreApartBy eq key (e ∷ es) = (find (by_key eq key (key e)) es ≡ None) × AreApartBy eq key es

abbrev pub AreApart : {X : Type 0} → (X → ℕ) → List X → Type 0
AreApart number es = AreApartBy (λ a b. a == b) number es

-- ---- numbers alone

-- the entry in its place, where entries stand in order of number
abbrev pub insert_by : {X : Type 0} → (X → ℕ) → X → List X → List X
insert_by number x [] = x ∷ []
insert_by number x (e ∷ es) =
    if is_lt (nat_cmp (number x) (number e)) then x ∷ e ∷ es else e ∷ insert_by number x es

-- a number among others that stand in order, each once
abbrev pub add_number : ℕ → List ℕ → List ℕ
add_number n ns = insert_key nat_cmp ns n

abbrev pub add_numbers : List ℕ → List ℕ → List ℕ
add_numbers [] ns = ns
add_numbers (m ∷ ms) ns = add_numbers ms (add_number m ns)

-- numbers in order, each once
abbrev pub in_order : List ℕ → List ℕ
in_order ns = add_numbers ns []
