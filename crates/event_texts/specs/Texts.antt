-- Accepted events with their texts, and which of them count.
use Rattle.std.specs.Prelude.{ℕ, ◌≡◌, ◌+◌, ◌==◌, Bool, false, ◌&&◌, not, List, [], ◌∷◌}
use Rattle.std.specs.Prelude.{length, filter, find, Option, Some, None}
use Rattle.std.specs.BTreeMap.{is_at}
use Rattle.std.specs.List.{list_any}
use Rattle.std.specs.Map.{values_of}
use Rattle.std.specs.Option.{is_some}
use Rattle.std.specs.Ordering.{nat_cmp}
use Rattle.lists.specs.Entries.{has}
use Rattle.lists.proofs.Stored.{IsStored}
use Rattle.event_texts.specs.declared.texts.EventText.{EventText}

pub record Texts : Type 0 where
  -- in order of number
  pub texts : List EventText
  -- the numbers of those that count
  pub counted : List ℕ

abbrev pub no_texts : Texts
no_texts = record { texts = []; counted = [] }

abbrev pub event_number : EventText → ℕ
event_number e = e.number

abbrev pub text_at : ℕ → List EventText → Option EventText
text_at number texts = find (has event_number number) texts

abbrev pub text_or_none : Option EventText → List ℕ
text_or_none None = []
text_or_none (Some e) = e.text

abbrev pub text_in : Option EventText → Option (List ℕ)
text_in None = None
text_in (Some e) = Some e.text

abbrev pub bytes_of_texts : List EventText → ℕ
bytes_of_texts [] = 0
bytes_of_texts (e ∷ es) = length e.text + bytes_of_texts es

abbrev pub has_number : List ℕ → ℕ → Bool
has_number ns n = list_any (is_at (nat_cmp n)) ns

abbrev pub counts : List ℕ → EventText → Bool
counts counted e = has_number counted e.number

abbrev pub counted_bytes : Texts → ℕ
counted_bytes t = bytes_of_texts (filter (counts t.counted) t.texts)

-- The event counts or doesn't from now on, where it is there, and nothing else changes.
pub record IsCounted (number : ℕ) (value : Bool) (old new : Texts) : Type 0 where
  pub texts : new.texts ≡ old.texts
  pub here : has_number new.counted number ≡ (value && is_some (text_at number old.texts))
  pub others : (n : ℕ) → (n == number) ≡ false → has_number new.counted n ≡ has_number old.counted n

-- An event that doesn't count goes.
pub record IsGone (number : ℕ) (old new : Texts) : Type 0 where
  pub texts : new.texts ≡ filter (λ e. not (has event_number number e)) old.texts
  pub counted : new.counted ≡ old.counted

-- what counts is there, and the sum is that of its bytes
pub record IsSummed (texts : List EventText) (counted : List ℕ) (bytes : ℕ) : Type 0 where
  pub there : (n : ℕ) → text_at n texts ≡ None → has_number counted n ≡ false
  pub sum : bytes ≡ bytes_of_texts (filter (counts counted) texts)

-- each event under its number, and the numbers and the sum as above
pub record IsHeld (pairs : List (ℕ × EventText)) (counted : List ℕ) (bytes : ℕ) : Type 0 where
  pub stored : IsStored nat_cmp event_number pairs
  pub summed : IsSummed (values_of pairs) counted bytes
