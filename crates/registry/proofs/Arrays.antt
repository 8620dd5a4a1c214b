-- Arrays as `serde_json` keeps them: what is read of their items, one after the other.
use Rattle.std.proofs.Common.{◌≡◌, ◌⊎◌, ◌∙◌, ℕ, ◌+◌, ◌<◌, ◌≤◌, ◌&&◌, nat_le, List, [], ◌∷◌, ◌++◌, length, drop, get_or, add-one, drop-cons, Result, Ok, Err, refl, sym, inl, inr, arith}
use Rattle.std.proofs.lemmas.List.{drop_all}
use Rattle.serde_json.proofs.Views.{items_len-items_view}
use Rattle.serde_json.specs.Data.{Data}
use Rattle.serde_json.specs.View.{items_view, view}
use Rattle.serde_json.specs.declared.value.Value.{Value}
use Rattle.registry.specs.Flows.{listed_limits}
use Rattle.registry.specs.Members.{◌>>=◌, has_count, read_behind}
use Rattle.registry.specs.declared.flaw.Flaw.TheVariants as flaw

pub counts : (vs : List Value) (least most : ℕ) → has_count least most (items_view vs) ≡ (nat_le least (length vs) && nat_le (length vs) most)
counts vs least most = rw (items_len-items_view vs) refl

-- three limits or more
pub too_many : (vs : List Value) → 3 ≤ length vs → listed_limits (items_view vs) ≡ Err flaw.TooManyLimits
too_many [] h = absurd (omega arith)
too_many (u ∷ []) h = absurd (omega arith)
too_many (u ∷ v ∷ []) h = absurd (omega arith)
too_many (u ∷ v ∷ w ∷ vs) h = refl

-- the item in a place is read before those behind it
pub reads_item : {A E : Type 0} (read : List A → Data → Result A E) (xs : List A) (vs : List Value) (i : ℕ) (v : Value)
    → i < length vs → v ≡ get_or vs i v
    → read_behind read xs (items_view (drop i vs)) ≡ (read xs (view v) >>= λ x. read_behind read (xs ++ x ∷ []) (items_view (drop (i + 1) vs)))
unfolding read_behind
reads_item read xs vs i v h is = rw (add-one, drop-cons vs i v h, ← is) refl

pub after_item : {A E : Type 0} (read : List A → Data → Result A E) (whole : Result (List A) E) (xs : List A) (vs : List Value) (i : ℕ) (v : Value) (x : A)
    → read_behind read xs (items_view (drop i vs)) ≡ whole → i < length vs → v ≡ get_or vs i v → read xs (view v) ≡ Ok x
    → read_behind read (xs ++ x ∷ []) (items_view (drop (i + 1) vs)) ≡ whole
after_item read whole xs vs i v x so_far h is one = rw one at (sym (reads_item read xs vs i v h is)) ∙ so_far

pub at_fault : {A E : Type 0} (read : List A → Data → Result A E) (memory : E) (whole : Result (List A) E) (xs : List A) (vs : List Value) (i : ℕ) (v : Value) (e : E)
    → read_behind read xs (items_view (drop i vs)) ≡ whole → i < length vs → v ≡ get_or vs i v → (read xs (view v) ≡ Err e) ⊎ (e ≡ memory)
    → (whole ≡ Err e) ⊎ (e ≡ memory)
at_fault read memory whole xs vs i v e so_far h is (inl one) = inl (sym so_far ∙ (reads_item read xs vs i v h is ∙ rw one refl))
at_fault read memory whole xs vs i v e so_far h is (inr starved) = inr starved

pub at_end : {A E : Type 0} (read : List A → Data → Result A E) (whole : Result (List A) E) (xs : List A) (vs : List Value) (i : ℕ)
    → read_behind read xs (items_view (drop i vs)) ≡ whole → length vs ≤ i → whole ≡ Ok xs
unfolding read_behind
at_end read whole xs vs i so_far h = sym so_far ∙ rw (drop_all i vs h) refl
