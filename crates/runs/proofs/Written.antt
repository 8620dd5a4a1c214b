-- A run of a map that was written through a look-up.
use Rattle.std.proofs.Common.{◌≡◌, ℕ, Bool, true, false, cond, List, [], ◌∷◌, Some, None, refl, sym, ap, ◌∙◌}
use Rattle.std.specs.BTreeMap.{is_at}
use Rattle.std.specs.Map.{set_value}
use Rattle.std.specs.Ordering.{nat_cmp}
use Rattle.std.specs.Prelude.{IfOk, OnOk, OnErr, Result, Ok, Err}
use Rattle.std.proofs.lemmas.Map.Steps.{set_value_same}
use Rattle.std.proofs.lemmas.Option.{same_Some}
use Rattle.kinds.specs.RunSteps.{Noting}
use Rattle.runs.specs.Changes.{IsNoted, if_new}
use Rattle.runs.specs.Indexes.{changed_at, held}
use Rattle.runs.specs.Runs.{Run}
use Rattle.runs.specs.declared.naming.Naming.{Naming}
use Rattle.runs.specs.declared.naming.Naming.TheVariants.{New, Known, Full}

-- what was written through a look-up
pub written : (number : ℕ) (f : Run → Run) (r w : Run) (es : List (ℕ × Run)) → Some r ≡ held number es → w ≡ f r → set_value (is_at (nat_cmp number)) es w ≡ changed_at number f es
written number f r w [] h e = refl
written number f r w (x ∷ es) h e = by_test (is_at (nat_cmp number) x.0) h (written number f r w es)
  where
    by_test : (b : Bool) → Some r ≡ cond b (Some x.1) (held number es) → (Some r ≡ held number es → w ≡ f r → set_value (is_at (nat_cmp number)) es w ≡ changed_at number f es)
        → cond b ((x.0, w) ∷ es) (x ∷ set_value (is_at (nat_cmp number)) es w) ≡ cond b ((x.0, f x.1) ∷ es) (x ∷ changed_at number f es)
    by_test true h more = ap (λ v. (x.0, v) ∷ es) (e ∙ ap f (same_Some r x.1 h))
    by_test false h more = ap (λ r. x ∷ r) (more h e)

pub unwritten : (number : ℕ) (f : Run → Run) (es : List (ℕ × Run)) → None ≡ held number es → changed_at number f es ≡ es
unwritten number f [] h = refl
unwritten number f (x ∷ es) h = by_test (is_at (nat_cmp number) x.0) h (unwritten number f es)
  where
    by_test : (b : Bool) → None ≡ cond b (Some x.1) (held number es) → (None ≡ held number es → changed_at number f es ≡ es) → cond b ((x.0, f x.1) ∷ es) (x ∷ changed_at number f es) ≡ x ∷ es
    by_test true h more = cc
    by_test false h more = ap (λ r. x ∷ r) (more h)

-- over the answer of a call
module _ (number : ℕ) (f : Run → Run) (r w : Run) (es new : List (ℕ × Run)) (h : Some r ≡ held number es) (e : new ≡ set_value (is_at (nat_cmp number)) es w) where
  same_at : w ≡ r → new ≡ es
  same_at k = e ∙ set_value_same (is_at (nat_cmp number)) es w (sym h ∙ ap (λ x. Some x) (sym k))

  changes_at : w ≡ f r → new ≡ changed_at number f es
  changes_at k = e ∙ written number f r w es h k

  by_naming : (n : Naming) → w ≡ if_new n (f r) r → new ≡ if_new n (changed_at number f es) es
  by_naming New k = changes_at k
  by_naming Known k = same_at k
  by_naming Full k = same_at k

  pub noted_at : {E : Type 0} (noting : Noting) (res : Result Naming E) → IfOk res (λ n. IsNoted noting (f r) r n w) → IfOk res (λ n. new ≡ if_new n (changed_at number f es) es)
  noted_at noting (Ok n) k = by_naming n k.now
  noted_at noting (Err x) k = tt

  pub woken_at : {A E : Type 0} (res : Result A E) → OnOk res (w ≡ f r) → OnOk res (new ≡ changed_at number f es)
  woken_at (Ok a) k = changes_at k
  woken_at (Err x) k = tt

  pub failed_at : {A E : Type 0} (res : Result A E) → OnErr res (w ≡ r) → OnErr res (new ≡ es)
  failed_at (Ok a) k = tt
  failed_at (Err x) k = same_at k
