-- A list of runs after a note on a name, over the answer of the call.
use Rattle.std.proofs.Common.{◌≡◌, ℕ, Bool, cond, List, sym, ap, subst}
use Rattle.std.specs.Map.{values_of}
use Rattle.std.specs.Prelude.{IfOk, OnErr, Result, Ok, Err}
use Rattle.runs.specs.Changes.{changed, if_new}
use Rattle.runs.specs.Indexes.{IsIndexed, changed_at}
use Rattle.runs.specs.Runs.{Run, AreDisjoint, bytes_of_steps}
use Rattle.runs.specs.declared.naming.Naming.{Naming}
use Rattle.runs.specs.declared.naming.Naming.TheVariants.{New, Known, Full}
use Rattle.runs.proofs.Listed.{disjoint_cond, disjoint_if_new, indexed_changed}

-- what changes leaves the number, the events, the function and the results
pub record Keeps (f : Run → Run) : Type 0 where
  pub number : (r : Run) → (f r).number ≡ r.number
  pub events : (r : Run) → (f r).events ≡ r.events
  pub version : (r : Run) → (f r).version ≡ r.version
  pub results : (r : Run) → bytes_of_steps (f r).steps.recorded ≡ bytes_of_steps r.steps.recorded

module _ (old : List (ℕ × Run)) (bytes : ℕ) (events versions : List (ℕ × ℕ)) (i : IsIndexed old bytes events versions) (new : List (ℕ × Run)) (number : ℕ) (f : Run → Run) (k : Keeps f) where
  same : new ≡ old → IsIndexed new bytes events versions
  same e = subst (λ es. IsIndexed es bytes events versions) (sym e) i

  by_naming : (n : Naming) → new ≡ if_new n (changed_at number f old) old → (values_of new ≡ if_new n (changed number f (values_of old)) (values_of old)) × IsIndexed new bytes events versions
  by_naming New e = indexed_changed old bytes events versions i new number f k.number k.events k.version k.results e
  by_naming Known e = (ap values_of e, same e)
  by_naming Full e = (ap values_of e, same e)

  pub noted_indexed : {E : Type 0} (res : Result Naming E) → IfOk res (λ n. new ≡ if_new n (changed_at number f old) old) → OnErr res (new ≡ old) → IsIndexed new bytes events versions
  noted_indexed (Ok n) e x = (by_naming n e).1
  noted_indexed (Err y) e x = same x

  pub noted_values : {E : Type 0} (res : Result Naming E) → IfOk res (λ n. new ≡ if_new n (changed_at number f old) old) → IfOk res (λ n. values_of new ≡ if_new n (changed number f (values_of old)) (values_of old))
  noted_values (Ok n) e = (by_naming n e).0
  noted_values (Err y) e = tt

pub failed_values : {E : Type 0} (old new : List (ℕ × Run)) (res : Result Naming E) → OnErr res (new ≡ old) → OnErr res (values_of new ≡ values_of old)
failed_values old new (Ok n) x = tt
failed_values old new (Err y) x = ap values_of x

-- ---- beside another list

module _ (number : ℕ) (f : Run → Run) (keeps : (r : Run) → (f r).number ≡ r.number) (live new closing : List Run) (d : AreDisjoint live closing) where
  pub disjoint_noted : {E : Type 0} (res : Result Naming E) → IfOk res (λ n. new ≡ if_new n (changed number f live) live) → OnErr res (new ≡ live) → AreDisjoint new closing
  disjoint_noted (Ok n) e x = disjoint_if_new n number f keeps live new closing e d
  disjoint_noted (Err y) e x = subst (λ xs. AreDisjoint xs closing) (sym x) d

  pub disjoint_woken : {E : Type 0} (res : Result Bool E) → IfOk res (λ b. new ≡ cond b (changed number f live) live) → OnErr res (new ≡ live) → AreDisjoint new closing
  disjoint_woken (Ok b) e x = disjoint_cond b number f keeps live new closing e d
  disjoint_woken (Err y) e x = subst (λ xs. AreDisjoint xs closing) (sym x) d
