-- A function is one of those that stay exactly where it is one of all and this one stays.
use Rattle.std.proofs.Common.{◌≡◌, ◌≤◌, ℕ, refl, ap, arith, Bool, true, false, not, ◌&&◌, ◌||◌, List, [], ◌∷◌, filter, length, bytes_eq}
use Rattle.std.specs.List.{list_any}
use Rattle.kinds.specs.declared.function.App.{App}
use Rattle.kinds.specs.declared.function.Function.{Function}
use Rattle.functions.specs.declared.entry.FunctionEntry.{FunctionEntry}
use Rattle.functions.specs.Functions.{is_known, new_beside, same, stands_for, stays}
use Rattle.std.proofs.lemmas.List.Filters.{length-filter_both}

one_kept : {X : Type 0} (keeps p : X → Bool) (x : X) (xs : List X) (b : Bool) → keeps x ≡ b
    → list_any p (filter keeps xs) ≡ list_any (λ y. keeps y && p y) xs
    → list_any p (filter keeps (x ∷ xs)) ≡ list_any (λ y. keeps y && p y) (x ∷ xs)
one_kept keeps p x xs true e ih = rw e (ap (λ r. p x || r) ih)
one_kept keeps p x xs false e ih = rw e ih

any_kept : {X : Type 0} (keeps p : X → Bool) (xs : List X) → list_any p (filter keeps xs) ≡ list_any (λ x. keeps x && p x) xs
any_kept keeps p [] = refl
any_kept keeps p (x ∷ xs) = one_kept keeps p x xs (keeps x) refl (any_kept keeps p xs)

pub known_kept : (app : App) (f : Function) (es : List FunctionEntry) → is_known app.name (filter (stays app) es) f ≡ list_any (stands_for app f) es
known_kept app f es = any_kept (stays app) (λ (e : FunctionEntry). bytes_eq e.app app.name && same f e.function) es

-- no more functions are new than there are
pub new_short : (kept : List FunctionEntry) (name : List ℕ) (fs : List Function) → length (new_beside kept name fs) ≤ length fs
new_short kept name fs = let both = length-filter_both (λ f. not (is_known name kept f)) (λ f. not (not (is_known name kept f))) (λ f. refl) fs in omega (arith, both)
