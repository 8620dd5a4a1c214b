-- A fit state stays so where functions are registered.
use Rattle.std.proofs.Common.{◌≡◌, ℕ, ◌⊎◌, inl, inr, ◌+◌, ◌<◌, ◌≤◌, true, false, not, cond, List, [], ◌∷◌, ◌++◌, filter, length, refl, sym, ap, ◌∙◌, subst, arith}
use Rattle.std.specs.List.{AllByRecursion}
use Rattle.std.specs.Ordering.{is_lt, nat_cmp}
use Rattle.kinds.specs.declared.function.App.{App}
use Rattle.kinds.specs.declared.function.Function.{Function}
use Rattle.functions.specs.Functions.{is_known, new_in, numbered, registered, stays, version_of}
use Rattle.functions.specs.declared.entry.FunctionEntry.{FunctionEntry}
use Rattle.lists.proofs.Elements.{all-weaker}
use Rattle.lists.specs.Entries.{insert_by}
use Rattle.run_model.specs.Fit.{AreInRange, HasRoom, IsFit, IsFunctionFit, IsFunctionInRange, IsWindowFit}
use Rattle.run_model.specs.Laws.{IsIn}
use Rattle.run_model.specs.Machine.{insert_all, with_functions}
use Rattle.run_model.specs.State.{State}
use Rattle.run_model.proofs.FitCounts.{fit-functions}
use Rattle.run_model.proofs.Members.{in-all, in-back, in-either, in-filter, in-front}

-- ## Where a function of the lists after a registration comes from

pub in-inserted : (f g : FunctionEntry) (fs : List FunctionEntry) → IsIn g (insert_by version_of f fs)
    → (f ≡ g) ⊎ IsIn g fs
in-inserted f g [] (inl same) = inl same
in-inserted f g [] (inr there) = absurd there
in-inserted f g (e ∷ es) there =
    (elim (is_lt (nat_cmp f.version e.version))
    as (λ b. IsIn g (cond b (f ∷ e ∷ es) (e ∷ insert_by version_of f es)) → (f ≡ g) ⊎ IsIn g (e ∷ es)) [
      | true ↦ λ k. k
      | false ↦ λ k. behind k (in-inserted f g es)
    ]) there
  where
    moved : (f ≡ g) ⊎ IsIn g es → (f ≡ g) ⊎ IsIn g (e ∷ es)
    moved (inl same) = inl same
    moved (inr more) = inr (inr more)

    behind : IsIn g (e ∷ insert_by version_of f es) → (IsIn g (insert_by version_of f es) → (f ≡ g) ⊎ IsIn g es)
        → (f ≡ g) ⊎ IsIn g (e ∷ es)
    behind (inl same) next = inr (inl same)
    behind (inr more) next = moved (next more)

pub in-inserted_all : (g : FunctionEntry) (fs es : List FunctionEntry) → IsIn g (insert_all fs es)
    → IsIn g fs ⊎ IsIn g es
in-inserted_all g [] es there = inr there
in-inserted_all g (f ∷ fs) es there = back (in-inserted_all g fs (insert_by version_of f es) there)
  where
    own : (f ≡ g) ⊎ IsIn g es → IsIn g (f ∷ fs) ⊎ IsIn g es
    own (inl same) = inl (inl same)
    own (inr more) = inr more

    back : IsIn g fs ⊎ IsIn g (insert_by version_of f es) → IsIn g (f ∷ fs) ⊎ IsIn g es
    back (inl more) = inl (inr more)
    back (inr more) = own (in-inserted f g es more)

abbrev pub new_functions : App → State → List FunctionEntry
new_functions app s = numbered app.name s.versions (new_in app s.functions)

abbrev pub IsOldOrNew : App → State → FunctionEntry → Type 0
IsOldOrNew app s f = IsIn f (s.functions ++ s.retired) ⊎ IsIn f (new_functions app s)

pub old-or-new : (app : App) (s : State) (f : FunctionEntry)
    → IsIn f ((with_functions app s).functions ++ (with_functions app s).retired) → IsOldOrNew app s f
unfolding registered
old-or-new app s f there =
    in_lists (in-either f (registered app s.versions s.functions) (insert_all gone s.retired) there)
  where
    gone : List FunctionEntry
    gone = filter (λ f. not (stays app f)) s.functions

    in_current : IsIn f (filter (stays app) s.functions) ⊎ IsIn f (new_functions app s) → IsOldOrNew app s f
    in_current (inl old) =
        inl (in-front f s.functions s.retired (in-filter (stays app) f s.functions old))
    in_current (inr new) = inr new

    in_retired : IsIn f gone ⊎ IsIn f s.retired → IsOldOrNew app s f
    in_retired (inl old) =
        inl (in-front f s.functions s.retired (in-filter (λ f. not (stays app f)) f s.functions old))
    in_retired (inr old) = inl (in-back f s.functions s.retired old)

    in_lists : IsIn f (registered app s.versions s.functions) ⊎ IsIn f (insert_all gone s.retired)
        → IsOldOrNew app s f
    in_lists (inl current) = in_current
        (in-either f (filter (stays app) s.functions) (new_functions app s) current)
    in_lists (inr retired) = in_retired (in-inserted_all f gone s.retired retired)

-- ## New functions

-- a version that wasn't given before, and a function of the list
pub record IsNew (versions most : ℕ) (fs : List Function) (f : FunctionEntry) : Type 0 where
  pub over : versions < f.version
  pub low : f.version ≤ most
  pub given : IsIn f.function fs

pub is-new : (name : List ℕ) (versions : ℕ) (fs : List Function) (f : FunctionEntry)
    → IsIn f (numbered name versions fs) → IsNew versions (versions + length fs) fs f
is-new name versions [] f there = absurd there
is-new name versions (g ∷ gs) f (inl same) =
    subst (λ (k : FunctionEntry). IsNew versions (versions + length (g ∷ gs)) (g ∷ gs) k) same
    (record { over = omega arith; low = omega arith; given = inl refl })
is-new name versions (g ∷ gs) f (inr there) =
    let behind : IsNew (versions + 1) (versions + 1 + length gs) gs f = is-new name (versions + 1) gs f there in
    record {
      over = omega (arith, behind.over);
      low = omega (arith, behind.low);
      given = inr behind.given;
    }

new-once : (name : List ℕ) (versions : ℕ) (fs : List Function) (f g : FunctionEntry)
    → IsIn f (numbered name versions fs) → IsIn g (numbered name versions fs) → f.version ≡ g.version → f ≡ g
new-once name versions [] f g there also same = absurd there
new-once name versions (k ∷ ks) f g (inl a) (inl b) same = sym a ∙ b
new-once name versions (k ∷ ks) f g (inl a) (inr b) same =
    let first : versions + 1 ≡ f.version = ap (λ (e : FunctionEntry). e.version) a in
    let behind : IsNew (versions + 1) (versions + 1 + length ks) ks g = is-new name (versions + 1) ks g b in
    absurd (omega (arith, first, same, behind.over))
new-once name versions (k ∷ ks) f g (inr a) (inl b) same =
    let first : versions + 1 ≡ g.version = ap (λ (e : FunctionEntry). e.version) b in
    let behind : IsNew (versions + 1) (versions + 1 + length ks) ks f = is-new name (versions + 1) ks f a in
    absurd (omega (arith, first, same, behind.over))
new-once name versions (k ∷ ks) f g (inr a) (inr b) same = new-once name (versions + 1) ks f g a b same

-- ## A registration

module _ (app : App) (s : State) (ranges : AreInRange app) (h : IsFit s) where
  abbrev versions_after : ℕ
  versions_after = s.versions + length (new_in app s.functions)

  new-function : (f : FunctionEntry) → IsIn f (new_functions app s)
      → IsNew s.versions versions_after (new_in app s.functions) f
  new-function f new = is-new app.name s.versions (new_in app s.functions) f new

  each-after : (f : FunctionEntry) → IsOldOrNew app s f → IsFunctionFit versions_after f
  each-after f (inl old) =
      let fits : IsFunctionFit s.versions f = h.functions_fit.each f old in
      record { version = omega (arith, fits.version); range = fits.range }
  each-after f (inr new) = record {
    version = (new-function f new).low;
    range = in-all IsFunctionInRange f.function app.functions
        (in-filter (λ g. not (is_known app.name (filter (stays app) s.functions) g)) f.function app.functions
        (new-function f new).given) ranges;
  }

  one-after : (f g : FunctionEntry) → IsOldOrNew app s f → IsOldOrNew app s g → f.version ≡ g.version → f ≡ g
  one-after f g (inl a) (inl b) same = h.functions_fit.one f g a b same
  one-after f g (inl a) (inr b) same =
      absurd (omega (arith, same, (h.functions_fit.each f a).version, (new-function g b).over))
  one-after f g (inr a) (inl b) same =
      absurd (omega (arith, same, (h.functions_fit.each g b).version, (new-function f a).over))
  one-after f g (inr a) (inr b) same = new-once app.name s.versions (new_in app s.functions) f g a b same

  room-after : (f : FunctionEntry) → IsOldOrNew app s f → AllByRecursion (HasRoom f) s.windows
  room-after f (inl old) = h.windows_fit.room f old
  room-after f (inr new) =
      all-weaker (IsWindowFit s.events s.entries s.versions) (HasRoom f) s.windows
      (λ w (k : IsWindowFit s.events s.entries s.versions w) same.
      absurd (omega (arith, same, k.version, (new-function f new).over))) h.windows_fit.each

  pub fit-registered : IsFit (with_functions app s)
  fit-registered =
      let t : State = with_functions app s in
      fit-functions t.versions t.functions t.retired s (omega arith)
      (record {
        each = λ f there. each-after f (old-or-new app s f there);
        one = λ f g a b same. one-after f g (old-or-new app s f a) (old-or-new app s g b) same;
      }) (λ f there. room-after f (old-or-new app s f there)) h
