-- Functions by version: what stays in order, and whose versions no other has.
use Rattle.std.proofs.Common.{◌≡◌, ◌≢◌, ℕ, ◌⊎◌, inl, inr, ◌+◌, ◌<◌, ◌≤◌, ◌==◌, Bool, true, false, not, List, [], ◌∷◌, ◌++◌, filter, refl, sym, ap, ◌∙◌, subst, arith}
use Rattle.std.specs.BTreeMap.{insert_entry, is_at}
use Rattle.std.specs.List.{AllByRecursion}
use Rattle.std.specs.List.Sorted.{IsStrictlySortedBy}
use Rattle.std.specs.Map.{keys_of, remove_entry, values_of}
use Rattle.std.specs.Ordering.{nat_cmp}
use Rattle.std.specs.declared.cmp.Ordering.TheVariants.{Less}
use Rattle.std.proofs.lemmas.Bool.Decides.{nat_tests}
use Rattle.std.proofs.lemmas.List.Kept.{IsStrictlySortedBy-filter}
use Rattle.kinds.specs.declared.function.App.{App}
use Rattle.kinds.specs.declared.function.Function.{Function}
use Rattle.functions.specs.Functions.{new_in, numbered, registered, stays, version_of}
use Rattle.functions.specs.declared.entry.FunctionEntry.{FunctionEntry}
use Rattle.lists.specs.Entries.{insert_by}
use Rattle.lists.proofs.Elements.{all-weaker, filter-passes}
use Rattle.lists.proofs.Stored.{IsStored, numbered_left, stored_empty, stored_put}
use Rattle.run_model.specs.Laws.{IsIn}
use Rattle.run_model.proofs.Apart.{all-none}
use Rattle.run_model.proofs.FitFunctions.{in-inserted}
use Rattle.run_model.proofs.Members.{all-in, in-all, in-back, in-either, in-filter, in-front}
use Rattle.machine.specs.Versions.{AreFresh, AreVersioned, HaveOtherVersions, Versions, by_version}

-- ## In order of version

less : (m n : ℕ) → m < n → nat_cmp m n ≡ Less
less m n h = grind (arith, nat_tests, h)

not-same : (m n : ℕ) → nat_cmp m n ≡ Less → m ≢ n
not-same m n h e = let own : nat_cmp n n ≡ Less = subst (λ k. nat_cmp k n ≡ Less) e h in grind (arith, nat_tests, own)

all-joined : (P : FunctionEntry → Type 0) (fs gs : List FunctionEntry) → AllByRecursion P fs → AllByRecursion P gs
    → AllByRecursion P (fs ++ gs)
all-joined P [] gs a b = b
all-joined P (f ∷ fs) gs a b = (a.0, all-joined P fs gs a.1 b)

ordered-both : (n : ℕ) (fs gs : List FunctionEntry) → AllByRecursion (λ (f : FunctionEntry). f.version ≤ n) fs
    → AllByRecursion (λ (g : FunctionEntry). n < g.version) gs → IsStrictlySortedBy by_version fs
    → IsStrictlySortedBy by_version gs → IsStrictlySortedBy by_version (fs ++ gs)
unfolding IsStrictlySortedBy
ordered-both n [] gs low high a b = b
ordered-both n (f ∷ fs) gs low high a b = (
  all-joined (λ g. by_version f g ≡ Less) fs gs a.0
      (all-weaker (λ (g : FunctionEntry). n < g.version) (λ g. by_version f g ≡ Less) gs
      (λ g (over : n < g.version). less f.version g.version (omega (arith, low.0, over))) high),
  ordered-both n fs gs low.1 high a.1 b,
)

-- functions in order have versions of their own
one-of-version : (fs : List FunctionEntry) (f g : FunctionEntry) → IsStrictlySortedBy by_version fs → IsIn f fs
    → IsIn g fs → f.version ≡ g.version → f ≡ g
unfolding IsStrictlySortedBy
one-of-version [] f g ordered a b same = absurd a
one-of-version (k ∷ ks) f g ordered (inl a) (inl b) same = sym a ∙ b
one-of-version (k ∷ ks) f g ordered (inl a) (inr b) same =
    absurd (not-same k.version g.version (in-all (λ y. by_version k y ≡ Less) g ks b ordered.0)
    (ap (λ (e : FunctionEntry). e.version) a ∙ same))
one-of-version (k ∷ ks) f g ordered (inr a) (inl b) same =
    absurd (not-same k.version f.version (in-all (λ y. by_version k y ≡ Less) f ks a ordered.0)
    (ap (λ (e : FunctionEntry). e.version) b ∙ sym same))
one-of-version (k ∷ ks) f g ordered (inr a) (inr b) same = one-of-version ks f g ordered.1 a b same

in-passes : (p : FunctionEntry → Bool) (f : FunctionEntry) (fs : List FunctionEntry) → IsIn f (filter p fs)
    → p f ≡ true
in-passes p f fs there = in-all (λ x. p x ≡ true) f (filter p fs) there (filter-passes p fs)

-- those that go are of other versions than those that stay
gone-other : (p : FunctionEntry → Bool) (fs : List FunctionEntry) → IsStrictlySortedBy by_version fs
    → HaveOtherVersions (filter (λ f. not (p f)) fs) (filter p fs)
gone-other p fs ordered f g a b same =
    let one : f ≡ g = one-of-version fs f g ordered (in-filter (λ e. not (p e)) f fs a) (in-filter p g fs b) same in
    clash (p g) (subst (λ e. not (p e) ≡ true) one (in-passes (λ e. not (p e)) f fs a)) (in-passes p g fs b)
  where
    clash : (b : Bool) → not b ≡ true → b ≡ true → ⊥
    clash true h e = cc
    clash false h e = cc

-- ## New versions

new-above : (name : List ℕ) (n : ℕ) (fs : List Function)
    → AllByRecursion (λ (g : FunctionEntry). n < g.version) (numbered name n fs)
new-above name n [] = tt
new-above name n (f ∷ fs) = (
  omega arith,
  all-weaker (λ (g : FunctionEntry). n + 1 < g.version) (λ (g : FunctionEntry). n < g.version)
      (numbered name (n + 1) fs) (λ g (over : n + 1 < g.version). omega (arith, over)) (new-above name (n + 1) fs),
)

new-ordered : (name : List ℕ) (n : ℕ) (fs : List Function) → IsStrictlySortedBy by_version (numbered name n fs)
unfolding IsStrictlySortedBy
new-ordered name n [] = tt
new-ordered name n (f ∷ fs) = (
  all-weaker (λ (g : FunctionEntry). n + 1 < g.version) (λ (g : FunctionEntry). nat_cmp (n + 1) g.version ≡ Less)
      (numbered name (n + 1) fs) (λ g over. less (n + 1) g.version over) (new-above name (n + 1) fs),
  new-ordered name (n + 1) fs,
)

-- ## A registration

module _ (app : App) (n : ℕ) (current now : List FunctionEntry) (entries : List (ℕ × FunctionEntry))
    (given : AllByRecursion (λ (f : FunctionEntry). f.version ≤ n) (current ++ values_of entries))
    (h : AreVersioned current entries) (becomes : now ≡ registered app n current) where
  abbrev kept : List FunctionEntry
  kept = filter (stays app) current

  abbrev new : List FunctionEntry
  new = numbered app.name n (new_in app current)

  low-current : (f : FunctionEntry) → IsIn f current → f.version ≤ n
  low-current f there =
      in-all (λ (f : FunctionEntry). f.version ≤ n) f (current ++ values_of entries)
      (in-front f current (values_of entries) there) given

  low-retired : (f : FunctionEntry) → IsIn f (values_of entries) → f.version ≤ n
  low-retired f there =
      in-all (λ (f : FunctionEntry). f.version ≤ n) f (current ++ values_of entries)
      (in-back f current (values_of entries) there) given

  over-new : (f : FunctionEntry) → IsIn f new → n < f.version
  over-new f there =
      in-all (λ (f : FunctionEntry). n < f.version) f new there (new-above app.name n (new_in app current))

  kept-or-new : (f : FunctionEntry) → IsIn f now → IsIn f kept ⊎ IsIn f new
  unfolding registered
  kept-or-new f there = in-either f kept new (subst (IsIn f) becomes there)

  ordered-after : IsStrictlySortedBy by_version now
  unfolding registered
  ordered-after = subst (IsStrictlySortedBy by_version) (sym becomes)
      (ordered-both n kept new (all-in (λ (f : FunctionEntry). f.version ≤ n) kept
      (λ f there. low-current f (in-filter (stays app) f current there))) (new-above app.name n (new_in app current))
      (IsStrictlySortedBy-filter by_version (stays app) current h.ordered)
      (new-ordered app.name n (new_in app current)))

  pub versioned-registered : AreVersioned now entries
  versioned-registered = record {
    ordered = ordered-after;
    stored = h.stored;
    apart = λ f g a b. other f g (kept-or-new f a) b;
  }
    where
      other : (f g : FunctionEntry) → IsIn f kept ⊎ IsIn f new → IsIn g (values_of entries) → f.version ≢ g.version
      other f g (inl a) b = h.apart f g (in-filter (stays app) f current a) b
      other f g (inr a) b = λ same. absurd (omega (arith, same, over-new f a, low-retired g b))

  pub fresh-replaced : (replaced : List FunctionEntry) → replaced ≡ filter (λ f. not (stays app f)) current
      → AreFresh replaced (record { current = now; retired = values_of entries })
  fresh-replaced replaced is =
      subst (λ fs. AreFresh fs (record { current = now; retired = values_of entries })) (sym is) (record {
        ordered = IsStrictlySortedBy-filter by_version (λ f. not (stays app f)) current h.ordered;
        current = λ f g a b. other f g a (kept-or-new g b);
        retired = λ f g a b. h.apart f g (in-filter (λ f. not (stays app f)) f current a) b;
      })
    where
      other : (f g : FunctionEntry) → IsIn f (filter (λ f. not (stays app f)) current) → IsIn g kept ⊎ IsIn g new
          → f.version ≢ g.version
      other f g a (inl b) = gone-other (stays app) current h.ordered f g a b
      other f g a (inr b) = λ same.
          absurd (omega (arith, same, over-new g b, low-current f (in-filter (λ f. not (stays app f)) f current a)))

-- ## One is retired

at-other : (m n : ℕ) → m ≢ n → is_at (nat_cmp m) n ≡ false
at-other m n other = by_test (is_at (nat_cmp m) n) refl
  where
    same : is_at (nat_cmp m) n ≡ true → m ≡ n
    same h = grind (arith, nat_tests, h)

    by_test : (b : Bool) → is_at (nat_cmp m) n ≡ b → b ≡ false
    by_test true t = absurd (other (same t))
    by_test false t = refl

module _ (current : List FunctionEntry) (old new : List (ℕ × FunctionEntry)) (e : FunctionEntry)
    (h : AreVersioned current old) (fresh : AreFresh (e ∷ []) (record { current = current; retired = values_of old }))
    (put : new ≡ insert_entry nat_cmp old e.version e) (ordered : IsStrictlySortedBy nat_cmp (keys_of new)) where
  stored-put : (values_of new ≡ insert_by version_of e (values_of old)) × IsStored nat_cmp version_of new
  stored-put = stored_put nat_cmp version_of {insert = insert_by version_of} (record { empty = λ x. refl; place = λ x y ys. refl }) old new e h.stored
      (all-none (λ (y : FunctionEntry). is_at (nat_cmp e.version) y.version) (values_of old)
      (all-in (λ (y : FunctionEntry). is_at (nat_cmp e.version) y.version ≡ false) (values_of old)
      (λ y there. at-other e.version y.version (fresh.retired e y (inl refl) there)))) put ordered

  pub versioned-put : (values_of new ≡ insert_by version_of e (values_of old)) × AreVersioned current new
  versioned-put = (
    stored-put.0,
    record {
      ordered = h.ordered;
      stored = stored-put.1;
      apart = λ f g a b. other f g a (in-inserted e g (values_of old) (subst (IsIn g) stored-put.0 b));
    },
  )
    where
      other : (f g : FunctionEntry) → IsIn f current → (e ≡ g) ⊎ IsIn g (values_of old) → f.version ≢ g.version
      other f g a (inl same) = λ k.
          fresh.current e f (inl refl) a (ap (λ (x : FunctionEntry). x.version) same ∙ sym k)
      other f g a (inr b) = h.apart f g a b

-- ## One after the other is retired

pub fresh-first : (e : FunctionEntry) (rest : List FunctionEntry) (vs : Versions) → AreFresh (e ∷ rest) vs
    → AreFresh (e ∷ []) vs
unfolding IsStrictlySortedBy
fresh-first e rest vs h = record {
  ordered = (tt, tt);
  current = λ f g a b. h.current f g (front f a) b;
  retired = λ f g a b. h.retired f g (front f a) b;
}
  where
    front : (f : FunctionEntry) → IsIn f (e ∷ []) → IsIn f (e ∷ rest)
    front f (inl same) = inl same
    front f (inr there) = absurd there

pub fresh-rest : (e : FunctionEntry) (rest : List FunctionEntry) (old now : Versions) → AreFresh (e ∷ rest) old
    → now.current ≡ old.current → now.retired ≡ insert_by version_of e old.retired → AreFresh rest now
unfolding IsStrictlySortedBy
fresh-rest e rest old now h same put = record {
  ordered = h.ordered.1;
  current = λ f g a b. h.current f g (inr a) (subst (IsIn g) same b);
  retired = λ f g a b. other f g a (in-inserted e g old.retired (subst (IsIn g) put b));
}
  where
    other : (f g : FunctionEntry) → IsIn f rest → (e ≡ g) ⊎ IsIn g old.retired → f.version ≢ g.version
    other f g a (inl same) = λ k.
        not-same e.version f.version (in-all (λ y. by_version e y ≡ Less) f rest a h.ordered.0)
        (ap (λ (x : FunctionEntry). x.version) same ∙ sym k)
    other f g a (inr b) = h.retired f g (inr a) b

-- ## One goes

module _ (current : List FunctionEntry) (old new : List (ℕ × FunctionEntry)) (n : ℕ) (h : AreVersioned current old)
    (went : new ≡ remove_entry (is_at (nat_cmp n)) old) (ordered : IsStrictlySortedBy nat_cmp (keys_of new)) where
  stored-left : (values_of new ≡ filter (λ (f : FunctionEntry). not (n == f.version)) (values_of old)) × IsStored nat_cmp version_of new
  stored-left = numbered_left version_of old new n h.stored went ordered

  pub versioned-left : (values_of new ≡ filter (λ (f : FunctionEntry). not (n == f.version)) (values_of old))
      × AreVersioned current new
  versioned-left = (
    stored-left.0,
    record {
      ordered = h.ordered;
      stored = stored-left.1;
      apart = λ f g a b. h.apart f g a
          (in-filter (λ (f : FunctionEntry). not (n == f.version)) g (values_of old) (subst (IsIn g) stored-left.0 b));
    },
  )

-- ## None

-- where none is current
pub versioned-alone : (current : List FunctionEntry) (entries : List (ℕ × FunctionEntry)) → current ≡ []
    → IsStored nat_cmp version_of entries → AreVersioned current entries
unfolding IsStrictlySortedBy
versioned-alone current entries none stored =
    subst (λ fs. AreVersioned fs entries) (sym none)
    (record { ordered = tt; stored = stored; apart = λ f g a b. absurd a })

pub versioned-none : (current : List FunctionEntry) (entries : List (ℕ × FunctionEntry)) → current ≡ []
    → entries ≡ [] → AreVersioned current entries
versioned-none current entries none empty =
    versioned-alone current entries none (stored_empty nat_cmp version_of entries empty)
