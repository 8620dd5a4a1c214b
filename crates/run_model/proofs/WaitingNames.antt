-- The names that wait in a run stand in order, so that one that comes or goes changes what is found under it alone.
use Rattle.std.proofs.Common.{◌≡◌, ℕ, Bool, true, false, cond, List, [], ◌∷◌, Option, Some, None, refl, sym, ap, ◌∙◌, subst}
use Rattle.std.specs.BTreeMap.{insert_entry, is_at}
use Rattle.std.specs.Cmp.Lexicographic.{slice_cmp, nat_list_cmp_total}
use Rattle.std.specs.List.{AllByRecursion}
use Rattle.std.specs.Map.{lookup, remove_entry}
use Rattle.std.specs.Ordering.{is_eq, match_ordering, nat_cmp, ordering_reverse}
use Rattle.std.specs.Str.{bytes_eq}
use Rattle.std.specs.declared.cmp.Ordering.{Ordering}
use Rattle.std.specs.declared.cmp.Ordering.TheVariants.{Less, Equal, Greater}
use Rattle.std.proofs.lemmas.Map.Text.{is_eq-slice_cmp}
use Rattle.kinds.specs.declared.store.Pending.{Pending}
use Rattle.lists.proofs.Elements.{all-weaker}
use Rattle.lists.proofs.Texts.{bytes_same}
use Rattle.run_model.specs.Sound.{ArePairwise}

abbrev pub Names : Type 0
Names = List (List ℕ × Pending)

abbrev order : List ℕ → List ℕ → Ordering
order a b = slice_cmp nat_cmp a b

abbrev pub under : List ℕ → Names → Option Pending
under name ps = lookup (is_at (slice_cmp nat_cmp name)) ps

abbrev Before : List ℕ → List ℕ × Pending → Type 0
Before name p = order name p.0 ≡ Less

-- the names rise
abbrev pub AreSorted : Names → Type 0
AreSorted ps = ArePairwise (λ (p later : List ℕ × Pending). Before p.0 later) ps

pub at-bytes : (a b : List ℕ) → is_at (slice_cmp nat_cmp a) b ≡ bytes_eq a b
at-bytes a b = is_eq-slice_cmp a b

pub apart-before : (a b : List ℕ) → order a b ≡ Less → bytes_eq a b ≡ false
apart-before a b less = sym (at-bytes a b) ∙ ap is_eq less

same-order : (a b : List ℕ) → order a b ≡ Equal → a ≡ b
same-order a b e = bytes_same a b (sym (at-bytes a b) ∙ ap is_eq e)

-- ## A name comes

all-inserted : (P : List ℕ → Type 0) (name : List ℕ) (kind : Pending) (ps : Names) → P name
    → AllByRecursion (λ (p : List ℕ × Pending). P p.0) ps
    → AllByRecursion (λ (p : List ℕ × Pending). P p.0) (insert_entry (slice_cmp nat_cmp) ps name kind)
all-inserted P name kind [] own h = (own, tt)
all-inserted P name kind (p ∷ ps) own h = by_order (order name p.0) (all-inserted P name kind ps own h.1)
  where
    by_order : (o : Ordering)
        → AllByRecursion (λ (q : List ℕ × Pending). P q.0) (insert_entry (slice_cmp nat_cmp) ps name kind)
        → AllByRecursion (λ (q : List ℕ × Pending). P q.0)
        (match_ordering o ((name, kind) ∷ p ∷ ps) ((p.0, kind) ∷ ps)
        (p ∷ insert_entry (slice_cmp nat_cmp) ps name kind))
    by_order Less more = (own, h)
    by_order Equal more = (h.0, h.1)
    by_order Greater more = (h.0, more)

pub sorted-inserted : (name : List ℕ) (kind : Pending) (ps : Names) → AreSorted ps
    → AreSorted (insert_entry (slice_cmp nat_cmp) ps name kind)
sorted-inserted name kind [] h = (tt, tt)
sorted-inserted name kind (p ∷ ps) h = by_order (order name p.0) refl (sorted-inserted name kind ps h.1)
  where
    by_order : (o : Ordering) → order name p.0 ≡ o → AreSorted (insert_entry (slice_cmp nat_cmp) ps name kind)
        → AreSorted (match_ordering o ((name, kind) ∷ p ∷ ps) ((p.0, kind) ∷ ps)
        (p ∷ insert_entry (slice_cmp nat_cmp) ps name kind))
    by_order Less e more = (
      (e, all-weaker (Before p.0) (Before name) ps (λ q k. nat_list_cmp_total.trans name p.0 q.0 e k) h.0),
      h,
    )
    by_order Equal e more = (h.0, h.1)
    by_order Greater e more = (
      all-inserted (λ q. order p.0 q ≡ Less) name kind ps
          (nat_list_cmp_total.antisymm p.0 name ∙ ap ordering_reverse e) h.0,
      more,
    )

cond-again : {A : Type 0} (b : Bool) (x y z : A) → cond b x z ≡ cond b x (cond b y z)
cond-again true x y z = refl
cond-again false x y z = refl

cond-swap : {A : Type 0} (a b : Bool) (x y z : A) → (a ≡ true → b ≡ true → ⊥)
    → cond b y (cond a x z) ≡ cond a x (cond b y z)
cond-swap true true x y z h = absurd (h refl refl)
cond-swap true false x y z h = refl
cond-swap false true x y z h = refl
cond-swap false false x y z h = refl

-- a name isn't two that are in order
not-both : (q a b : List ℕ) → bytes_eq a b ≡ false → bytes_eq q a ≡ true → bytes_eq q b ≡ true → ⊥
not-both q a b apart one other =
    let same : bytes_eq q b ≡ bytes_eq a b = ap (λ n. bytes_eq n b) (bytes_same q a one) in
    let no : true ≡ false = sym other ∙ same ∙ apart in cc

apart-after : (a b : List ℕ) → order a b ≡ Greater → bytes_eq a b ≡ false
apart-after a b greater = sym (at-bytes a b) ∙ ap is_eq greater

-- under it the kind is found, and under each other name what was
pub found-inserted : (q name : List ℕ) (kind : Pending) (ps : Names)
    → under q (insert_entry (slice_cmp nat_cmp) ps name kind) ≡ cond (bytes_eq q name) (Some kind) (under q ps)
found-inserted q name kind [] = ap (λ b. cond b (Some kind) None) (at-bytes q name)
found-inserted q name kind (p ∷ ps) = by_order (order name p.0) refl (found-inserted q name kind ps)
  where
    by_order : (o : Ordering) → order name p.0 ≡ o
        → under q (insert_entry (slice_cmp nat_cmp) ps name kind) ≡ cond (bytes_eq q name) (Some kind) (under q ps)
        → under q (match_ordering o ((name, kind) ∷ p ∷ ps) ((p.0, kind) ∷ ps)
        (p ∷ insert_entry (slice_cmp nat_cmp) ps name kind))
        ≡ cond (bytes_eq q name) (Some kind) (under q (p ∷ ps))
    by_order Less e more = ap (λ b. cond b (Some kind) (under q (p ∷ ps))) (at-bytes q name)
    by_order Equal e more =
        let same : name ≡ p.0 = same-order name p.0 e in
        ap (λ b. cond b (Some kind) (under q ps)) (at-bytes q p.0)
        ∙ cond-again (bytes_eq q p.0) (Some kind) (Some p.1) (under q ps)
        ∙ ap (λ b. cond (bytes_eq q p.0) (Some kind) (cond b (Some p.1) (under q ps))) (sym (at-bytes q p.0))
        ∙ ap (λ n. cond (bytes_eq q n) (Some kind) (under q (p ∷ ps))) (sym same)
    by_order Greater e more =
        ap (cond (is_at (slice_cmp nat_cmp q) p.0) (Some p.1)) more
        ∙ sym (cond-swap (is_at (slice_cmp nat_cmp q) p.0) (bytes_eq q name) (Some p.1) (Some kind) (under q ps)
        (λ one other. not-both q name p.0 (apart-after name p.0 e) other (sym (at-bytes q p.0) ∙ one)))

-- ## A name goes

all-removed : (P : List ℕ × Pending → Type 0) (test : List ℕ → Bool) (ps : Names) → AllByRecursion P ps
    → AllByRecursion P (remove_entry test ps)
all-removed P test [] h = tt
all-removed P test (p ∷ ps) h =
    elim (test p.0) as (λ b. AllByRecursion P (cond b ps (p ∷ remove_entry test ps)))
    [ true ↦ h.1 | false ↦ (h.0, all-removed P test ps h.1) ]

pub sorted-removed : (test : List ℕ → Bool) (ps : Names) → AreSorted ps → AreSorted (remove_entry test ps)
sorted-removed test [] h = tt
sorted-removed test (p ∷ ps) h =
    elim (test p.0) as (λ b. AreSorted (cond b ps (p ∷ remove_entry test ps)))
    [ true ↦ h.1 | false ↦ (all-removed (Before p.0) test ps h.0, sorted-removed test ps h.1) ]

none-behind : (name : List ℕ) (ps : Names) → AllByRecursion (Before name) ps → under name ps ≡ None
none-behind name [] h = refl
none-behind name (p ∷ ps) h = rw (ap is_eq h.0) (none-behind name ps h.1)

cond-none : (b : Bool) (found : Option Pending) → found ≡ None → found ≡ cond b None found
cond-none true found e = e
cond-none false found e = refl

-- under it nothing is found, and under each other name what was
pub found-removed : (q name : List ℕ) (ps : Names) → AreSorted ps
    → under q (remove_entry (is_at (slice_cmp nat_cmp name)) ps) ≡ cond (bytes_eq q name) None (under q ps)
found-removed q name [] h = cond-none (bytes_eq q name) None refl
found-removed q name (p ∷ ps) h =
    by_test (is_at (slice_cmp nat_cmp name) p.0) refl (found-removed q name ps h.1)
  where
    gone : (b : Bool) → bytes_eq q name ≡ b → name ≡ p.0
        → under q ps ≡ cond b None (cond (is_at (slice_cmp nat_cmp q) p.0) (Some p.1) (under q ps))
    gone true e same =
        subst (λ n. under n ps ≡ None) (sym (bytes_same q name e ∙ same)) (none-behind p.0 ps h.0)
    gone false e same =
        ap (λ b. cond b (Some p.1) (under q ps))
        (sym (at-bytes q p.0 ∙ ap (bytes_eq q) (sym same) ∙ e))

    by_test : (b : Bool) → is_at (slice_cmp nat_cmp name) p.0 ≡ b
        → under q (remove_entry (is_at (slice_cmp nat_cmp name)) ps) ≡ cond (bytes_eq q name) None (under q ps)
        → under q (cond b ps (p ∷ remove_entry (is_at (slice_cmp nat_cmp name)) ps))
        ≡ cond (bytes_eq q name) None (under q (p ∷ ps))
    by_test true e more = gone (bytes_eq q name) refl (bytes_same name p.0 (sym (at-bytes name p.0) ∙ e))
    by_test false e more =
        ap (cond (is_at (slice_cmp nat_cmp q) p.0) (Some p.1)) more
        ∙ sym (cond-swap (is_at (slice_cmp nat_cmp q) p.0) (bytes_eq q name) (Some p.1) None (under q ps)
        (λ one other. not-both q name p.0 (sym (at-bytes name p.0) ∙ e) other (sym (at-bytes q p.0) ∙ one)))
