-- Maps under byte strings: what a look-up by bytes finds before and after an insert or a removal.
use Rattle.std.proofs.Common.{◌≡◌, ℕ, Bool, true, false, cond, List, [], ◌∷◌, Some, None, Option, refl, sym, ap, ◌∙◌, map, Vec, Global}
use Rattle.std.specs.Map.{lookup, KeepsOthers}
use Rattle.std.specs.BTreeMap.{insert_entry, is_at}
use Rattle.std.specs.Cmp.Lexicographic.{slice_cmp, bytes_decides, nat_list_cmp_total, nat_list_eq_equiv}
use Rattle.std.specs.Ordering.{is_eq, nat_cmp, eq_by_cmp}
use Rattle.std.specs.Str.{bytes_eq}
use Rattle.std.specs.declared.cmp.Ordering.{Ordering}
use Rattle.std.specs.declared.cmp.Ordering.TheVariants.{Less, Equal, Greater}
use Rattle.std.proofs.lemmas.Cmp.{eq_by_cmp_equiv}
use Rattle.std.proofs.lemmas.Map.Text.{is_eq-slice_cmp}

pub bytes_flip : (xs ys : List ℕ) → bytes_eq xs ys ≡ bytes_eq ys xs
bytes_flip xs ys = nat_list_eq_equiv.symm xs ys

pub bytes_self : (xs : List ℕ) → bytes_eq xs xs ≡ true
bytes_self xs = nat_list_eq_equiv.refl xs

pub bytes_same : (xs ys : List ℕ) → bytes_eq xs ys ≡ true → xs ≡ ys
bytes_same xs ys h = (bytes_decides xs ys).0 h

apart_texts : (q xs ys : List ℕ) → slice_cmp nat_cmp xs ys ≡ Greater → bytes_eq q xs ≡ true → bytes_eq q ys ≡ true → ⊥
apart_texts q xs ys g a b =
    let same : slice_cmp nat_cmp xs ys ≡ slice_cmp nat_cmp q q = ap (λ r. slice_cmp nat_cmp r ys) (sym (bytes_same q xs a)) ∙ ap (slice_cmp nat_cmp q) (sym (bytes_same q ys b)) in
    let eq : is_eq Greater ≡ true = ap is_eq (sym g ∙ same) ∙ is_eq-slice_cmp q q ∙ bytes_self q in
    cc

tied_texts : (xs ys : List ℕ) → slice_cmp nat_cmp xs ys ≡ Equal → xs ≡ ys
tied_texts xs ys e = bytes_same xs ys (sym (is_eq-slice_cmp xs ys) ∙ ap is_eq e)

cond_again : {A : Type 0} (b : Bool) (x y z : A) → cond b x z ≡ cond b x (cond b y z)
cond_again true x y z = refl
cond_again false x y z = refl

cond_swap : {A : Type 0} (a b : Bool) (x y z : A) → (a ≡ true → b ≡ true → ⊥) → cond b y (cond a x z) ≡ cond a x (cond b y z)
cond_swap true true x y z h = absurd (h refl refl)
cond_swap true false x y z h = refl
cond_swap false true x y z h = refl
cond_swap false false x y z h = refl

-- the order of keys by their texts
abbrev pub text_order : {K : Type 0} → (K → List ℕ) → K → K → Ordering
text_order text a b = slice_cmp nat_cmp (text a) (text b)

-- the pairs with their keys' texts
abbrev pub texts : {K X : Type 0} → (K → List ℕ) → List (K × X) → List (List ℕ × X)
texts text pairs = map (λ e. (text e.0, e.1)) pairs

-- what a change at the text t leaves, where w stands there afterwards
unfoldable pub Puts : {X : Type 0} → List ℕ → Option X → List (List ℕ × X) → List (List ℕ × X) → Type 0
Puts t w old new = (q : List ℕ) → lookup (bytes_eq q) new ≡ cond (bytes_eq q t) w (lookup (bytes_eq q) old)

module _ {K X : Type 0} (text : K → List ℕ) where
  pub text_found : (q : List ℕ) (pairs : List (K × X)) → lookup (is_at (λ k. slice_cmp nat_cmp q (text k))) pairs ≡ lookup (bytes_eq q) (texts text pairs)
  text_found q [] = refl
  text_found q (e ∷ es) =
      ap (λ b. cond b (Some e.1) (lookup (is_at (λ k. slice_cmp nat_cmp q (text k))) es)) (is_eq-slice_cmp q (text e.0))
      ∙ ap (cond (bytes_eq q (text e.0)) (Some e.1)) (text_found q es)

  pub text_inserted : (k : K) (v : X) (pairs : List (K × X)) (q : List ℕ) → lookup (bytes_eq q) (texts text (insert_entry (text_order text) pairs k v)) ≡ cond (bytes_eq q (text k)) (Some v) (lookup (bytes_eq q) (texts text pairs))
  text_inserted k v [] q = refl
  text_inserted k v (e ∷ es) q = by_order (text_order text k e.0) refl (text_inserted k v es q)
    where
      by_order : (o : Ordering) → text_order text k e.0 ≡ o → lookup (bytes_eq q) (texts text (insert_entry (text_order text) es k v)) ≡ cond (bytes_eq q (text k)) (Some v) (lookup (bytes_eq q) (texts text es))
          → lookup (bytes_eq q) (texts text (insert_entry (text_order text) (e ∷ es) k v)) ≡ cond (bytes_eq q (text k)) (Some v) (lookup (bytes_eq q) (texts text (e ∷ es)))
      by_order Less o more = rw o refl
      by_order Equal o more =
          rw o (cond_again (bytes_eq q (text e.0)) (Some v) (Some e.1) (lookup (bytes_eq q) (texts text es))
          ∙ ap (λ t. cond (bytes_eq q t) (Some v) (lookup (bytes_eq q) (texts text (e ∷ es)))) (sym (tied_texts (text k) (text e.0) o)))
      by_order Greater o more =
          rw o (ap (cond (bytes_eq q (text e.0)) (Some e.1)) more
          ∙ cond_swap (bytes_eq q (text k)) (bytes_eq q (text e.0)) (Some v) (Some e.1) (lookup (bytes_eq q) (texts text es)) (apart_texts q (text k) (text e.0) o))

  other_texts : (old new : List (K × X)) (t : List ℕ) → KeepsOthers (eq_by_cmp (text_order text)) (is_at (λ k. slice_cmp nat_cmp t (text k))) old new
      → (q : List ℕ) → bytes_eq q t ≡ false → lookup (is_at (λ k. slice_cmp nat_cmp q (text k))) new ≡ lookup (is_at (λ k. slice_cmp nat_cmp q (text k))) old
  unfolding KeepsOthers
  other_texts old new t h q n =
      h (is_at (λ k. slice_cmp nat_cmp q (text k)))
      (λ x y. (eq_by_cmp_equiv nat_list_cmp_total).congr q (text x) (text y))
      (λ k e. is_eq-slice_cmp q (text k) ∙ ap (bytes_eq q) (sym (bytes_same t (text k) (sym (is_eq-slice_cmp t (text k)) ∙ e))) ∙ n)

  pub text_removed : (old new : List (K × X)) (t : List ℕ) → lookup (is_at (λ k. slice_cmp nat_cmp t (text k))) new ≡ None → KeepsOthers (eq_by_cmp (text_order text)) (is_at (λ k. slice_cmp nat_cmp t (text k))) old new
      → (q : List ℕ) → lookup (bytes_eq q) (texts text new) ≡ cond (bytes_eq q t) None (lookup (bytes_eq q) (texts text old))
  text_removed old new t here others q = by_test (bytes_eq q t) refl
    where
      by_test : (b : Bool) → bytes_eq q t ≡ b → lookup (bytes_eq q) (texts text new) ≡ cond b None (lookup (bytes_eq q) (texts text old))
      by_test true e = ap (λ r. lookup (bytes_eq r) (texts text new)) (bytes_same q t e) ∙ sym (text_found t new) ∙ here
      by_test false e = sym (text_found q new) ∙ other_texts old new t others q e ∙ text_found q old

-- the bytes of a map's key
abbrev pub key_text : Vec ℕ Global → List ℕ
key_text key = key.items

pub puts_removed : {X : Type 0} (old new : List (Vec ℕ Global × X)) (t : List ℕ) → lookup (is_at (λ (k : Vec ℕ Global). slice_cmp nat_cmp t k.items)) new ≡ None
    → KeepsOthers (eq_by_cmp (text_order key_text)) (is_at (λ (k : Vec ℕ Global). slice_cmp nat_cmp t k.items)) old new → Puts t None (texts key_text old) (texts key_text new)
unfolding Puts
puts_removed old new t here others = text_removed key_text old new t here others

pub puts_inserted : {X : Type 0} (old new : List (Vec ℕ Global × X)) (k : Vec ℕ Global) (v : X) → new ≡ insert_entry (text_order key_text) old k v → Puts k.items (Some v) (texts key_text old) (texts key_text new)
unfolding Puts
puts_inserted old new k v h q = ap (λ r. lookup (bytes_eq q) (texts key_text r)) h ∙ text_inserted key_text k v old q
