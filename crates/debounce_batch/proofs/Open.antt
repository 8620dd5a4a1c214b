-- The windows and where each key's stands, after a window came, went or was replaced.
use Rattle.std.proofs.Common.{◌≡◌, ℕ, ◌==◌, ◌&&◌, arith, Bool, true, false, cond, not, List, [], ◌∷◌, Some, None, Option, refl, sym, ap, ◌∙◌, subst}
use Rattle.std.specs.List.{find, filter, AllByRecursion}
use Rattle.std.specs.Option.{option_map}
use Rattle.std.specs.BTreeMap.{is_at}
use Rattle.std.specs.Cmp.Lexicographic.{slice_cmp}
use Rattle.std.specs.Ordering.{nat_cmp, is_eq, ordering_then, is_lt}
use Rattle.std.specs.Str.{bytes_eq}
use Rattle.std.specs.declared.cmp.Ordering.{Ordering}
use Rattle.std.specs.declared.cmp.Ordering.TheVariants.{Less, Equal, Greater}
use Rattle.std.proofs.lemmas.Map.Text.{is_eq-slice_cmp}
use Rattle.std.proofs.lemmas.Option.{same_Some}
use Rattle.lists.specs.Entries.{has, without, by_key, insert_in, AreApart, pair_cmp}
use Rattle.lists.proofs.Elements.{all-filter}
use Rattle.lists.proofs.Keyed.{cond_none, filter_none, find_without}
use Rattle.lists.proofs.Texts.{bytes_self, bytes_same, bytes_flip}
use Rattle.ordered.specs.Indexes.{has_key}
use Rattle.ordered.proofs.Apart.{Tells, number_tells, at_number, found, found_by, apart_left, apart_put}
use Rattle.ordered.proofs.Placed.{placed_put, placed_left, left_by, same_found, no_place}
use Rattle.kinds.specs.Windows.{number_of, version_of, value_of, kind_of, place_of, has_number, is_of, others, without_number, insert_window, IsDated}
use Rattle.kinds.specs.declared.window.Window.{Window}
use Rattle.kinds.specs.declared.window.Window.TheVariants as window
use Rattle.debounce_batch.specs.Held.{key_of, key_eq, key_cmp, AreOpen}

-- ---- keys

both : (x y : Bool) → x ≡ true → y ≡ true → (x && y) ≡ true
both true true p q = refl
both true false p q = cc
both false y p q = cc

halves : (x y : Bool) → (x && y) ≡ true → (x ≡ true) × (y ≡ true)
halves true true h = (refl, refl)
halves true false h = cc
halves false y h = cc

pub key_tells : Tells key_eq
key_tells = record {
  self = λ k. both (k.0 == k.0) (bytes_eq k.1 k.1) (number_tells.self k.0) (bytes_self k.1);
  same = λ a b h. let parts = halves (a.0 == b.0) (bytes_eq a.1 b.1) h in ap (λ n. (n, a.1)) (number_tells.same a.0 b.0 parts.0) ∙ ap (λ t. (b.0, t)) (bytes_same a.1 b.1 parts.1);
  flip = λ a b. ap (λ r. r && bytes_eq a.1 b.1) (number_tells.flip a.0 b.0) ∙ ap (λ r. (b.0 == a.0) && r) (bytes_flip a.1 b.1);
}

then_eq : (o p : Ordering) → is_eq (ordering_then o p) ≡ (is_eq o && is_eq p)
then_eq Less p = refl
then_eq Equal p = refl
then_eq Greater p = refl

pub at_key : (a b : ℕ × List ℕ) → is_at (key_cmp a) b ≡ key_eq b a
at_key a b =
    then_eq (nat_cmp a.0 b.0) (slice_cmp nat_cmp a.1 b.1)
    ∙ ap (λ r. r && is_eq (slice_cmp nat_cmp a.1 b.1)) (at_number a.0 b.0)
    ∙ ap (λ r. (a.0 == b.0) && r) (is_eq-slice_cmp a.1 b.1)
    ∙ key_tells.flip a b

-- what a look-up finds after a key was written
pub at_keys : (k : ℕ × List ℕ) (w : Option (ℕ × ℕ)) (old new : ℕ × List ℕ → Option (ℕ × ℕ)) → ((q : ℕ × List ℕ) → new q ≡ cond (is_at (key_cmp k) q) w (old q)) → (q : ℕ × List ℕ) → new q ≡ cond (key_eq q k) w (old q)
at_keys k w old new u q = u q ∙ ap (λ b. cond b w (old q)) (at_key k q)

-- ---- lists of windows

all_insert : (w : Window) (ws : List Window) → IsDated w → AllByRecursion IsDated ws → AllByRecursion IsDated (insert_window w ws)
all_insert w [] d h = (d, tt)
all_insert w (v ∷ vs) d h = by_place (is_lt (pair_cmp (kind_of w, number_of w) (kind_of v, number_of v))) (all_insert w vs d h.1)
  where
    by_place : (b : Bool) → AllByRecursion IsDated (insert_window w vs) → AllByRecursion IsDated (cond b (w ∷ v ∷ vs) (v ∷ insert_window w vs))
    by_place true more = (d, h)
    by_place false more = (h.0, more)

pub all_found : (t : Window → Bool) (ws : List Window) (w : Window) → AllByRecursion IsDated ws → find t ws ≡ Some w → IsDated w
all_found t [] w h f = cc
all_found t (v ∷ vs) w h f = by_test (t v) (all_found t vs w h.1) f
  where
    by_test : (b : Bool) → (find t vs ≡ Some w → IsDated w) → cond b (Some v) (find t vs) ≡ Some w → IsDated w
    by_test true more f = subst IsDated (same_Some v w f) h.0
    by_test false more f = more f

module _ (ws : List Window) (look : ℕ × List ℕ → Option (ℕ × ℕ)) (o : AreOpen ws look) where
  -- where a key's window stands is that window
  pub found_at : (k : ℕ × List ℕ) (p : ℕ × ℕ) → Some p ≡ look k
      → (find (has_key kind_of number_of p.0 p.1) ws ≡ find (is_of k.0 k.1) ws) × (filter (λ w. not (has_key kind_of number_of p.0 p.1 w)) ws ≡ others k.0 k.1 ws)
  found_at k p h = by_entry (find (is_of k.0 k.1) ws) refl (h ∙ o.placed.placed k)
    where
      by_entry : (f : Option Window) → find (is_of k.0 k.1) ws ≡ f → Some p ≡ option_map place_of f
          → (find (has_key kind_of number_of p.0 p.1) ws ≡ f) × (filter (λ w. not (has_key kind_of number_of p.0 p.1 w)) ws ≡ others k.0 k.1 ws)
      by_entry None f h = cc
      by_entry (Some w) f h =
          let same : p ≡ place_of w = same_Some p (place_of w) h in
          let its = key_tells.same k (key_of w) (found (is_of k.0 k.1) ws w f) in
          let numbered = found_by number_tells number_of (is_of k.0 k.1) ws w o.apart f in
          let at = same_found kind_of number_of (kind_of w) (number_of w) ws o.apart (sym (ap (option_map kind_of) numbered)) in (
            ap (λ q. find (has_key kind_of number_of q.0 q.1) ws) same ∙ at.0 ∙ numbered,
            ap (λ q. filter (λ v. not (has_key kind_of number_of q.0 q.1 v)) ws) same ∙ at.1 ∙ left_by key_tells key_of number_of (is_of k.0 k.1) ws w o.apart o.placed.apart f ∙ ap (λ q. others q.0 q.1 ws) (sym its),
          )

  -- a key's window went
  pub open_left : (k : ℕ × List ℕ) (now : List Window) (new : ℕ × List ℕ → Option (ℕ × ℕ)) → now ≡ others k.0 k.1 ws → ((q : ℕ × List ℕ) → new q ≡ cond (key_eq q k) None (look q)) → AreOpen now new
  open_left k now new h u = record {
    placed = placed_left key_tells key_of place_of k ws now look new o.placed h u;
    apart = subst (AreApart number_of) (sym h) (apart_left number_tells number_of (λ w. not (is_of k.0 k.1 w)) ws o.apart);
    dated = subst (AllByRecursion IsDated) (sym h) (all-filter IsDated (λ w. not (is_of k.0 k.1 w)) ws o.dated);
  }

  -- a window came
  pub open_put : (w : Window) (now : List Window) (new : ℕ × List ℕ → Option (ℕ × ℕ)) → IsDated w → find (is_of (version_of w) (value_of w)) ws ≡ None → find (has_number (number_of w)) ws ≡ None
      → now ≡ insert_window w ws → ((q : ℕ × List ℕ) → new q ≡ cond (key_eq q (key_of w)) (Some (place_of w)) (look q)) → AreOpen now new
  open_put w now new d alone fresh h u = record {
    placed = placed_put key_tells key_of place_of kind_of number_of w (key_of w) (place_of w) ws now look new o.placed refl refl alone h u;
    apart = subst (AreApart number_of) (sym h) (apart_put number_tells number_of kind_of number_of w ws o.apart fresh);
    dated = subst (AllByRecursion IsDated) (sym h) (all_insert w ws d o.dated);
  }

-- a window of one key and number was replaced
pub open_replaced : (w v : Window) (ws now : List Window) (look : ℕ × List ℕ → Option (ℕ × ℕ)) → AreOpen ws look → IsDated w → find (is_of (version_of w) (value_of w)) ws ≡ Some v → place_of v ≡ place_of w
    → now ≡ insert_window w (others (version_of w) (value_of w) ws) → AreOpen now look
open_replaced w v ws now look o d f p h =
    let its = key_tells.same (key_of w) (key_of v) (found (is_of (version_of w) (value_of w)) ws v f) in
    let rest = left_by key_tells key_of number_of (is_of (version_of w) (value_of w)) ws v o.apart o.placed.apart f ∙ ap (λ q. others q.0 q.1 ws) (sym its) in
    let gone = open_left ws look o (key_of w) (others (version_of w) (value_of w) ws) (λ q. cond (key_eq q (key_of w)) None (look q)) refl (λ q. refl) in
    open_put (others (version_of w) (value_of w) ws) (λ q. cond (key_eq q (key_of w)) None (look q)) gone w now look d
    (find_without (is_of (version_of w) (value_of w)) ws)
    (ap (find (has_number (number_of w))) (sym rest) ∙ ap (λ n. find (has_number n) (without_number (number_of v) ws)) (ap (λ q. q.1) (sym p)) ∙ find_without (has_number (number_of v)) ws)
    h
    (λ q. by_test q (key_eq q (key_of w)) refl)
  where
    by_test : (q : ℕ × List ℕ) (b : Bool) → key_eq q (key_of w) ≡ b → look q ≡ cond b (Some (place_of w)) (cond b None (look q))
    by_test q true e = ap look (key_tells.same q (key_of w) e) ∙ o.placed.placed (key_of w) ∙ ap (option_map place_of) f ∙ ap Some p
    by_test q false e = refl

-- ---- a number of either kind

-- a debounce has the number
pub debounce_found : (n : ℕ) (ws : List Window) (w : Window) → AreApart number_of ws → find (has_key kind_of number_of 0 n) ws ≡ Some w
    → (find (has_number n) ws ≡ Some w) × (filter (λ v. not (has_key kind_of number_of 0 n v)) ws ≡ without_number n ws)
debounce_found n ws w a f =
    let parts = halves (0 == kind_of w) (n == number_of w) (found (has_key kind_of number_of 0 n) ws w f) in
    let numbered = ap (λ m. find (has_number m) ws) (number_tells.same n (number_of w) parts.1) ∙ found_by number_tells number_of (has_key kind_of number_of 0 n) ws w a f in
    let rank : Some 0 ≡ option_map kind_of (find (has_number n) ws) = ap Some (number_tells.same 0 (kind_of w) parts.0) ∙ sym (ap (option_map kind_of) numbered) in
    (numbered, (same_found kind_of number_of 0 n ws a rank).1)

-- no debounce has the number
pub batch_found : (n : ℕ) (ws : List Window) → find (has_key kind_of number_of 0 n) ws ≡ None
    → (find (has_key kind_of number_of 1 n) ws ≡ find (has_number n) ws) × (filter (λ v. not (has_key kind_of number_of 1 n v)) ws ≡ without_number n ws)
batch_found n [] f = (refl, refl)
batch_found n (w ∷ ws) f =
    let parts = cond_none (has_key kind_of number_of 0 n w) w (find (has_key kind_of number_of 0 n) ws) f in
    let more = batch_found n ws parts.1 in
    let same = by_kind w parts.0 in (
      ap (λ b. cond b (Some w) (find (has_key kind_of number_of 1 n) ws)) same ∙ ap (cond (has_number n w) (Some w)) more.0,
      ap (λ b. cond (not b) (w ∷ filter (λ v. not (has_key kind_of number_of 1 n v)) ws) (filter (λ v. not (has_key kind_of number_of 1 n v)) ws)) same
          ∙ ap (λ r. cond (not (has_number n w)) (w ∷ r) r) more.1,
    )
  where
    by_kind : (w : Window) → has_key kind_of number_of 0 n w ≡ false → has_key kind_of number_of 1 n w ≡ has_number n w
    by_kind (window.Debounce number version value event first due) f = sym f
    by_kind (window.Batch number version value events due) f = refl
