-- The maps of the windows after a window came, went or was replaced.
use Rattle.std.proofs.Common.{◌≡◌, ℕ, ◌==◌, ◌&&◌, arith, Bool, true, false, cond, not, List, [], ◌∷◌, Some, None, Option, refl, sym, ap, ◌∙◌, subst}
use Rattle.std.specs.List.{find, filter}
use Rattle.std.specs.List.Sorted.{IsStrictlySortedBy}
use Rattle.std.specs.Map.{lookup, keys_of, values_of, remove_entry}
use Rattle.std.specs.Option.{option_map}
use Rattle.std.specs.BTreeMap.{insert_entry, is_at}
use Rattle.std.proofs.lemmas.Option.{same_Some}
use Rattle.std.proofs.lemmas.Bool.{cond-true}
use Rattle.lists.specs.Entries as entries
use Rattle.lists.specs.Entries.{pair_cmp, AreApart}
use Rattle.lists.proofs.Keyed.{filter_none, without-insert}
use Rattle.ordered.specs.Indexes.{has_key, IsSorted}
use Rattle.ordered.proofs.Apart.{inserts, number_tells, found}
use Rattle.ordered.proofs.Placed.{none_keyed, left_by}
use Rattle.ordered.proofs.Sorted.{sorted_put, sorted_take, sorted_found}
use Rattle.kinds.specs.Windows.{number_of, version_of, value_of, kind_of, place_of, has_number, is_of, others, without_number, insert_window, IsDated}
use Rattle.kinds.specs.declared.window.Window.{Window}
use Rattle.debounce_batch.specs.Held.{key_of, key_eq, key_cmp, AreOpen, AreHeld}
use Rattle.debounce_batch.proofs.Open.{key_tells, at_key, found_at, open_left, open_put, open_replaced, debounce_found, batch_found}
use Rattle.debounce_batch.proofs.Over.{sorted_over}

-- where a key's window stands, by the map
abbrev pub look : List ((ℕ × List ℕ) × (ℕ × ℕ)) → ℕ × List ℕ → Option (ℕ × ℕ)
look places key = lookup (is_at (key_cmp key)) places

-- what the map says after a key was written
abbrev pub Writes : ℕ × List ℕ → Option (ℕ × ℕ) → List ((ℕ × List ℕ) × (ℕ × ℕ)) → List ((ℕ × List ℕ) × (ℕ × ℕ)) → Type 0
Writes k p old new = (q : ℕ × List ℕ) → look new q ≡ cond (is_at (key_cmp k) q) p (look old q)

module _ (pairs after : List ((ℕ × ℕ) × Window)) (places : List ((ℕ × List ℕ) × (ℕ × ℕ))) (held : AreHeld pairs places) (w h : Window) (p : ℕ × ℕ) (at : p ≡ place_of w) (same : h ≡ w)
    (dated : IsDated w) (put : after ≡ insert_entry pair_cmp pairs p h) (ordered : IsStrictlySortedBy pair_cmp (keys_of after)) where
  module _ (fresh : find (has_number (number_of w)) (values_of pairs) ≡ None) where
    pub came : (values_of after ≡ insert_window w (values_of pairs)) × IsSorted kind_of number_of after
    came = sorted_put kind_of number_of pairs after w p.0 p.1 held.sorted (ap (λ q. q.0) at) (ap (λ q. q.1) at) (none_keyed kind_of number_of (kind_of w) (number_of w) (values_of pairs) fresh) (put ∙ ap (insert_entry pair_cmp pairs p) same) ordered

    pub added : (k : ℕ × List ℕ) (more : List ((ℕ × List ℕ) × (ℕ × ℕ))) → k ≡ key_of w → find (is_of (version_of w) (value_of w)) (values_of pairs) ≡ None → Writes k (Some p) places more
        → (values_of after ≡ insert_window w (values_of pairs)) × AreHeld after more
    added k more its alone u = (
      came.0,
      record {
        sorted = came.1;
        open_by = open_put (values_of pairs) (look places) held.open_by w (values_of after) (look more) dated alone fresh came.0
            (λ q. u q ∙ ap (λ b. cond b (Some p) (look places q)) (at_key k q) ∙ ap (λ x. cond (key_eq q x) (Some p) (look places q)) its ∙ ap (λ x. cond (key_eq q (key_of w)) (Some x) (look places q)) at);
      },
    )

    -- a window that came and went
    pub undone : (back : List ((ℕ × ℕ) × Window)) (more : List ((ℕ × List ℕ) × (ℕ × ℕ))) → back ≡ remove_entry (is_at (pair_cmp p)) after → IsStrictlySortedBy pair_cmp (keys_of back) → more ≡ places
        → (values_of back ≡ values_of pairs) × AreHeld back more
    undone back more r o s =
        let went = sorted_take kind_of number_of after back p.0 p.1 came.1 r o in
        let test : has_key kind_of number_of p.0 p.1 w ≡ true = ap (λ q. has_key kind_of number_of q.0 q.1 w) at ∙ itself (kind_of w) (number_of w) in
        let none : find (has_key kind_of number_of p.0 p.1) (values_of pairs) ≡ None = ap (λ q. find (has_key kind_of number_of q.0 q.1) (values_of pairs)) at ∙ none_keyed kind_of number_of (kind_of w) (number_of w) (values_of pairs) fresh in
        let left = went.0 ∙ ap (filter (λ x. not (has_key kind_of number_of p.0 p.1 x))) came.0
        ∙ without-insert pair_cmp (entries.key_of kind_of number_of) (inserts kind_of number_of) (has_key kind_of number_of p.0 p.1) w (values_of pairs) test none in (
          left,
          record { sorted = went.1; open_by = subst (λ ps. AreOpen (values_of back) (look ps)) (sym s) (subst (λ ws. AreOpen ws (look places)) (sym left) held.open_by) },
        )
      where
        itself : (a b : ℕ) → ((a == a) && (b == b)) ≡ true
        itself a b = ap (λ x. x && (b == b)) (number_tells.self a) ∙ number_tells.self b

  pub replaced : option_map place_of (find (is_of (version_of w) (value_of w)) (values_of pairs)) ≡ Some (place_of w)
      → (values_of after ≡ insert_window w (others (version_of w) (value_of w) (values_of pairs))) × AreHeld after places
  replaced place =
      let over = sorted_over kind_of number_of pairs after w p.0 p.1 held.sorted (ap (λ q. q.0) at) (ap (λ q. q.1) at) (put ∙ ap (insert_entry pair_cmp pairs p) same) ordered in
      let rest = (found_at (values_of pairs) (look places) held.open_by (key_of w) (place_of w) (sym (held.open_by.placed.placed (key_of w) ∙ place))).1 in
      let now = over.0 ∙ ap (insert_window w) rest in
      (now, record { sorted = over.1; open_by = by_entry (find (is_of (version_of w) (value_of w)) (values_of pairs)) refl place now })
    where
      by_entry : (f : Option Window) → find (is_of (version_of w) (value_of w)) (values_of pairs) ≡ f → option_map place_of f ≡ Some (place_of w)
          → values_of after ≡ insert_window w (others (version_of w) (value_of w) (values_of pairs)) → AreOpen (values_of after) (look places)
      by_entry None f g now = cc
      by_entry (Some v) f g now = open_replaced w v (values_of pairs) (values_of after) (look places) held.open_by dated f (same_Some (place_of v) (place_of w) g) now

module _ (pairs back : List ((ℕ × ℕ) × Window)) where
  -- a key's window went
  pub closed : (places less : List ((ℕ × List ℕ) × (ℕ × ℕ))) → AreHeld pairs places → (k : ℕ × List ℕ) (p : ℕ × ℕ) → Some p ≡ look places k → back ≡ remove_entry (is_at (pair_cmp p)) pairs
      → IsStrictlySortedBy pair_cmp (keys_of back) → Writes k None places less → (values_of back ≡ others k.0 k.1 (values_of pairs)) × AreHeld back less
  closed places less held k p h r o u =
      let went = sorted_take kind_of number_of pairs back p.0 p.1 held.sorted r o in
      let left = went.0 ∙ (found_at (values_of pairs) (look places) held.open_by k p h).1 in (
        left,
        record { sorted = went.1; open_by = open_left (values_of pairs) (look places) held.open_by k (values_of back) (look less) left (λ q. u q ∙ ap (λ b. cond b None (look places q)) (at_key k q)) },
      )

  -- a number's window went
  pub over_by : (places less : List ((ℕ × List ℕ) × (ℕ × ℕ))) → AreHeld pairs places → (n : ℕ) (w : Window) (k : ℕ × List ℕ) → Some w ≡ find (has_number n) (values_of pairs) → values_of back ≡ without_number n (values_of pairs)
      → IsSorted kind_of number_of back → k ≡ key_of w → Writes k None places less → AreHeld back less
  over_by places less held n w k f left s its u =
      let number : n ≡ number_of w = number_tells.same n (number_of w) (found (has_number n) (values_of pairs) w (sym f)) in
      let rest = ap (λ m. without_number m (values_of pairs)) number ∙ left_by key_tells key_of number_of (has_number n) (values_of pairs) w held.open_by.apart held.open_by.placed.apart (sym f) ∙ ap (λ q. others q.0 q.1 (values_of pairs)) (sym its) in
      record { sorted = s; open_by = open_left (values_of pairs) (look places) held.open_by k (values_of back) (look less) (left ∙ rest) (λ q. u q ∙ ap (λ b. cond b None (look places q)) (at_key k q)) }

  -- no window has the number
  pub none_over : (places : List ((ℕ × List ℕ) × (ℕ × ℕ))) → AreHeld pairs places → (n : ℕ) → None ≡ find (has_number n) (values_of pairs) → values_of back ≡ without_number n (values_of pairs) → IsSorted kind_of number_of back → AreHeld back places
  none_over places held n f left s = record { sorted = s; open_by = subst (λ ws. AreOpen ws (look places)) (sym (left ∙ filter_none (has_number n) (values_of pairs) (sym f))) held.open_by }

  module _ (sorted : IsSorted kind_of number_of pairs) (n : ℕ) where
    pub took_debounce : (w : Window) → AreApart number_of (values_of pairs) → Some w ≡ lookup (is_at (pair_cmp (0, n))) pairs → back ≡ remove_entry (is_at (pair_cmp (0, n))) pairs → IsStrictlySortedBy pair_cmp (keys_of back)
        → (find (has_number n) (values_of pairs) ≡ Some w) × (values_of back ≡ without_number n (values_of pairs)) × IsSorted kind_of number_of back
    took_debounce w a h r o =
        let at = debounce_found n (values_of pairs) w a (sym (h ∙ sorted_found kind_of number_of pairs 0 n sorted)) in
        let went = sorted_take kind_of number_of pairs back 0 n sorted r o in
        (at.0, went.0 ∙ at.1, went.1)

    pub took_batch : (same : List ((ℕ × ℕ) × Window)) (f : Option Window) → None ≡ lookup (is_at (pair_cmp (0, n))) pairs → same ≡ pairs → f ≡ lookup (is_at (pair_cmp (1, n))) same
        → back ≡ remove_entry (is_at (pair_cmp (1, n))) same → IsStrictlySortedBy pair_cmp (keys_of back)
        → (f ≡ find (has_number n) (values_of pairs)) × (values_of back ≡ without_number n (values_of pairs)) × IsSorted kind_of number_of back
    took_batch same f none s h r o =
        let at = batch_found n (values_of pairs) (sym (none ∙ sorted_found kind_of number_of pairs 0 n sorted)) in
        let went = sorted_take kind_of number_of pairs back 1 n sorted (r ∙ ap (remove_entry (is_at (pair_cmp (1, n)))) s) o in
        (h ∙ ap (lookup (is_at (pair_cmp (1, n)))) s ∙ sorted_found kind_of number_of pairs 1 n sorted ∙ at.0, went.0 ∙ at.1, went.1)
