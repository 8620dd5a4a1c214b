-- The order of fields and places.
use Rattle.std.proofs.Common.{◌≡◌, ℕ, true, not, List, [], ◌∷◌, ◌++◌, Option, Some, None, refl, sym, ap, ◌∙◌}
use Rattle.std.specs.Cmp.{IsTotalOrder}
use Rattle.std.specs.Cmp.Lexicographic.{slice_cmp, options_total}
use Rattle.std.specs.Option.{option_cmp}
use Rattle.std.specs.Ordering.{nat_cmp, ordering_then, is_lt, is_gt, is_eq}
use Rattle.std.specs.declared.cmp.Ordering.{Ordering}
use Rattle.std.specs.declared.cmp.Ordering.TheVariants.{Less, Equal, Greater}
use Rattle.std.proofs.lemmas.Cmp.{nat_list_cmp_total, lists_total, then_total, on_total}
use Rattle.std.proofs.lemmas.Map.Text.{is_eq-slice_cmp}
use Rattle.lists.proofs.Texts.{bytes_same}
use Rattle.matching.specs.declared.place.Field.{Field}
use Rattle.matching.specs.Places.{field_cmp, place_cmp, field_after, path_behind}

pub field_total : IsTotalOrder field_cmp
field_total = then_total (on_total (λ (f : Field). f.name) nat_list_cmp_total) (on_total (λ (f : Field). f.path) (options_total (lists_total nat_list_cmp_total)))

pub place_total : IsTotalOrder place_cmp
place_total = then_total (on_total (λ (p : Field × List ℕ). p.0) field_total) (on_total (λ (p : Field × List ℕ). p.1) nat_list_cmp_total)

-- ---- what ties is the same

then_tied : (o p : Ordering) → is_eq (ordering_then o p) ≡ true → (is_eq o ≡ true) × (is_eq p ≡ true)
then_tied Less p h = cc
then_tied Equal p h = (refl, h)
then_tied Greater p h = cc

text_same : (xs ys : List ℕ) → is_eq (slice_cmp nat_cmp xs ys) ≡ true → xs ≡ ys
text_same xs ys h = bytes_same xs ys (sym (is_eq-slice_cmp xs ys) ∙ h)

path_same : (ps qs : List (List ℕ)) → is_eq (slice_cmp (slice_cmp nat_cmp) ps qs) ≡ true → ps ≡ qs
path_same [] [] h = refl
path_same [] (q ∷ qs) h = cc
path_same (p ∷ ps) [] h = cc
path_same (p ∷ ps) (q ∷ qs) h =
    let both = then_tied (slice_cmp nat_cmp p q) (slice_cmp (slice_cmp nat_cmp) ps qs) h in
    ap (λ x. x ∷ ps) (text_same p q both.0) ∙ ap (λ xs. q ∷ xs) (path_same ps qs both.1)

option_same : (a b : Option (List (List ℕ))) → is_eq (option_cmp (slice_cmp (slice_cmp nat_cmp)) a b) ≡ true → a ≡ b
option_same None None h = refl
option_same None (Some q) h = cc
option_same (Some p) None h = cc
option_same (Some p) (Some q) h = ap Some (path_same p q h)

pub field_same : (a b : Field) → is_eq (field_cmp a b) ≡ true → a ≡ b
field_same a b h =
    let both = then_tied (slice_cmp nat_cmp a.name b.name) (option_cmp (slice_cmp (slice_cmp nat_cmp)) a.path b.path) h in
    ap (λ n. record { name = n; path = a.path }) (text_same a.name b.name both.0) ∙ ap (λ p. record { name = b.name; path = p }) (option_same a.path b.path both.1)

pub place_same : (p q : Field × List ℕ) → is_eq (place_cmp p q) ≡ true → p ≡ q
place_same p q h =
    let both = then_tied (field_cmp p.0 q.0) (slice_cmp nat_cmp p.1 q.1) h in
    ap (λ f. (f, p.1)) (field_same p.0 q.0 both.0) ∙ ap (λ v. (q.0, v)) (text_same p.1 q.1 both.1)

-- ---- the field after a field

-- nothing stands between a path and the path with an empty name behind it
behind : (ps qs : List (List ℕ)) → is_lt (slice_cmp (slice_cmp nat_cmp) ps (qs ++ [] ∷ [])) ≡ not (is_gt (slice_cmp (slice_cmp nat_cmp) ps qs))
behind [] [] = refl
behind [] (q ∷ qs) = refl
behind ([] ∷ []) [] = refl
behind ([] ∷ p ∷ ps) [] = refl
behind ((b ∷ bs) ∷ ps) [] = refl
behind (p ∷ ps) (q ∷ qs) = by_names (slice_cmp nat_cmp p q) (behind ps qs)
  where
    by_names : (o : Ordering) → is_lt (slice_cmp (slice_cmp nat_cmp) ps (qs ++ [] ∷ [])) ≡ not (is_gt (slice_cmp (slice_cmp nat_cmp) ps qs))
        → is_lt (ordering_then o (slice_cmp (slice_cmp nat_cmp) ps (qs ++ [] ∷ []))) ≡ not (is_gt (ordering_then o (slice_cmp (slice_cmp nat_cmp) ps qs)))
    by_names Less more = refl
    by_names Equal more = more
    by_names Greater more = refl

paths_behind : (a b : Option (List (List ℕ))) → is_lt (option_cmp (slice_cmp (slice_cmp nat_cmp)) a (Some (path_behind b))) ≡ not (is_gt (option_cmp (slice_cmp (slice_cmp nat_cmp)) a b))
paths_behind None None = refl
paths_behind None (Some q) = refl
paths_behind (Some []) None = refl
paths_behind (Some (p ∷ ps)) None = refl
paths_behind (Some p) (Some q) = behind p q

pub field_behind : (f g : Field) → is_lt (field_cmp f (field_after g)) ≡ not (is_gt (field_cmp f g))
field_behind f g = by_names (slice_cmp nat_cmp f.name g.name) (paths_behind f.path g.path)
  where
    by_names : (o : Ordering) → is_lt (option_cmp (slice_cmp (slice_cmp nat_cmp)) f.path (Some (path_behind g.path))) ≡ not (is_gt (option_cmp (slice_cmp (slice_cmp nat_cmp)) f.path g.path))
        → is_lt (ordering_then o (option_cmp (slice_cmp (slice_cmp nat_cmp)) f.path (Some (path_behind g.path)))) ≡ not (is_gt (ordering_then o (option_cmp (slice_cmp (slice_cmp nat_cmp)) f.path g.path)))
    by_names Less more = refl
    by_names Equal more = more
    by_names Greater more = refl
