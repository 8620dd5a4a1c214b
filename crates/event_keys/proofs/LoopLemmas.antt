-- One more item of a list that a loop goes over.
use Rattle.std.proofs.Common.{◌≡◌, ℕ, zero, suc, ◌+◌, ◌<◌, ◌≤◌, true, false, List, [], ◌∷◌, length, get_or, drop, map, Option, Some, None, refl, sym, ap, ◌∙◌, arith, add-one}
use Rattle.std.proofs.Math.Seq.{drop-cons}
use Rattle.expr.specs.Tree.{Tree, Trees, none, more}
use Rattle.expr.specs.Trees.{more_all, tree_of, trees_of}
use Rattle.expr.specs.declared.term.Term.{Term}
use Rattle.json_text.specs.Grammar.{Json}
use Rattle.json_text.specs.Text.{member_of}
use Rattle.event_keys.specs.Buckets.{found_text, member_at, names_fresh, name_fresh, value_in}
use Rattle.event_keys.specs.Expressions.{json_of}

-- ---- names of a path

pub nowhere : (names : List (List ℕ)) → member_at None names ≡ None
nowhere [] = refl
nowhere (n ∷ ns) = nowhere ns

pub further : (v : Json) (names : List (List ℕ)) (i : ℕ) (d : List ℕ) → i < length names → member_at (Some v) (drop i names) ≡ member_at (member_of v (get_or names i d)) (drop (i + 1) names)
further v names i d h = rw add-one (ap (member_at (Some v)) (drop-cons names i d h))

pub found : (v : Json) (names : List (List ℕ)) (i : ℕ) (d : List ℕ) (w : Json) → i < length names → member_of v (get_or names i d) ≡ Some w → member_at (Some v) (drop i names) ≡ member_at (Some w) (drop (i + 1) names)
found v names i d w h e = further v names i d h ∙ ap (λ (o : Option Json). member_at o (drop (i + 1) names)) e

pub missed : (v : Json) (names : List (List ℕ)) (i : ℕ) (d : List ℕ) → i < length names → member_of v (get_or names i d) ≡ None → member_at (Some v) (drop i names) ≡ None
missed v names i d h e = further v names i d h ∙ ap (λ (o : Option Json). member_at o (drop (i + 1) names)) e ∙ nowhere (drop (i + 1) names)

pub arrived : (o : Option Json) (names : List (List ℕ)) (i : ℕ) → length names ≤ i → member_at o (drop i names) ≡ o
arrived o [] zero h = refl
arrived o [] (suc i) h = refl
arrived o (n ∷ ns) zero h = absurd (omega arith)
arrived o (n ∷ ns) (suc i) h = arrived o ns i (omega arith)

-- ---- items that name the fresh event

same_front : (a b : Trees) (xs : List Tree) → name_fresh a ≡ name_fresh b → name_fresh (more_all a xs) ≡ name_fresh (more_all b xs)
same_front a b [] h = h
same_front a b (x ∷ xs) h = same_front (more a x) (more b x) xs (rw h refl)

named_front : (a : Trees) (xs : List Tree) → name_fresh a ≡ true → name_fresh (more_all a xs) ≡ true
named_front a [] h = h
named_front a (x ∷ xs) h = named_front (more a x) xs (rw h refl)

items_step : (xs : List Term) (i : ℕ) (d : Term) → i < length xs → trees_of (drop i xs) ≡ more_all (more none (tree_of (get_or xs i d))) (map tree_of (drop (i + 1) xs))
items_step xs i d h = rw add-one (ap trees_of (drop-cons xs i d h))

pub not_named : (xs : List Term) (i : ℕ) (d : Term) → i < length xs → names_fresh (tree_of (get_or xs i d)) ≡ false → name_fresh (trees_of (drop i xs)) ≡ name_fresh (trees_of (drop (i + 1) xs))
not_named xs i d h e = ap name_fresh (items_step xs i d h) ∙ same_front (more none (tree_of (get_or xs i d))) none (map tree_of (drop (i + 1) xs)) e

pub is_named : (xs : List Term) (i : ℕ) (d : Term) → i < length xs → names_fresh (tree_of (get_or xs i d)) ≡ true → name_fresh (trees_of (drop i xs)) ≡ true
is_named xs i d h e = ap name_fresh (items_step xs i d h) ∙ named_front (more none (tree_of (get_or xs i d))) (map tree_of (drop (i + 1) xs)) e

pub none_left : (xs : List Term) (i : ℕ) → length xs ≤ i → name_fresh (trees_of (drop i xs)) ≡ false
none_left [] zero h = refl
none_left [] (suc i) h = refl
none_left (x ∷ xs) zero h = absurd (omega arith)
none_left (x ∷ xs) (suc i) h = none_left xs i (omega arith)

-- ---- an event that can't be read

pub nothing_at : (path : List (List ℕ)) (event : List ℕ) → json_of event ≡ None → None ≡ value_in path event
nothing_at path event h = sym (ap (λ (o : Option Json). found_text (member_at o path)) h ∙ ap found_text (nowhere path))
