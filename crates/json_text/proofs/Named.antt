-- The last member of a name, found from the first on.
use Rattle.std.proofs.Common.{◌≡◌, ℕ, ◌+◌, ◌<◌, ◌≤◌, Bool, true, false, cond, List, [], ◌∷◌, refl, sym, ◌∙◌, ap, subst, arith, length, length-drop, drop, Option, Some, None}
use Rattle.std.specs.Prelude.{bytes_eq, option_map, slice_get, IfSome, MatchOption}
use Rattle.std.proofs.lemmas.List.{drop_more}
use Rattle.std.proofs.lemmas.Option.{get_or_from_slice_get}
use Rattle.json_text.specs.Grammar.{Json, null}
use Rattle.json_text.specs.Nodes.{Document, nodes, value_at, IsNodeOf}
use Rattle.json_text.specs.Text.{text_of, or_else, last_named}
use Rattle.json_text.proofs.Walking.{IsPartAt, part-here}

pub or-none : (o : Option Json) → or_else o None ≡ o
or-none None = refl
or-none (Some j) = refl

or-assoc : (a b c : Option Json) → or_else (or_else a b) c ≡ or_else a (or_else b c)
or-assoc None b c = refl
or-assoc (Some j) b c = refl

-- the members before this place, by the last of them that has the name
pub record Found (root : Document) (ps : List Json) (name : List ℕ) (found : Option ℕ) (i : ℕ) : Type 0 where
  pub there : IfSome found (λ m. IsNodeOf root m)
  pub later : last_named name ps ≡ or_else (last_named name (drop i ps)) (option_map (λ m. value_at root m) found)

pub found-start : (root : Document) (ps : List Json) (name : List ℕ) → Found root ps name None 0
found-start root ps name = record { there = tt; later = sym (or-none (last_named name ps)) }

-- one member: the name at `index` and the value at `value`
pub record IsMember (root : Document) (ps : List Json) (index i : ℕ) : Type 0 where
  pub name_there : IsNodeOf root index
  pub value_there : IsNodeOf root (index + length (nodes (value_at root index)))
  pub both : drop i ps ≡ value_at root index ∷ value_at root (index + length (nodes (value_at root index))) ∷ drop (i + 2) ps
  pub on : IsPartAt root ps (index + length (nodes (value_at root index)) + length (nodes (value_at root (index + length (nodes (value_at root index)))))) (i + 2)

pub at-head : (ps : List Json) (i : ℕ) (v : Json) → i < length ps → slice_get ps i ≡ Some v → drop i ps ≡ v ∷ drop (i + 1) ps
at-head ps i v l e = drop_more ps i null l ∙ ap (λ (x : Json). x ∷ drop (i + 1) ps) (get_or_from_slice_get ps i v null e)

pub member-here : (root : Document) (ps : List Json) (index i : ℕ) → IsPartAt root ps index i → i + 1 < length ps → IsMember root ps index i
member-here root ps index i h l =
    let a = part-here root ps index i h (omega arith) in
    let n : ℕ = index + length (nodes (value_at root index)) in
    let b = part-here root ps n (i + 1) a.on l in
    let two : i + 1 + 1 ≡ i + 2 = omega arith in
    record {
      name_there = a.within;
      value_there = b.within;
      both = at-head ps i (value_at root index) (omega arith) a.is ∙ ap (λ (x : List Json). value_at root index ∷ x) (at-head ps (i + 1) (value_at root n) l b.is)
          ∙ ap (λ (x : ℕ). value_at root index ∷ value_at root n ∷ drop x ps) two;
      on = subst (λ (x : ℕ). IsPartAt root ps (n + length (nodes (value_at root n))) x) two b.on;
    }

newer-option : (root : Document) (named : Bool) (value : ℕ) (found : Option ℕ)
    → option_map (λ m. value_at root m) (cond named (Some value) found) ≡ or_else (cond named (Some (value_at root value)) None) (option_map (λ m. value_at root m) found)
newer-option root true value found = refl
newer-option root false value found = refl

newer-there : (root : Document) (named : Bool) (value : ℕ) (found : Option ℕ) → IsNodeOf root value → IfSome found (λ m. IsNodeOf root m) → IfSome (cond named (Some value) found) (λ m. IsNodeOf root m)
newer-there root true value found h k = h
newer-there root false value found h k = k

pub found-on : (root : Document) (ps : List Json) (name : List ℕ) (found new : Option ℕ) (named : Bool) (index i : ℕ) (m : IsMember root ps index i)
    → named ≡ bytes_eq (text_of (value_at root index)) name → new ≡ cond named (Some (index + length (nodes (value_at root index)))) found → Found root ps name found i → Found root ps name new (i + 2)
found-on root ps name found new named index i m e n h =
    let value : ℕ = index + length (nodes (value_at root index)) in
    record {
      there = subst (λ (x : Option ℕ). IfSome x (λ k. IsNodeOf root k)) (sym n) (newer-there root named value found m.value_there h.there);
      later = h.later
          ∙ ap (λ (x : List Json). or_else (last_named name x) (option_map (λ k. value_at root k) found)) m.both
          ∙ or-assoc (last_named name (drop (i + 2) ps)) (cond (bytes_eq (text_of (value_at root index)) name) (Some (value_at root value)) None) (option_map (λ k. value_at root k) found)
          ∙ ap (λ (x : Bool). or_else (last_named name (drop (i + 2) ps)) (or_else (cond x (Some (value_at root value)) None) (option_map (λ k. value_at root k) found))) (sym e)
          ∙ ap (λ (x : Option Json). or_else (last_named name (drop (i + 2) ps)) x) (sym (newer-option root named value found))
          ∙ ap (λ (x : Option ℕ). or_else (last_named name (drop (i + 2) ps)) (option_map (λ k. value_at root k) x)) (sym n);
    }

few-named : (name : List ℕ) (js : List Json) → length js ≤ 1 → last_named name js ≡ None
few-named name [] l = refl
few-named name (k ∷ []) l = refl
few-named name (k ∷ v ∷ rest) l = absurd (omega arith)

pub found-end : (root : Document) (ps : List Json) (name : List ℕ) (found : Option ℕ) (i : ℕ) → length ps ≤ i + 1 → Found root ps name found i
    → MatchOption found (last_named name ps ≡ None) (λ m. IsNodeOf root m × (last_named name ps ≡ Some (value_at root m)))
found-end root ps name None i l h = h.later ∙ or-none (last_named name (drop i ps)) ∙ few-named name (drop i ps) (omega (arith, length-drop i ps))
found-end root ps name (Some m) i l h =
    (h.there, h.later ∙ ap (λ (x : Option Json). or_else x (Some (value_at root m))) (few-named name (drop i ps) (omega (arith, length-drop i ps))))
