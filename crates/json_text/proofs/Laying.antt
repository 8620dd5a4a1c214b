-- Entries at the end of those that stand.
use Rattle.std.proofs.Common.{◌≡◌, ℕ, suc, ◌+◌, ◌<◌, ◌≤◌, ◌-◌, List, [], ◌∷◌, ◌++◌, refl, sym, ◌∙◌, ap, subst, append_assoc, append-nil, arith, length, length-append, take, drop, set, get_or}
use Rattle.std.specs.Prelude.{slice_range}
use Rattle.std.proofs.Math.Seq.{get_or-append_seam, set-append_seam, drop-append_seam}
use Rattle.std.proofs.lemmas.List.{drop-take, length-take}
use Rattle.json_text.specs.Grammar.{Json, Parts, no_parts, part, spelling, Turn, whole, nothing, element, name, member, following}
use Rattle.json_text.specs.Automaton.{Frame, snoc, closed}
use Rattle.json_text.specs.Nodes.{list_of, nodes, nodes_of, kind_of, parts_of}
use Rattle.json_text.specs.Entries.{Laid, IsEntry, AreEntries, turn_of, bytes_below, bracket_kind}
use Rattle.json_text.specs.Building.{AddsPart, IsLeaf, ended_entry}
use Rattle.json_text.specs.declared.bracket.Bracket.{Bracket}
use Rattle.json_text.specs.declared.entry.Entry.{Entry}
use Rattle.json_text.specs.declared.kind.Kind.{Kind}

pub list-snoc : (js : Parts) (j : Json) → list_of (snoc js j) ≡ list_of js ++ j ∷ []
list-snoc no_parts j = refl
list-snoc (part i is) j = ap (λ (x : List Json). i ∷ x) (list-snoc is j)

pub nodes-snoc : (js : Parts) (j : Json) → nodes_of (snoc js j) ≡ nodes_of js ++ nodes j
nodes-snoc no_parts j = append-nil (nodes j)
nodes-snoc (part i is) j = ap (λ (x : List Json). nodes i ++ x) (nodes-snoc is j) ∙ sym (append_assoc (nodes i) (nodes_of is) (nodes j))

pub count-snoc : (js : Parts) (j : Json) → length (list_of (snoc js j)) ≡ length (list_of js) + 1
count-snoc js j = ap length (list-snoc js j) ∙ length-append (list_of js) (j ∷ [])

pub entries-length : (w : List ℕ) (i : ℕ) (es : List Entry) (js : List Json) → AreEntries w i es js → length es ≡ length js
entries-length w i [] [] h = refl
entries-length w i [] (j ∷ js) h = absurd h
entries-length w i (e ∷ es) [] h = absurd h
entries-length w i (e ∷ es) (j ∷ js) h = ap suc (entries-length w (i + 1) es js h.1)

pub entries-append : (w : List ℕ) (i k : ℕ) (es fs : List Entry) (js ks : List Json) → AreEntries w i es js → k ≡ i + length es → AreEntries w k fs ks → AreEntries w i (es ++ fs) (js ++ ks)
entries-append w i k [] fs [] ks h e m = let same : k ≡ i = omega arith in subst (λ (x : ℕ). AreEntries w x fs ks) same m
entries-append w i k [] fs (j ∷ js) ks h e m = absurd h
entries-append w i k (x ∷ es) fs [] ks h e m = absurd h
entries-append w i k (x ∷ es) fs (j ∷ js) ks h e m = (h.0, entries-append w (i + 1) k es fs js ks h.1 (omega arith) m)

pub kind-following : (t : Turn) → bracket_kind (following t) ≡ bracket_kind t
kind-following whole = refl
kind-following nothing = refl
kind-following element = refl
kind-following name = refl
kind-following member = refl

-- one more part at the end
pub laid-add : (w : List ℕ) (es : List Entry) (b c : Bracket) (bs : List Bracket) (t : Turn) (js : Parts) (fs : List Frame) (new : List Entry) (j : Json)
    → AddsPart b c → AreEntries w (length es) new (nodes j) → Laid w es b bs t js fs → Laid w (es ++ new) c bs (following t) (snoc js j) fs
laid-add w es b c bs t js [] new j a n h =
    (a.1 t js j h.0, h.1, subst (λ (x : List Json). AreEntries w 0 (es ++ new) x) (sym (nodes-snoc js j)) (entries-append w 0 (length es) es new (nodes_of js) (nodes j) h.2 (omega arith) n))
laid-add w es b c bs t js (g ∷ gs) new j a n h = (
  h.0,
  h.1,
  h.2 ++ new,
  h.3,
  h.4,
  a.1 t js j h.5,
  ap (λ (x : List Entry). x ++ new) h.6 ∙ append_assoc h.0 (h.1 ∷ h.2) new,
  h.7,
  a.0 ∙ h.8,
  h.9 ∙ sym (kind-following t),
  h.10,
  subst (λ (x : List Json). AreEntries w (length h.0 + 1) (h.2 ++ new) x) (sym (nodes-snoc js j))
      (entries-append w (length h.0 + 1) (length es) h.2 new (nodes_of js) (nodes j) h.11 (ap length h.6 ∙ length-append h.0 (h.1 ∷ h.2) ∙ (omega arith)) n),
  h.12,
)

-- a value without parts
pub leaf-entry : (w : List ℕ) (i start stop : ℕ) (kind : Kind) (j : Json) → IsLeaf w start stop kind j → AreEntries w i (record { kind = kind; count = 0; start = start; stop = stop; next = i + 1 } ∷ []) (nodes j)
leaf-entry w i start stop kind j h = subst (λ (x : List Json). AreEntries w i (record { kind = kind; count = 0; start = start; stop = stop; next = i + 1 } ∷ []) x) (sym h.alone)
    (record { is_kind = h.is_kind; is_count = sym (ap length h.no_parts_there); ordered = h.ordered; within = h.within; slice = h.slice; is_next = ap (λ (x : ℕ). i + x) (sym (ap length h.alone)) }, tt)

pub put-laid : (w : List ℕ) (es : List Entry) (b c : Bracket) (bs : List Bracket) (t : Turn) (js : Parts) (fs : List Frame) (start stop next : ℕ) (kind : Kind) (j : Json)
    → AddsPart b c → next ≡ length es + 1 → IsLeaf w start stop kind j → Laid w es b bs t js fs
    → Laid w (es ++ record { kind = kind; count = 0; start = start; stop = stop; next = next } ∷ []) c bs (following t) (snoc js j) fs
put-laid w es b c bs t js fs start stop next kind j a e l h =
    subst (λ (x : ℕ). Laid w (es ++ record { kind = kind; count = 0; start = start; stop = stop; next = x } ∷ []) c bs (following t) (snoc js j) fs) (sym e)
    (laid-add w es b c bs t js fs (record { kind = kind; count = 0; start = start; stop = stop; next = length es + 1 } ∷ []) j a (leaf-entry w (length es) start stop kind j l) h)

-- the slice between two places
pub slice-between : (w a v : List ℕ) (stop : ℕ) → length a ≤ stop → take stop w ≡ a ++ v → slice_range w (length a) stop ≡ v
slice-between w a v stop h e =
    let sum : stop ≡ length a + (stop - length a) = omega arith in
    sym (drop-take (length a) (stop - length a) w) ∙ ap (λ (x : ℕ). drop (length a) (take x w)) (sym sum) ∙ ap (drop (length a)) e ∙ drop-append_seam a v

pub front-length : (w a v : List ℕ) (stop : ℕ) → stop ≤ length w → take stop w ≡ a ++ v → stop ≡ length a + length v
front-length w a v stop h e =
    let l : length (take stop w) ≡ length (a ++ v) = ap length e in
    omega (arith, length-take stop w, length-append a v)

snoc-same : {A : Type 0} (xs ys : List A) (x y : A) → xs ++ x ∷ [] ≡ ys ++ y ∷ [] → (xs ≡ ys) × (x ≡ y)
snoc-same [] [] x y e = (refl, (cc))
snoc-same [] (b ∷ []) x y e = absurd (cc)
snoc-same [] (b ∷ c ∷ ys) x y e = absurd (cc)
snoc-same (a ∷ []) [] x y e = absurd (cc)
snoc-same (a ∷ c ∷ xs) [] x y e = absurd (cc)
snoc-same (a ∷ xs) (b ∷ ys) x y e =
    let h : a ≡ b = cc in
    let t : xs ++ x ∷ [] ≡ ys ++ y ∷ [] = cc in
    let r = snoc-same xs ys x y t in
    let u : xs ≡ ys = r.0 in
    ((cc), r.1)

closed-nodes : (t : Turn) (v : List ℕ) (js : Parts) → nodes (closed t v js) ≡ closed t v js ∷ nodes_of js
closed-nodes whole v js = refl
closed-nodes nothing v js = refl
closed-nodes element v js = refl
closed-nodes name v js = refl
closed-nodes member v js = refl

closed-kind : (t : Turn) (v : List ℕ) (js : Parts) → bracket_kind t ≡ kind_of (closed t v js)
closed-kind whole v js = refl
closed-kind nothing v js = refl
closed-kind element v js = refl
closed-kind name v js = refl
closed-kind member v js = refl

closed-parts : (t : Turn) (v : List ℕ) (js : Parts) → parts_of (closed t v js) ≡ list_of js
closed-parts whole v js = refl
closed-parts nothing v js = refl
closed-parts element v js = refl
closed-parts name v js = refl
closed-parts member v js = refl

closed-spelling : (t : Turn) (v : List ℕ) (js : Parts) → spelling (closed t v js) ≡ v
closed-spelling whole v js = refl
closed-spelling nothing v js = refl
closed-spelling element v js = refl
closed-spelling name v js = refl
closed-spelling member v js = refl

pub close-laid : (w : List ℕ) (es new : List Entry) (b c out : Bracket) (bs bs' : List Bracket) (t : Turn) (js : Parts) (g : Frame) (gs : List Frame) (v : List ℕ) (stop : ℕ)
    → bs ≡ bs' ++ out ∷ [] → AddsPart out c → stop ≤ length w → take stop w ≡ bytes_below (g ∷ gs) ++ v
    → ((d : Entry) → b.entry < length es → new ≡ set es b.entry (ended_entry (get_or es b.entry d) b.count stop (length es)))
    → Laid w es b bs t js (g ∷ gs) → Laid w new c bs' (following g.turn) (snoc g.parts (closed t v js)) gs
close-laid w es new b c out bs bs' t js g gs v stop p a n e r h =
    let before = h.0 in let own = h.1 in let inside = h.2 in
    let j : Json = closed t v js in
    let same = snoc-same bs' h.4 out h.3 (sym p ∙ h.7) in
    let size : length es ≡ length before + suc (length inside) = ap length h.6 ∙ length-append before (own ∷ inside) in
    let lt : b.entry < length es = omega (arith, h.8) in
    let made : Entry = ended_entry own b.count stop (length es) in
    let place : get_or es b.entry own ≡ own = ap (λ (x : List Entry). get_or x b.entry own) h.6 ∙ ap (λ (x : ℕ). get_or (before ++ own ∷ inside) x own) h.8 ∙ get_or-append_seam before own inside own in
    let new-is : new ≡ before ++ made ∷ inside =
    r own lt ∙ ap (λ (x : Entry). set es b.entry (ended_entry x b.count stop (length es))) place
    ∙ ap (λ (x : List Entry). set x b.entry made) h.6 ∙ ap (λ (x : ℕ). set (before ++ own ∷ inside) x made) h.8 ∙ set-append_seam before own inside made in
    let bb : List ℕ = bytes_below (g ∷ gs) in
    let long : stop ≡ length bb + length v = front-length w bb v stop n e in
    let count : length inside ≡ length (nodes_of js) = entries-length w (length before + 1) inside (nodes_of js) h.11 in
    let entry : IsEntry w (length before) made j = record {
      is_kind = h.9 ∙ closed-kind t v js;
      is_count = h.5.is_count ∙ ap length (sym (closed-parts t v js));
      ordered = (let f : own.start ≡ length bb = h.10 in omega arith);
      within = n;
      slice = ap (λ (x : ℕ). slice_range w x stop) h.10 ∙ slice-between w bb v stop (omega arith) e ∙ sym (closed-spelling t v js);
      is_next = (let m : length (nodes j) ≡ suc (length (nodes_of js)) = ap length (closed-nodes t v js) in omega arith);
    } in
    let all : AreEntries w (length before) (made ∷ inside) (nodes j) = subst (λ (x : List Json). AreEntries w (length before) (made ∷ inside) x) (sym (closed-nodes t v js)) (entry, h.11) in
    let adds : AddsPart h.3 c = subst (λ (x : Bracket). AddsPart x c) same.1 a in
    subst (λ (x : List Entry). Laid w x c bs' (following g.turn) (snoc g.parts j) gs) (sym new-is)
    (subst (λ (x : List Bracket). Laid w (before ++ made ∷ inside) c x (following g.turn) (snoc g.parts j) gs) (sym same.0)
    (laid-add w before h.3 c h.4 g.turn g.parts gs (made ∷ inside) j adds all h.12))

pub laid-depth : (w : List ℕ) (es : List Entry) (b : Bracket) (bs : List Bracket) (t : Turn) (js : Parts) (fs : List Frame) → Laid w es b bs t js fs → length bs ≡ length fs
laid-depth w es b bs t js [] h = ap length h.1
laid-depth w es b bs t js (g ∷ gs) h =
    let k : length h.4 ≡ length gs = laid-depth w h.0 h.3 h.4 g.turn g.parts gs h.12 in
    ap length h.7 ∙ length-append h.4 (h.3 ∷ []) ∙ omega arith

pub laid-turn : (w : List ℕ) (es : List Entry) (b : Bracket) (bs : List Bracket) (t : Turn) (js : Parts) (fs : List Frame) → Laid w es b bs t js fs → turn_of b.turn ≡ t
laid-turn w es b bs t js [] h = h.0.is_turn
laid-turn w es b bs t js (g ∷ gs) h = h.5.is_turn
