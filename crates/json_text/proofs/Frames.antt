-- What the bytes and parts of an open bracket are, at each place of it.
use Rattle.std.proofs.Common.{◌≡◌, ℕ, suc, ◌+◌, ◌≤◌, Bool, true, false, List, [], ◌∷◌, ◌++◌, refl, sym, ◌∙◌, ap, subst, append_assoc, append-nil, ◌⊎◌, inl, inr, arith}
use Rattle.std.proofs.lemmas.Bool.{eqb-true}
use Rattle.json_text.proofs.Booleans.{each-snoc}
use Rattle.json_text.specs.Bytes.{is_space}
use Rattle.json_text.specs.Grammar.{Json, Parts, no_parts, part, spelling, Turn, whole, nothing, element, name, member, following, turn_after, parts_at, may_stand, IsSpaces, IsValue, AreParts, AreMore, depth, depth_of_parts}
use Rattle.json_text.specs.Automaton.{Frame, with_byte, snoc, put, closes, closed}

-- the turn of the first part, and the bracket before it
abbrev pub first_turn : Turn → Turn
first_turn whole = whole
first_turn nothing = whole
first_turn element = element
first_turn name = name
first_turn member = name

abbrev pub opener : Turn → List ℕ
opener whole = []
opener nothing = []
opener element = 0x5b ∷ []
opener name = 0x7b ∷ []
opener member = 0x7b ∷ []

abbrev pub starts : Turn → Bool
starts whole = true
starts nothing = false
starts element = true
starts name = true
starts member = false

pub first-following : (t : Turn) → first_turn (following t) ≡ first_turn t
first-following whole = refl
first-following nothing = refl
first-following element = refl
first-following name = refl
first-following member = refl

pub opener-following : (t : Turn) → opener (following t) ≡ opener t
opener-following whole = refl
opener-following nothing = refl
opener-following element = refl
opener-following name = refl
opener-following member = refl

pub starts-first : (t : Turn) → starts t ≡ true → first_turn t ≡ t
starts-first whole h = refl
starts-first nothing h = absurd (cc)
starts-first element h = refl
starts-first name h = refl
starts-first member h = absurd (cc)

-- the parts so far, with what stands between them
pub record HasParts (first : Turn) (w : List ℕ) (t : Turn) (js : Parts) : Type 0 where
  pub before : List ℕ
  pub value : Json
  pub rest : List ℕ
  pub more : Parts
  pub spelled : w ≡ before ++ spelling value ++ rest
  pub parts : js ≡ part value more
  pub turn : t ≡ turn_after (following first) more
  pub spaces : IsSpaces before
  pub is_value : IsValue value
  pub stands : may_stand first value ≡ true
  pub are_more : AreMore (following first) rest more

-- no part so far
pub record IsFresh (f : Frame) : Type 0 where
  pub spaces : List ℕ
  pub spelled : f.bytes ≡ opener f.turn ++ spaces
  pub are_spaces : IsSpaces spaces
  pub parts : f.parts ≡ no_parts
  pub starts_there : starts f.turn ≡ true

-- behind a part
pub record IsDone (f : Frame) : Type 0 where
  pub inside : List ℕ
  pub spaces : List ℕ
  pub spelled : f.bytes ≡ opener f.turn ++ inside ++ spaces
  pub are_spaces : IsSpaces spaces
  pub has_parts : HasParts (first_turn f.turn) inside f.turn f.parts

-- behind a separator
pub record IsParted (f : Frame) : Type 0 where
  pub inside : List ℕ
  pub before : List ℕ
  pub mark : ℕ
  pub after : List ℕ
  pub spelled : f.bytes ≡ opener f.turn ++ inside ++ (before ++ mark ∷ after)
  pub spaces_before : IsSpaces before
  pub separates : parts_at f.turn mark ≡ true
  pub spaces_after : IsSpaces after
  pub has_parts : HasParts (first_turn f.turn) inside f.turn f.parts

abbrev pub IsReady : Frame → Type 0
IsReady f = IsFresh f ⊎ IsParted f

-- ---- spaces

pub fresh-space : (f : Frame) (b : ℕ) → IsFresh f → is_space b ≡ true → IsFresh (with_byte b f)
fresh-space f b h k = record {
  spaces = h.spaces ++ b ∷ [];
  spelled = ap (λ (x : List ℕ). x ++ b ∷ []) h.spelled ∙ append_assoc (opener f.turn) h.spaces (b ∷ []);
  are_spaces = each-snoc is_space h.spaces b h.are_spaces k;
  parts = h.parts;
  starts_there = h.starts_there;
}

pub done-space : (f : Frame) (b : ℕ) → IsDone f → is_space b ≡ true → IsDone (with_byte b f)
done-space f b h k = record {
  inside = h.inside;
  spaces = h.spaces ++ b ∷ [];
  spelled = ap (λ (x : List ℕ). x ++ b ∷ []) h.spelled ∙ append_assoc (opener f.turn ++ h.inside) h.spaces (b ∷ []);
  are_spaces = each-snoc is_space h.spaces b h.are_spaces k;
  has_parts = h.has_parts;
}

pub parted-space : (f : Frame) (b : ℕ) → IsParted f → is_space b ≡ true → IsParted (with_byte b f)
parted-space f b h k = record {
  inside = h.inside;
  before = h.before;
  mark = h.mark;
  after = h.after ++ b ∷ [];
  spelled = ap (λ (x : List ℕ). x ++ b ∷ []) h.spelled ∙ append_assoc (opener f.turn ++ h.inside) (h.before ++ h.mark ∷ h.after) (b ∷ [])
      ∙ ap (λ (x : List ℕ). opener f.turn ++ h.inside ++ x) (append_assoc h.before (h.mark ∷ h.after) (b ∷ []));
  spaces_before = h.spaces_before;
  separates = h.separates;
  spaces_after = each-snoc is_space h.after b h.spaces_after k;
  has_parts = h.has_parts;
}

pub done-parted : (f : Frame) (b : ℕ) → IsDone f → parts_at f.turn b ≡ true → IsParted (with_byte b f)
done-parted f b h k = record {
  inside = h.inside;
  before = h.spaces;
  mark = b;
  after = [];
  spelled = ap (λ (x : List ℕ). x ++ b ∷ []) h.spelled ∙ append_assoc (opener f.turn ++ h.inside) h.spaces (b ∷ []);
  spaces_before = h.are_spaces;
  separates = k;
  spaces_after = tt;
  has_parts = h.has_parts;
}

-- ---- one more part

pub turn-snoc : (t : Turn) (js : Parts) (j : Json) → turn_after t (snoc js j) ≡ following (turn_after t js)
turn-snoc t no_parts j = refl
turn-snoc t (part i is) j = turn-snoc (following t) is j

pub more-snoc : (t : Turn) (w : List ℕ) (js : Parts) (before : List ℕ) (mark : ℕ) (after : List ℕ) (j : Json)
    → AreMore t w js → IsSpaces before → parts_at (turn_after t js) mark ≡ true → IsSpaces after → IsValue j → may_stand (turn_after t js) j ≡ true
    → AreMore t (w ++ (before ++ mark ∷ after ++ spelling j)) (snoc js j)
more-snoc t w no_parts before mark after j h a m b v s = (
  before,
  mark,
  after,
  [],
  ap (λ (x : List ℕ). x ++ (before ++ mark ∷ after ++ spelling j)) h ∙ sym (append-nil (before ++ mark ∷ after ++ spelling j)),
  a,
  b,
  m,
  v,
  s,
  refl,
)
more-snoc t w (part i is) before mark after j h a m b v s = (
  h.0,
  h.1,
  h.2,
  h.3 ++ (before ++ mark ∷ after ++ spelling j),
  ap (λ (x : List ℕ). x ++ (before ++ mark ∷ after ++ spelling j)) h.4 ∙ append_assoc (h.0 ++ h.1 ∷ h.2 ++ spelling i) h.3 (before ++ mark ∷ after ++ spelling j),
  h.5,
  h.6,
  h.7,
  h.8,
  h.9,
  more-snoc (following t) h.3 is before mark after j h.10 a m b v s,
)

pub parts-snoc : (first : Turn) (w : List ℕ) (t : Turn) (js : Parts) (before : List ℕ) (mark : ℕ) (after : List ℕ) (j : Json)
    → HasParts first w t js → IsSpaces before → parts_at t mark ≡ true → IsSpaces after → IsValue j → may_stand t j ≡ true
    → HasParts first (w ++ (before ++ mark ∷ after ++ spelling j)) (following t) (snoc js j)
parts-snoc first w t js before mark after j h a m b v s = record {
  before = h.before;
  value = h.value;
  rest = h.rest ++ (before ++ mark ∷ after ++ spelling j);
  more = snoc h.more j;
  spelled = ap (λ (x : List ℕ). x ++ (before ++ mark ∷ after ++ spelling j)) h.spelled ∙ append_assoc (h.before ++ spelling h.value) h.rest (before ++ mark ∷ after ++ spelling j);
  parts = ap (λ (x : Parts). snoc x j) h.parts;
  turn = ap following h.turn ∙ sym (turn-snoc (following first) h.more j);
  spaces = h.spaces;
  is_value = h.is_value;
  stands = h.stands;
  are_more = more-snoc (following first) h.rest h.more before mark after j h.are_more a
      (subst (λ (x : Turn). parts_at x mark ≡ true) h.turn m) b v (subst (λ (x : Turn). may_stand x j ≡ true) h.turn s);
}

one-part : (t : Turn) (w : List ℕ) (j : Json) → IsSpaces w → IsValue j → may_stand t j ≡ true → HasParts t (w ++ spelling j) (following t) (part j no_parts)
one-part t w j a v s = record {
  before = w;
  value = j;
  rest = [];
  more = no_parts;
  spelled = sym (append-nil (w ++ spelling j));
  parts = refl;
  turn = refl;
  spaces = a;
  is_value = v;
  stands = s;
  are_more = refl;
}

pub fresh-put : (f : Frame) (j : Json) → IsFresh f → IsValue j → may_stand f.turn j ≡ true → IsDone (put j f)
fresh-put f j h v s = record {
  inside = h.spaces ++ spelling j;
  spaces = [];
  spelled = ap (λ (x : List ℕ). x ++ spelling j) h.spelled ∙ append_assoc (opener f.turn) h.spaces (spelling j)
      ∙ ap (λ (x : List ℕ). x ++ (h.spaces ++ spelling j)) (sym (opener-following f.turn)) ∙ sym (append-nil (opener (following f.turn) ++ (h.spaces ++ spelling j)));
  are_spaces = tt;
  has_parts =
      subst (λ (x : Parts). HasParts (first_turn (following f.turn)) (h.spaces ++ spelling j) (following f.turn) (snoc x j)) (sym h.parts)
      (subst (λ (x : Turn). HasParts x (h.spaces ++ spelling j) (following f.turn) (part j no_parts)) (sym (first-following f.turn ∙ starts-first f.turn h.starts_there))
      (one-part f.turn h.spaces j h.are_spaces v s));
}

pub parted-put : (f : Frame) (j : Json) → IsParted f → IsValue j → may_stand f.turn j ≡ true → IsDone (put j f)
parted-put f j h v s = record {
  inside = h.inside ++ (h.before ++ h.mark ∷ h.after ++ spelling j);
  spaces = [];
  spelled = ap (λ (x : List ℕ). x ++ spelling j) h.spelled ∙ append_assoc (opener f.turn ++ h.inside) (h.before ++ h.mark ∷ h.after) (spelling j)
      ∙ append_assoc (opener f.turn) h.inside (h.before ++ h.mark ∷ h.after ++ spelling j)
      ∙ ap (λ (x : List ℕ). x ++ (h.inside ++ (h.before ++ h.mark ∷ h.after ++ spelling j))) (sym (opener-following f.turn))
      ∙ sym (append-nil (opener (following f.turn) ++ (h.inside ++ (h.before ++ h.mark ∷ h.after ++ spelling j))));
  are_spaces = tt;
  has_parts = subst (λ (x : Turn). HasParts x (h.inside ++ (h.before ++ h.mark ∷ h.after ++ spelling j)) (following f.turn) (snoc f.parts j)) (sym (first-following f.turn))
      (parts-snoc (first_turn f.turn) h.inside f.turn f.parts h.before h.mark h.after j h.has_parts h.spaces_before h.separates h.spaces_after v s);
}

pub ready-put : (f : Frame) (j : Json) → IsReady f → IsValue j → may_stand f.turn j ≡ true → IsDone (put j f)
ready-put f j (inl h) v s = fresh-put f j h v s
ready-put f j (inr h) v s = parted-put f j h v s

-- ---- the closing bracket

fresh-closed-at : (t : Turn) (w ws : List ℕ) (js : Parts) (b : ℕ) → w ≡ opener t ++ ws → IsSpaces ws → js ≡ no_parts → closes t b ≡ true → IsValue (closed t (w ++ b ∷ []) js)
fresh-closed-at whole w ws js b e a p h = absurd (cc)
fresh-closed-at nothing w ws js b e a p h = absurd (cc)
fresh-closed-at element w ws js b e a p h = rw p (ws, ap (λ (x : List ℕ). x ++ b ∷ []) e ∙ ap (λ (x : ℕ). 0x5b ∷ ws ++ x ∷ []) (eqb-true b 0x5d h), a)
fresh-closed-at name w ws js b e a p h = rw p (ws, ap (λ (x : List ℕ). x ++ b ∷ []) e ∙ ap (λ (x : ℕ). 0x7b ∷ ws ++ x ∷ []) (eqb-true b 0x7d h), a, refl)
fresh-closed-at member w ws js b e a p h = absurd (cc)

pub fresh-closed : (f : Frame) (b : ℕ) → IsFresh f → closes f.turn b ≡ true → IsValue (closed f.turn (f.bytes ++ b ∷ []) f.parts)
fresh-closed f b h k = fresh-closed-at f.turn f.bytes h.spaces f.parts b h.spelled h.are_spaces h.parts k

has-are : (first t : Turn) (w ws : List ℕ) (js : Parts) → HasParts first w t js → IsSpaces ws → AreParts first (w ++ ws) js
has-are first t w ws js h a = subst (λ (x : Parts). AreParts first (w ++ ws) x) (sym h.parts)
    (h.before, h.rest, ws, ap (λ (x : List ℕ). x ++ ws) h.spelled, h.spaces, a, h.is_value, h.stands, h.are_more)

turn-is : (first t : Turn) (w : List ℕ) (js : Parts) → HasParts first w t js → turn_after first js ≡ t
turn-is first t w js h = ap (λ (x : Parts). turn_after first x) h.parts ∙ sym h.turn

done-closed-at : (t : Turn) (w inside ws : List ℕ) (js : Parts) (b : ℕ) → w ≡ opener t ++ inside ++ ws → IsSpaces ws → HasParts (first_turn t) inside t js → closes t b ≡ true → IsValue (closed t (w ++ b ∷ []) js)
done-closed-at whole w i ws js b e a p h = absurd (cc)
done-closed-at nothing w i ws js b e a p h = absurd (cc)
done-closed-at element w i ws js b e a p h = (i ++ ws, ap (λ (x : List ℕ). x ++ b ∷ []) e ∙ ap (λ (x : ℕ). 0x5b ∷ (i ++ ws) ++ x ∷ []) (eqb-true b 0x5d h), has-are element element i ws js p a)
done-closed-at name w i ws js b e a p h = (i ++ ws, ap (λ (x : List ℕ). x ++ b ∷ []) e ∙ ap (λ (x : ℕ). 0x7b ∷ (i ++ ws) ++ x ∷ []) (eqb-true b 0x7d h), has-are name name i ws js p a, turn-is name name i js p)
done-closed-at member w i ws js b e a p h = absurd (cc)

pub done-closed : (f : Frame) (b : ℕ) → IsDone f → closes f.turn b ≡ true → IsValue (closed f.turn (f.bytes ++ b ∷ []) f.parts)
done-closed f b h k = done-closed-at f.turn f.bytes h.inside h.spaces f.parts b h.spelled h.are_spaces h.has_parts k

-- ---- depth

pub depth-snoc : (js : Parts) (j : Json) (n limit : ℕ) → depth_of_parts js + n ≤ limit → depth j + n ≤ limit → depth_of_parts (snoc js j) + n ≤ limit
depth-snoc no_parts j n limit h k = omega arith
depth-snoc (part i is) j n limit h k =
    let more : depth_of_parts (snoc is j) + n ≤ limit = depth-snoc is j n limit (omega arith) k in omega arith

pub depth-closed : (t : Turn) (w : List ℕ) (js : Parts) → depth (closed t w js) ≡ suc (depth_of_parts js)
depth-closed whole w js = refl
depth-closed nothing w js = refl
depth-closed element w js = refl
depth-closed name w js = refl
depth-closed member w js = refl

pub spelling-closed : (t : Turn) (w : List ℕ) (js : Parts) → spelling (closed t w js) ≡ w
spelling-closed whole w js = refl
spelling-closed nothing w js = refl
spelling-closed element w js = refl
spelling-closed name w js = refl
spelling-closed member w js = refl
