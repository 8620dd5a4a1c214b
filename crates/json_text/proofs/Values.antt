-- The reader goes through each value, and through each text.
use Rattle.std.proofs.Common.{◌≡◌, ℕ, suc, ◌+◌, ◌≤◌, true, false, List, [], ◌∷◌, ◌++◌, refl, sym, ◌∙◌, ap, subst, append_assoc, inl, inr, arith, length, Some}
use Rattle.json_text.proofs.Reading.{run-nil, run-one, run-append, step-in-is, with_bytes, spaces-run, IsAt, at-run, at-step, space-breaks, IsStart, takes-as, start-value, null-run, true-run, false-run, number-run, text-run, parts_on, parts-on-none, closes-breaks, parts-break, close-step, mark-step, fresh-close-step}
use Rattle.json_text.specs.Bytes.{is_space}
use Rattle.json_text.specs.Grammar.{Json, null, boolean, number, text, array, object, Parts, no_parts, part, spelling, Turn, whole, element, name, following, turn_after, parts_at, may_stand, IsSpaces, IsValue, AreParts, AreMore, IsText, depth, depth_of_parts}
use Rattle.json_text.specs.Automaton.{Frame, Mode, first, next, after, State, state, with_byte, snoc, put, closes, closed, open_at, step_in, step_after, value_of, only_part, start, run}

abbrev Reads : ℕ → Mode → Frame → List Frame → Json → Type 0
Reads limit m f fs j = (s : State) × (run limit (spelling j) (state m f fs) ≡ Some s) × IsAt s f fs j

exact : (limit : ℕ) (m : Mode) (f : Frame) (fs : List Frame) (j : Json) → run limit (spelling j) (state m f fs) ≡ Some (state after (put j f) fs) → Reads limit m f fs j
exact limit m f fs j h = (state after (put j f) fs, h, inl refl)

regroup : (x before af sp rest end : List ℕ) (mark : ℕ) → ((((x ++ before) ++ mark ∷ []) ++ af) ++ sp) ++ (rest ++ end) ≡ x ++ ((((before ++ mark ∷ af) ++ sp) ++ rest) ++ end)
regroup x before af sp rest end mark = simp append_assoc

reorder : (before af sp rest end : List ℕ) (mark : ℕ) → (((before ++ mark ∷ af) ++ sp) ++ rest) ++ end ≡ before ++ mark ∷ (af ++ (sp ++ (rest ++ end)))
reorder before af sp rest end mark = simp append_assoc

reorder-first : (before sp rest end back : List ℕ) → (((before ++ sp) ++ rest) ++ end) ++ back ≡ before ++ (sp ++ (rest ++ (end ++ back)))
reorder-first before sp rest end back = simp append_assoc

regroup-first : (o before sp rest end : List ℕ) → ((o ++ before) ++ sp) ++ (rest ++ end) ≡ o ++ (((before ++ sp) ++ rest) ++ end)
regroup-first o before sp rest end = simp append_assoc

-- the state behind the closing bracket
abbrev Closed : Turn → List ℕ → Parts → ℕ → Frame → List Frame → State
Closed t w js b f fs = state after (put (closed t (w ++ b ∷ []) js) f) fs

closed-run : (limit : ℕ) (s : State) (g : Frame) (j : Json) (f : Frame) (fs : List Frame) (spaces : List ℕ) (b : ℕ)
    → IsAt s g (f ∷ fs) j → IsSpaces spaces → closes (following g.turn) b ≡ true → suc (length fs) ≤ limit
    → run limit (spaces ++ b ∷ []) s ≡ Some (Closed (following g.turn) ((g.bytes ++ spelling j) ++ spaces) (snoc g.parts j) b f fs)
closed-run limit s g j f fs spaces b h a c l =
    let t : State = Closed (following g.turn) ((g.bytes ++ spelling j) ++ spaces) (snoc g.parts j) b f fs in
    at-run limit s t g (f ∷ fs) j spaces b [] h a (closes-breaks (following g.turn) b c) (close-step b (with_bytes spaces (put j g)) (f ∷ fs) c) (let n : suc (length fs) ≤ limit = l in omega arith) l
    ∙ run-nil limit t

opened : (limit : ℕ) (m : Mode) (t : Turn) (c : ℕ) (f : Frame) (fs : List Frame) (w : List ℕ) → step_in m c f fs ≡ Some (open_at t c f fs) → suc (length fs) ≤ limit → run limit (c ∷ w) (state m f fs) ≡ run limit w (open_at t c f fs)
opened limit m t c f fs w e l = run-one limit (state m f fs) (open_at t c f fs) c w (step-in-is m f fs c ∙ e) l

abbrev frame : Turn → List ℕ → Parts → Frame
frame t w js = record { turn = t; bytes = w; parts = js }

turn-element : (js : Parts) → turn_after element js ≡ element
turn-element no_parts = refl
turn-element (part j js) = turn-element js

element-closes : (js : Parts) → closes (turn_after element js) 0x5d ≡ true
element-closes js = ap (λ (x : Turn). closes x 0x5d) (turn-element js)

closed-element : (js : Parts) (w inside : List ℕ) → w ≡ 0x5b ∷ inside ++ 0x5d ∷ [] → closed (turn_after element js) ((0x5b ∷ [] ++ inside) ++ 0x5d ∷ []) js ≡ array w js
closed-element js w inside e = ap (λ (x : Turn). closed x (0x5b ∷ inside ++ 0x5d ∷ []) js) (turn-element js) ∙ ap (λ (x : List ℕ). array x js) (sym e)

closed-name : (js : Parts) (w inside : List ℕ) → turn_after name js ≡ name → w ≡ 0x7b ∷ inside ++ 0x7d ∷ [] → closed (turn_after name js) ((0x7b ∷ [] ++ inside) ++ 0x7d ∷ []) js ≡ object w js
closed-name js w inside t e = ap (λ (x : Turn). closed x (0x7b ∷ inside ++ 0x7d ∷ []) js) t ∙ ap (λ (x : List ℕ). object x js) (sym e)

mutual
  pub value-runs : (j : Json) (limit : ℕ) (m : Mode) (f : Frame) (fs : List Frame) → IsStart m → IsValue j → may_stand f.turn j ≡ true → depth j + length fs ≤ limit → Reads limit m f fs j
  value-runs null limit m f fs h v s d = exact limit m f fs null (null-run limit m f fs h (takes-as f.turn null refl s) (omega arith))
  value-runs (boolean true) limit m f fs h v s d = exact limit m f fs (boolean true) (true-run limit m f fs h (takes-as f.turn (boolean true) refl s) (omega arith))
  value-runs (boolean false) limit m f fs h v s d = exact limit m f fs (boolean false) (false-run limit m f fs h (takes-as f.turn (boolean false) refl s) (omega arith))
  value-runs (number w) limit m f fs h v s d = number-run limit m f fs w h (takes-as f.turn (number w) refl s) (omega arith) v
  value-runs (text w) limit m f fs h v s d = exact limit m f fs (text w) (text-run limit m f fs w h (omega arith) v)
  value-runs (array w js) limit m f fs h v s d = exact limit m f fs (array w js)
      (let l : suc (length fs) ≤ limit = omega arith in
      ap (λ (x : List ℕ). run limit x (state m f fs)) v.1
      ∙ opened limit m element 0x5b f fs (v.0 ++ 0x5d ∷ []) (start-value m 0x5b f fs h refl refl (takes-as f.turn (array w js) refl s)) l
      ∙ parts-run js limit element v.0 (0x5b ∷ []) 0x5d f fs v.2 (element-closes js) (omega arith) l
      ∙ ap (λ (x : Json). Some (state after (put x f) fs)) (closed-element js w v.0 v.1))
  value-runs (object w js) limit m f fs h v s d = exact limit m f fs (object w js)
      (let l : suc (length fs) ≤ limit = omega arith in
      ap (λ (x : List ℕ). run limit x (state m f fs)) v.1
      ∙ opened limit m name 0x7b f fs (v.0 ++ 0x7d ∷ []) (start-value m 0x7b f fs h refl refl (takes-as f.turn (object w js) refl s)) l
      ∙ parts-run js limit name v.0 (0x7b ∷ []) 0x7d f fs v.2 (ap (λ (x : Turn). closes x 0x7d) v.3) (omega arith) l
      ∙ ap (λ (x : Json). Some (state after (put x f) fs)) (closed-name js w v.0 v.3 v.1))

  parts-run : (js : Parts) (limit : ℕ) (t : Turn) (w o : List ℕ) (b : ℕ) (f : Frame) (fs : List Frame) → AreParts t w js → closes (turn_after t js) b ≡ true → depth_of_parts js + suc (length fs) ≤ limit → suc (length fs) ≤ limit
      → run limit (w ++ b ∷ []) (state first (frame t o no_parts) (f ∷ fs)) ≡ Some (Closed (turn_after t js) (o ++ w) js b f fs)
  parts-run no_parts limit t w o b f fs p c d l =
      run-append limit w (b ∷ []) (state first (frame t o no_parts) (f ∷ fs)) (state first (frame t (o ++ w) no_parts) (f ∷ fs)) (spaces-run limit w first (frame t o no_parts) (f ∷ fs) tt p l)
      ∙ run-one limit (state first (frame t (o ++ w) no_parts) (f ∷ fs)) (Closed t (o ++ w) no_parts b f fs) b []
      (step-in-is first (frame t (o ++ w) no_parts) (f ∷ fs) b ∙ fresh-close-step b (frame t (o ++ w) no_parts) (f ∷ fs) c) (omega arith)
      ∙ run-nil limit (Closed t (o ++ w) no_parts b f fs)
  parts-run (part j js) limit t w o b f fs p c d l =
      let g : Frame = frame t (o ++ p.0) no_parts in
      let r = value-runs j limit first g (f ∷ fs) tt p.6 p.7 (omega arith) in
      ap (λ (x : List ℕ). run limit x (state first (frame t o no_parts) (f ∷ fs))) (ap (λ (x : List ℕ). x ++ b ∷ []) p.3 ∙ reorder-first p.0 (spelling j) p.1 p.2 (b ∷ []))
      ∙ run-append limit p.0 (spelling j ++ (p.1 ++ (p.2 ++ b ∷ []))) (state first (frame t o no_parts) (f ∷ fs)) (state first g (f ∷ fs)) (spaces-run limit p.0 first (frame t o no_parts) (f ∷ fs) tt p.4 l)
      ∙ run-append limit (spelling j) (p.1 ++ (p.2 ++ b ∷ [])) (state first g (f ∷ fs)) r.0 r.1
      ∙ more-runs js limit (following t) p.1 g j f fs r.0 p.2 b p.8 r.2 refl p.5 c (omega arith) l
      ∙ ap (λ (x : List ℕ). Some (Closed (turn_after (following t) js) x (parts_on (part j no_parts) js) b f fs)) (regroup-first o p.0 (spelling j) p.1 p.2 ∙ ap (λ (x : List ℕ). o ++ x) (sym p.3))
      ∙ ap (λ (x : Parts). Some (Closed (turn_after (following t) js) (o ++ w) x b f fs)) (parts-on-none (part j js))

  more-runs : (js : Parts) (limit : ℕ) (t : Turn) (rest : List ℕ) (g : Frame) (j : Json) (f : Frame) (fs : List Frame) (s : State) (end : List ℕ) (b : ℕ)
      → AreMore t rest js → IsAt s g (f ∷ fs) j → following g.turn ≡ t → IsSpaces end → closes (turn_after t js) b ≡ true → depth_of_parts js + suc (length fs) ≤ limit → suc (length fs) ≤ limit
      → run limit (rest ++ (end ++ b ∷ [])) s ≡ Some (Closed (turn_after t js) ((g.bytes ++ spelling j) ++ (rest ++ end)) (parts_on (snoc g.parts j) js) b f fs)
  more-runs no_parts limit t rest g j f fs s end b p h e a c d l =
      ap (λ (x : List ℕ). run limit (x ++ (end ++ b ∷ [])) s) p
      ∙ closed-run limit s g j f fs end b h a (subst (λ (x : Turn). closes x b ≡ true) (sym e) c) l
      ∙ ap (λ (x : Turn). Some (Closed x ((g.bytes ++ spelling j) ++ end) (snoc g.parts j) b f fs)) e
      ∙ ap (λ (x : List ℕ). Some (Closed t ((g.bytes ++ spelling j) ++ (x ++ end)) (snoc g.parts j) b f fs)) (sym p)
  more-runs (part i is) limit t rest g j f fs s end b p h e a c d l =
      let g1 : Frame = with_byte p.1 (with_bytes p.0 (put j g)) in
      let g2 : Frame = with_bytes p.2 g1 in
      let tail : List ℕ = spelling i ++ (p.3 ++ (end ++ b ∷ [])) in
      let marks : parts_at (following g.turn) p.1 ≡ true = subst (λ (x : Turn). parts_at x p.1 ≡ true) (sym e) p.7 in
      let r = value-runs i limit next g2 (f ∷ fs) tt p.8 (subst (λ (x : Turn). may_stand x i ≡ true) (sym e) p.9) (omega arith) in
      ap (λ (x : List ℕ). run limit x s) (ap (λ (x : List ℕ). x ++ (end ++ b ∷ [])) p.4 ∙ reorder p.0 p.2 (spelling i) p.3 (end ++ b ∷ []) p.1)
      ∙ at-run limit s (state next g1 (f ∷ fs)) g (f ∷ fs) j p.0 p.1 (p.2 ++ tail) h p.5 (parts-break (following g.turn) p.1 marks) (mark-step p.1 (with_bytes p.0 (put j g)) (f ∷ fs) marks) l l
      ∙ run-append limit p.2 tail (state next g1 (f ∷ fs)) (state next g2 (f ∷ fs)) (spaces-run limit p.2 next g1 (f ∷ fs) tt p.6 l)
      ∙ run-append limit (spelling i) (p.3 ++ (end ++ b ∷ [])) (state next g2 (f ∷ fs)) r.0 r.1
      ∙ more-runs is limit (following t) p.3 g2 i f fs r.0 end b p.10 r.2 (ap following e) a c (omega arith) l
      ∙ ap (λ (x : List ℕ). Some (Closed (turn_after (following t) is) x (parts_on (snoc (snoc g.parts j) i) is) b f fs))
      (regroup (g.bytes ++ spelling j) p.0 p.2 (spelling i) p.3 end p.1 ∙ ap (λ (x : List ℕ). (g.bytes ++ spelling j) ++ (x ++ end)) (sym p.4))

-- ---- whole texts

value-at : (s : State) (f : Frame) (j : Json) → IsAt s f [] j → f.parts ≡ no_parts → value_of s ≡ Some j
unfolding value_of
value-at s f j (inl h) e = ap value_of h ∙ ap (λ (x : Parts). only_part (snoc x j)) e
value-at s f j (inr h) e = ap value_of h.2 ∙ rw (h.3) (ap (λ (x : Parts). only_part (snoc x (number h.0))) e ∙ ap Some (sym h.4))

space-after : (b : ℕ) (f : Frame) → is_space b ≡ true → step_after b f [] ≡ Some (state after (with_byte b f) [])
space-after b f h = rw h refl

spaces-end : (limit : ℕ) (s : State) (f : Frame) (j : Json) (w : List ℕ) → IsAt s f [] j → f.parts ≡ no_parts → IsSpaces w → (t : State) × (run limit w s ≡ Some t) × (value_of t ≡ Some j)
unfolding value_of
spaces-end limit s f j [] h e a = (s, run-nil limit s, value-at s f j h e)
spaces-end limit s f j (b ∷ w) h e a =
    let g : Frame = with_byte b (put j f) in (
      state after (with_bytes w g) [],
      run-one limit s (state after g []) b w (at-step s f [] j b h (space-breaks b a.0) ∙ space-after b (put j f) a.0) (omega arith)
          ∙ spaces-run limit w after g [] tt a.1 (omega arith),
      value-at (state after (put j f) []) f j (inl refl) e,
    )

-- each text is read to its value
pub text-runs : (limit : ℕ) (w : List ℕ) (j : Json) → IsText w j → depth j ≤ limit → (t : State) × (run limit w start ≡ Some t) × (value_of t ≡ Some j)
text-runs limit w j h d =
    let g : Frame = frame whole h.before no_parts in
    let r = value-runs j limit first g [] tt h.value refl (omega arith) in
    let e = spaces-end limit r.0 g j h.after r.2 refl h.spaces_after in (
      e.0,
      ap (λ (x : List ℕ). run limit x start) (h.spelled ∙ append_assoc h.before (spelling j) h.after)
          ∙ run-append limit h.before (spelling j ++ h.after) start (state first g []) (spaces-run limit h.before first (frame whole [] no_parts) [] tt h.spaces_before (omega arith))
          ∙ run-append limit (spelling j) h.after (state first g []) r.0 r.1
          ∙ e.1,
      e.2,
    )
