-- The reader goes through each value of the grammar.
use Rattle.std.proofs.Common.{◌≡◌, ℕ, ◌≤◌, Bool, true, false, cond, ◌&&◌, ◌||◌, nat_le, List, [], ◌∷◌, ◌++◌, refl, sym, ◌∙◌, ap, subst, append_assoc, append-nil, ◌⊎◌, inl, inr, arith, length, Option, Some, None}
use Rattle.std.proofs.lemmas.Bool.{eqb-true, eq-eqb}
use Rattle.std.proofs.lemmas.Bool.Decides.{nat_tests}
use Rattle.std.specs.Prelude.{⊤, not, ◌==◌, codes, option_and_then}
use Rattle.json_text.proofs.Booleans.{and_left, and_right, chosen}
use Rattle.json_text.proofs.Characters.{parted_from, is-parted, parted-on, among-on, among-ended, not-ended, not-quote, no-empty}
use Rattle.json_text.proofs.Passing.{pass, number-passes}
use Rattle.json_text.specs.Bytes.{is_space, is_digit, is_leading_digit, is_exponent_mark}
use Rattle.json_text.specs.Lexical.{Pattern, in_class, matches, Among, characters, IsString, AreCharacters, none, more, IsNumber}
use Rattle.json_text.specs.Grammar.{Json, null, boolean, number, text, Parts, no_parts, part, is_text, Turn, whole, nothing, element, name, member, parts_at, may_stand, IsSpaces}
use Rattle.json_text.specs.Automaton.{Frame, takes_values, Mode, first, next, after, text_at, character, numeral, word, State, state, with_byte, snoc, put, closes, close, begin_value, begin_after, begin, step_after, step_character, step_in, step, next_stage, from_minus, may_end, left_after, has_ended, run}
use Rattle.json_text.specs.declared.number.Stage.{Stage}
use Rattle.json_text.specs.declared.number.Stage.TheVariants as stage

-- ---- runs

pub run-nil : (limit : ℕ) (s : State) → run limit [] s ≡ Some s
unfolding run
run-nil limit s = refl

within : (n limit : ℕ) → n ≤ limit → nat_le n limit ≡ true
within n limit h = grind (arith, nat_tests)

pub run-one : (limit : ℕ) (s t : State) (b : ℕ) (w : List ℕ) → step s b ≡ Some t → length t.below ≤ limit → run limit (b ∷ w) s ≡ run limit w t
unfolding run
run-one limit s t b w e h = rw (e, within (length t.below) limit h) refl

run-append-deep : (limit : ℕ) (v w : List ℕ) (t u : State) → ((x : State) → run limit v x ≡ Some t → run limit (v ++ w) x ≡ run limit w t) → (c : Bool) → cond c (run limit v u) None ≡ Some t → cond c (run limit (v ++ w) u) None ≡ run limit w t
run-append-deep limit v w t u f true e = f u e
run-append-deep limit v w t u f false e = absurd (cc)

run-append-at : (limit : ℕ) (b : ℕ) (v w : List ℕ) (t : State) → ((u : State) → run limit v u ≡ Some t → run limit (v ++ w) u ≡ run limit w t)
    → (o : Option State) → option_and_then (λ u. cond (nat_le (length u.below) limit) (run limit v u) None) o ≡ Some t
    → option_and_then (λ u. cond (nat_le (length u.below) limit) (run limit (v ++ w) u) None) o ≡ run limit w t
run-append-at limit b v w t f None e = absurd (cc)
run-append-at limit b v w t f (Some u) e = run-append-deep limit v w t u f (nat_le (length u.below) limit) e

pub run-append : (limit : ℕ) (v w : List ℕ) (s t : State) → run limit v s ≡ Some t → run limit (v ++ w) s ≡ run limit w t
unfolding run
run-append limit [] w s t e = let same : s ≡ t = cc in ap (λ (x : State). run limit w x) same
run-append limit (b ∷ v) w s t e = run-append-at limit b v w t (λ u k. run-append limit v w u t k) (step s b) e

pub step-in-is : (m : Mode) (f : Frame) (fs : List Frame) (b : ℕ) → step (state m f fs) b ≡ step_in m b f fs
unfolding step
step-in-is m f fs b = refl

-- one byte, inside the same brackets
run-on : (limit : ℕ) (m n : Mode) (f g : Frame) (fs : List Frame) (b : ℕ) (w : List ℕ) → step_in m b f fs ≡ Some (state n g fs) → length fs ≤ limit → run limit (b ∷ w) (state m f fs) ≡ run limit w (state n g fs)
run-on limit m n f g fs b w e h = run-one limit (state m f fs) (state n g fs) b w (step-in-is m f fs b ∙ e) h

-- ---- spaces

abbrev pub with_bytes : List ℕ → Frame → Frame
with_bytes w f = record f { bytes = f.bytes ++ w }

pub with-nothing : (f : Frame) → with_bytes [] f ≡ f
with-nothing f = ap (λ (x : List ℕ). record f { bytes = x }) (append-nil f.bytes)

with-more : (f : Frame) (b : ℕ) (w : List ℕ) → with_bytes w (with_byte b f) ≡ with_bytes (b ∷ w) f
with-more f b w = ap (λ (x : List ℕ). record f { bytes = x }) (append_assoc f.bytes (b ∷ []) w)

abbrev pub IsBetween : Mode → Type 0
IsBetween first = ⊤
IsBetween next = ⊤
IsBetween after = ⊤
IsBetween _ = ⊥

pub space-step : (m : Mode) (b : ℕ) (f : Frame) (fs : List Frame) → IsBetween m → is_space b ≡ true → step_in m b f fs ≡ Some (state m (with_byte b f) fs)
space-step first b f fs h k = rw k refl
space-step next b f fs h k = rw k refl
space-step after b f fs h k = rw k refl
space-step (text_at w) b f fs h k = absurd h
space-step (character w ps) b f fs h k = absurd h
space-step (numeral w s) b f fs h k = absurd h
space-step (word w rest j) b f fs h k = absurd h

pub spaces-run : (limit : ℕ) (w : List ℕ) (m : Mode) (f : Frame) (fs : List Frame) → IsBetween m → IsSpaces w → length fs ≤ limit → run limit w (state m f fs) ≡ Some (state m (with_bytes w f) fs)
spaces-run limit [] m f fs h k l = run-nil limit (state m f fs) ∙ ap (λ (x : Frame). Some (state m x fs)) (sym (with-nothing f))
spaces-run limit (b ∷ w) m f fs h k l = run-on limit m m f (with_byte b f) fs b w (space-step m b f fs h k.0) l ∙ spaces-run limit w m (with_byte b f) fs h k.1 l ∙ ap (λ (x : Frame). Some (state m x fs)) (with-more f b w)

-- ---- behind a value: a number has ended only at the next byte

abbrev pub IsAt : State → Frame → List Frame → Json → Type 0
IsAt s f fs j = (s ≡ state after (put j f) fs) ⊎ ((w : List ℕ) × (st : Stage) × (s ≡ state (numeral w st) f fs) × (may_end st ≡ true) × (j ≡ number w))

abbrev pub breaks : ℕ → Bool
breaks b = is_space b || (b == 0x2c) || (b == 0x3a) || (b == 0x5d) || (b == 0x7d)

no_digit : (b : ℕ) → breaks b ≡ true → is_digit b ≡ false
no_digit b h = grind (arith, nat_tests)

no_point : (b : ℕ) → breaks b ≡ true → (b == 0x2e) ≡ false
no_point b h = grind (arith, nat_tests)

no_mark : (b : ℕ) → breaks b ≡ true → is_exponent_mark b ≡ false
no_mark b h = grind (arith, nat_tests)

ends-there : (st : Stage) (b : ℕ) → may_end st ≡ true → breaks b ≡ true → next_stage st b ≡ None
ends-there stage.Start b e h = absurd (cc)
ends-there stage.Minus b e h = absurd (cc)
ends-there stage.Zero b e h = rw (no_point b h, no_mark b h) refl
ends-there stage.Whole b e h = rw (no_digit b h, no_point b h, no_mark b h) refl
ends-there stage.Point b e h = absurd (cc)
ends-there stage.Fraction b e h = rw (no_digit b h, no_mark b h) refl
ends-there stage.Mark b e h = absurd (cc)
ends-there stage.Sign b e h = absurd (cc)
ends-there stage.Exponent b e h = rw (no_digit b h) refl

pub numeral-after : (w : List ℕ) (st : Stage) (b : ℕ) (f : Frame) (fs : List Frame) → may_end st ≡ true → breaks b ≡ true → step_in (numeral w st) b f fs ≡ step_after b (put (number w) f) fs
numeral-after w st b f fs e h = rw (ends-there st b e h, e) refl

pub at-step : (s : State) (f : Frame) (fs : List Frame) (j : Json) (b : ℕ) → IsAt s f fs j → breaks b ≡ true → step s b ≡ step_after b (put j f) fs
at-step s f fs j b (inl h) k = ap (λ (x : State). step x b) h ∙ step-in-is after (put j f) fs b
at-step s f fs j b (inr h) k = ap (λ (x : State). step x b) h.2 ∙ step-in-is (numeral h.0 h.1) f fs b ∙ numeral-after h.0 h.1 b f fs h.3 k ∙ ap (λ (x : Json). step_after b (put x f) fs) (sym h.4)

pub space-breaks : (b : ℕ) → is_space b ≡ true → breaks b ≡ true
space-breaks b h = rw h refl

-- spaces, and then a byte that ends them
pub at-run : (limit : ℕ) (s t : State) (f : Frame) (fs : List Frame) (j : Json) (spaces : List ℕ) (b : ℕ) (w : List ℕ)
    → IsAt s f fs j → IsSpaces spaces → breaks b ≡ true → step_after b (with_bytes spaces (put j f)) fs ≡ Some t → length t.below ≤ limit → length fs ≤ limit
    → run limit (spaces ++ b ∷ w) s ≡ run limit w t
at-run limit s t f fs j [] b w h a k e l n =
    run-one limit s t b w (at-step s f fs j b h k ∙ ap (λ (x : Frame). step_after b x fs) (sym (with-nothing (put j f))) ∙ e) l
at-run limit s t f fs j (x ∷ xs) b w h a k e l n =
    run-one limit s (state after (with_byte x (put j f)) fs) x (xs ++ b ∷ w)
    (at-step s f fs j x h (space-breaks x a.0) ∙ space-step after x (put j f) fs tt a.0) n
    ∙ run-append limit xs (b ∷ w) (state after (with_byte x (put j f)) fs) (state after (with_bytes xs (with_byte x (put j f))) fs) (spaces-run limit xs after (with_byte x (put j f)) fs tt a.1 n)
    ∙ run-one limit (state after (with_bytes xs (with_byte x (put j f))) fs) t b w
    (step-in-is after (with_bytes xs (with_byte x (put j f))) fs b ∙ ap (λ (y : Frame). step_after b y fs) (with-more (put j f) x xs) ∙ e) l

-- ---- the first byte of a value

abbrev pub IsStart : Mode → Type 0
IsStart first = ⊤
IsStart next = ⊤
IsStart _ = ⊥

abbrev pub is_plain : ℕ → Bool
is_plain b = not (is_space b) && (not (b == 0x5d) && not (b == 0x7d))

not-closing : (t : Turn) (b : ℕ) → is_plain b ≡ true → closes t b ≡ false
not-closing whole b h = refl
not-closing nothing b h = refl
not-closing element b h = grind (arith, nat_tests)
not-closing name b h = grind (arith, nat_tests)
not-closing member b h = refl

not-true-is : (b : Bool) → not b ≡ true → b ≡ false
not-true-is true h = absurd (cc)
not-true-is false h = refl

not-space : (b : ℕ) → is_plain b ≡ true → is_space b ≡ false
not-space b h = not-true-is (is_space b) (and_left (not (is_space b)) (not (b == 0x5d) && not (b == 0x7d)) h)

pub start-step : (m : Mode) (b : ℕ) (f : Frame) (fs : List Frame) → IsStart m → is_plain b ≡ true → step_in m b f fs ≡ begin b f fs
start-step first b f fs h k = rw (not-space b k, not-closing f.turn b k) refl
start-step next b f fs h k = rw (not-space b k) refl
start-step after b f fs h k = absurd h
start-step (text_at w) b f fs h k = absurd h
start-step (character w ps) b f fs h k = absurd h
start-step (numeral w s) b f fs h k = absurd h
start-step (word w rest j) b f fs h k = absurd h

pub takes-begin : (t : Turn) (b : ℕ) (f : Frame) (fs : List Frame) → takes_values t ≡ true → begin_after t b f fs ≡ begin_value b f fs
takes-begin whole b f fs h = refl
takes-begin nothing b f fs h = absurd (cc)
takes-begin element b f fs h = refl
takes-begin name b f fs h = absurd (cc)
takes-begin member b f fs h = refl

pub start-value : (m : Mode) (b : ℕ) (f : Frame) (fs : List Frame) → IsStart m → is_plain b ≡ true → (b == 0x22) ≡ false → takes_values f.turn ≡ true → step_in m b f fs ≡ begin_value b f fs
start-value m b f fs h k q v = start-step m b f fs h k ∙ rw q (takes-begin f.turn b f fs v)

pub takes-as : (t : Turn) (j : Json) → is_text j ≡ false → may_stand t j ≡ true → takes_values t ≡ true
takes-as whole j e h = refl
takes-as nothing j e h = absurd (cc)
takes-as element j e h = refl
takes-as name j e h = absurd (cc)
takes-as member j e h = refl

-- ---- words

eqb-same : (c : ℕ) → (c == c) ≡ true
eqb-same c = eq-eqb c c refl

pub word-run : (limit : ℕ) (w : List ℕ) (c : ℕ) (cs : List ℕ) (j : Json) (f : Frame) (fs : List Frame) → length fs ≤ limit → run limit (c ∷ cs) (state (word w (c ∷ cs) j) f fs) ≡ Some (state after (put j f) fs)
word-run limit w c [] j f fs l =
    run-on limit (word w (c ∷ []) j) after f (put j f) fs c [] (rw (eqb-same c) refl) l ∙ run-nil limit (state after (put j f) fs)
word-run limit w c (d ∷ ds) j f fs l =
    run-on limit (word w (c ∷ d ∷ ds) j) (word (w ++ c ∷ []) (d ∷ ds) j) f f fs c (d ∷ ds) (rw (eqb-same c) refl) l ∙ word-run limit (w ++ c ∷ []) d ds j f fs l

pub null-run : (limit : ℕ) (m : Mode) (f : Frame) (fs : List Frame) → IsStart m → takes_values f.turn ≡ true → length fs ≤ limit → run limit (codes "null") (state m f fs) ≡ Some (state after (put null f) fs)
null-run limit m f fs h v l = run-on limit m (word (0x6e ∷ []) (codes "ull") null) f f fs 0x6e (codes "ull") (start-value m 0x6e f fs h refl refl v) l ∙ word-run limit (0x6e ∷ []) 0x75 (codes "ll") null f fs l

pub true-run : (limit : ℕ) (m : Mode) (f : Frame) (fs : List Frame) → IsStart m → takes_values f.turn ≡ true → length fs ≤ limit → run limit (codes "true") (state m f fs) ≡ Some (state after (put (boolean true) f) fs)
true-run limit m f fs h v l = run-on limit m (word (0x74 ∷ []) (codes "rue") (boolean true)) f f fs 0x74 (codes "rue") (start-value m 0x74 f fs h refl refl v) l ∙ word-run limit (0x74 ∷ []) 0x72 (codes "ue") (boolean true) f fs l

pub false-run : (limit : ℕ) (m : Mode) (f : Frame) (fs : List Frame) → IsStart m → takes_values f.turn ≡ true → length fs ≤ limit → run limit (codes "false") (state m f fs) ≡ Some (state after (put (boolean false) f) fs)
false-run limit m f fs h v l = run-on limit m (word (0x66 ∷ []) (codes "alse") (boolean false)) f f fs 0x66 (codes "alse") (start-value m 0x66 f fs h refl refl v) l ∙ word-run limit (0x66 ∷ []) 0x61 (codes "lse") (boolean false) f fs l

-- ---- numbers

numeral-run-at : (limit : ℕ) (v : List ℕ) (b : ℕ) (w : List ℕ) (s t : Stage) (f : Frame) (fs : List Frame) → length fs ≤ limit
    → ((u : Stage) → pass u w ≡ Some t → run limit w (state (numeral (v ++ b ∷ []) u) f fs) ≡ Some (state (numeral ((v ++ b ∷ []) ++ w) t) f fs))
    → (o : Option Stage) → next_stage s b ≡ o → option_and_then (λ u. pass u w) o ≡ Some t
    → run limit (b ∷ w) (state (numeral v s) f fs) ≡ Some (state (numeral (v ++ b ∷ w) t) f fs)
numeral-run-at limit v b w s t f fs l go None e k = absurd (cc)
numeral-run-at limit v b w s t f fs l go (Some u) e k =
    run-on limit (numeral v s) (numeral (v ++ b ∷ []) u) f f fs b w (rw e refl) l ∙ go u k ∙ ap (λ (x : List ℕ). Some (state (numeral x t) f fs)) (append_assoc v (b ∷ []) w)

pub numeral-run : (limit : ℕ) (v w : List ℕ) (s t : Stage) (f : Frame) (fs : List Frame) → pass s w ≡ Some t → length fs ≤ limit → run limit w (state (numeral v s) f fs) ≡ Some (state (numeral (v ++ w) t) f fs)
unfolding pass
numeral-run limit v [] s t f fs e l = let same : s ≡ t = cc in
    run-nil limit (state (numeral v s) f fs) ∙ ap (λ (x : Stage). Some (state (numeral v x) f fs)) same ∙ ap (λ (x : List ℕ). Some (state (numeral x t) f fs)) (sym (append-nil v))
numeral-run limit v (b ∷ w) s t f fs e l = numeral-run-at limit v b w s t f fs l (λ u k. numeral-run limit (v ++ b ∷ []) w u t f fs k l) (next_stage s b) refl e

zero-begins : (b : ℕ) → (b == 0x30) ≡ true → ((b == 0x2d) || is_digit b) ≡ true
zero-begins b h = rw (eqb-true b 0x30 h) refl

digit-begins : (b : ℕ) → is_leading_digit b ≡ true → ((b == 0x2d) || is_digit b) ≡ true
digit-begins b h = grind (arith, nat_tests)

begins-number : (b : ℕ) (u : Stage) → next_stage stage.Start b ≡ Some u → ((b == 0x2d) || is_digit b) ≡ true
begins-number b u e = elim (chosen (b == 0x2d) (Some stage.Minus) (from_minus b) (Some u) e) [
  | inl c ↦ rw c.0 refl
  | inr c ↦ elim (chosen (b == 0x30) (Some stage.Zero) (cond (is_leading_digit b) (Some stage.Whole) None) (Some u) c.1) [
    | inl d ↦ zero-begins b d.0
    | inr d ↦ elim (chosen (is_leading_digit b) (Some stage.Whole) None (Some u) d.1) [
      | inl x ↦ digit-begins b x.0
      | inr x ↦ absurd (cc)
    ]
  ]
]

number-plain : (b : ℕ) → ((b == 0x2d) || is_digit b) ≡ true → is_plain b ≡ true
number-plain b h = grind (arith, nat_tests)

number-no-quote : (b : ℕ) → ((b == 0x2d) || is_digit b) ≡ true → (b == 0x22) ≡ false
number-no-quote b h = grind (arith, nat_tests)

number-no-bracket : (b : ℕ) → ((b == 0x2d) || is_digit b) ≡ true → (b == 0x5b) ≡ false
number-no-bracket b h = grind (arith, nat_tests)

number-no-brace : (b : ℕ) → ((b == 0x2d) || is_digit b) ≡ true → (b == 0x7b) ≡ false
number-no-brace b h = grind (arith, nat_tests)

begin-numeral : (b : ℕ) (u : Stage) (f : Frame) (fs : List Frame) → next_stage stage.Start b ≡ Some u → begin_value b f fs ≡ Some (state (numeral (b ∷ []) u) f fs)
begin-numeral b u f fs e = let k = begins-number b u e in rw (number-no-bracket b k, number-no-brace b k, e) refl

number-run-first : (limit : ℕ) (m : Mode) (f : Frame) (fs : List Frame) (b : ℕ) (w : List ℕ) (t : Stage) → IsStart m → takes_values f.turn ≡ true → length fs ≤ limit
    → (o : Option Stage) → next_stage stage.Start b ≡ o → option_and_then (λ u. pass u w) o ≡ Some t
    → run limit (b ∷ w) (state m f fs) ≡ Some (state (numeral (b ∷ w) t) f fs)
number-run-first limit m f fs b w t h v l None e k = absurd (cc)
number-run-first limit m f fs b w t h v l (Some u) e k =
    let n = begins-number b u e in
    run-on limit m (numeral (b ∷ []) u) f f fs b w (start-value m b f fs h (number-plain b n) (number-no-quote b n) v ∙ begin-numeral b u f fs e) l
    ∙ numeral-run limit (b ∷ []) w u t f fs k l

number-run-at : (limit : ℕ) (m : Mode) (f : Frame) (fs : List Frame) (w : List ℕ) (t : Stage) → IsStart m → takes_values f.turn ≡ true → length fs ≤ limit → may_end t ≡ true → pass stage.Start w ≡ Some t
    → run limit w (state m f fs) ≡ Some (state (numeral w t) f fs)
unfolding pass
number-run-at limit m f fs [] t h v l e k = let same : stage.Start ≡ t = cc in let no : may_end stage.Start ≡ true = subst (λ (x : Stage). may_end x ≡ true) (sym same) e in absurd (cc)
number-run-at limit m f fs (b ∷ w) t h v l e k = number-run-first limit m f fs b w t h v l (next_stage stage.Start b) refl k

pub number-run : (limit : ℕ) (m : Mode) (f : Frame) (fs : List Frame) (w : List ℕ) → IsStart m → takes_values f.turn ≡ true → length fs ≤ limit → IsNumber w
    → (s : State) × (run limit w (state m f fs) ≡ Some s) × IsAt s f fs (number w)
number-run limit m f fs w h v l n =
    let p = number-passes w n in
    (state (numeral w p.0) f fs, number-run-at limit m f fs w p.0 h v l p.2 p.1, inr (w, p.0, refl, p.2, refl))

-- ---- strings

abbrev landing : List ℕ → List Pattern → Mode
landing w ps = cond (has_ended ps) (text_at w) (character w ps)

step-lands : (w : List ℕ) (ps : List Pattern) (p : Pattern) (f : Frame) (fs : List Frame) → Among ps p → step_character w ps f fs ≡ Some (state (landing w ps) f fs)
step-lands w [] p f fs h = absurd h
step-lands w (q ∷ qs) p f fs h = refl

pub pattern-run : (limit : ℕ) (cs : Pattern) (bs : List ℕ) (ps : List Pattern) (w : List ℕ) (f : Frame) (fs : List Frame) → length fs ≤ limit
    → Among ps cs → parted_from cs ps ≡ true → matches cs bs ≡ true → run limit bs (state (landing w ps) f fs) ≡ Some (state (text_at (w ++ bs)) f fs)
pattern-run limit [] [] ps w f fs l a p m = run-nil limit (state (landing w ps) f fs) ∙ rw (among-ended ps a, append-nil w) refl
pattern-run limit [] (b ∷ bs) ps w f fs l a p m = absurd (cc)
pattern-run limit (c ∷ cs) [] ps w f fs l a p m = absurd (cc)
pattern-run limit (c ∷ cs) (b ∷ bs) ps w f fs l a p m =
    let k : in_class c b ≡ true = and_left (in_class c b) (matches cs bs) m in
    let n = among-on c cs ps b k a in
    ap (λ (x : Bool). run limit (b ∷ bs) (state (cond x (text_at w) (character w ps)) f fs)) (not-ended c cs ps p)
    ∙ run-on limit (character w ps) (landing (w ++ b ∷ []) (left_after b ps)) f f fs b bs (step-lands (w ++ b ∷ []) (left_after b ps) cs f fs n) l
    ∙ pattern-run limit cs bs (left_after b ps) (w ++ b ∷ []) f fs l n (parted-on c cs ps b k p) (and_right (in_class c b) (matches cs bs) m)
    ∙ ap (λ (x : List ℕ). Some (state (text_at x) f fs)) (append_assoc w (b ∷ []) bs)

character-run-at : (limit : ℕ) (p : Pattern) (c : List ℕ) (w : List ℕ) (f : Frame) (fs : List Frame) → length fs ≤ limit → Among characters p → matches p c ≡ true → run limit c (state (text_at w) f fs) ≡ Some (state (text_at (w ++ c)) f fs)
character-run-at limit [] c w f fs l a m = absurd (no-empty a)
character-run-at limit (d ∷ ds) [] w f fs l a m = absurd (cc)
character-run-at limit (d ∷ ds) (b ∷ bs) w f fs l a m =
    let k : in_class d b ≡ true = and_left (in_class d b) (matches ds bs) m in
    let n = among-on d ds characters b k a in
    run-on limit (text_at w) (landing (w ++ b ∷ []) (left_after b characters)) f f fs b bs
    (rw (not-quote d ds b a k) (step-lands (w ++ b ∷ []) (left_after b characters) ds f fs n)) l
    ∙ pattern-run limit ds bs (left_after b characters) (w ++ b ∷ []) f fs l n (parted-on d ds characters b k (is-parted (d ∷ ds) a)) (and_right (in_class d b) (matches ds bs) m)
    ∙ ap (λ (x : List ℕ). Some (state (text_at x) f fs)) (append_assoc w (b ∷ []) bs)

characters-run : (limit : ℕ) (v : List ℕ) (w : List ℕ) (f : Frame) (fs : List Frame) → length fs ≤ limit → AreCharacters v → run limit v (state (text_at w) f fs) ≡ Some (state (text_at (w ++ v)) f fs)
characters-run limit v w f fs l none = run-nil limit (state (text_at w) f fs) ∙ ap (λ (x : List ℕ). Some (state (text_at x) f fs)) (sym (append-nil w))
characters-run limit v w f fs l (more u c h k) =
    run-append limit u c (state (text_at w) f fs) (state (text_at (w ++ u)) f fs) (characters-run limit u w f fs l h)
    ∙ character-run-at limit k.pattern c (w ++ u) f fs l k.known k.fits
    ∙ ap (λ (x : List ℕ). Some (state (text_at x) f fs)) (append_assoc w u c)

pub quote-run : (limit : ℕ) (w : List ℕ) (f : Frame) (fs : List Frame) → length fs ≤ limit → run limit (0x22 ∷ []) (state (text_at w) f fs) ≡ Some (state after (put (text (w ++ 0x22 ∷ [])) f) fs)
quote-run limit w f fs l = run-on limit (text_at w) after f (put (text (w ++ 0x22 ∷ [])) f) fs 0x22 [] refl l ∙ run-nil limit (state after (put (text (w ++ 0x22 ∷ [])) f) fs)

pub text-run : (limit : ℕ) (m : Mode) (f : Frame) (fs : List Frame) (w : List ℕ) → IsStart m → length fs ≤ limit → IsString w → run limit w (state m f fs) ≡ Some (state after (put (text w) f) fs)
text-run limit m f fs w h l t =
    ap (λ (x : List ℕ). run limit x (state m f fs)) t.spelled
    ∙ run-on limit m (text_at (0x22 ∷ [])) f f fs 0x22 (t.inside ++ 0x22 ∷ []) (start-step m 0x22 f fs h refl) l
    ∙ run-append limit t.inside (0x22 ∷ []) (state (text_at (0x22 ∷ [])) f fs) (state (text_at (0x22 ∷ t.inside)) f fs) (characters-run limit t.inside (0x22 ∷ []) f fs l t.characters)
    ∙ quote-run limit (0x22 ∷ t.inside) f fs l
    ∙ ap (λ (x : List ℕ). Some (state after (put (text x) f) fs)) (sym t.spelled)

-- ---- brackets

abbrev pub parts_on : Parts → Parts → Parts
parts_on js no_parts = js
parts_on js (part i is) = parts_on (snoc js i) is

parts-on-part : (j : Json) (js is : Parts) → parts_on (part j js) is ≡ part j (parts_on js is)
parts-on-part j js no_parts = refl
parts-on-part j js (part i is) = parts-on-part j (snoc js i) is

pub parts-on-none : (js : Parts) → parts_on no_parts js ≡ js
parts-on-none no_parts = refl
parts-on-none (part i is) = parts-on-part i no_parts is ∙ ap (λ (x : Parts). part i x) (parts-on-none is)

pub closes-breaks : (t : Turn) (b : ℕ) → closes t b ≡ true → breaks b ≡ true
closes-breaks whole b h = absurd (cc)
closes-breaks nothing b h = absurd (cc)
closes-breaks element b h = rw (eqb-true b 0x5d h) refl
closes-breaks name b h = rw (eqb-true b 0x7d h) refl
closes-breaks member b h = absurd (cc)

closes-no-space : (t : Turn) (b : ℕ) → closes t b ≡ true → is_space b ≡ false
closes-no-space whole b h = absurd (cc)
closes-no-space nothing b h = absurd (cc)
closes-no-space element b h = rw (eqb-true b 0x5d h) refl
closes-no-space name b h = rw (eqb-true b 0x7d h) refl
closes-no-space member b h = absurd (cc)

pub parts-break : (t : Turn) (b : ℕ) → parts_at t b ≡ true → breaks b ≡ true
parts-break whole b h = absurd (cc)
parts-break nothing b h = absurd (cc)
parts-break element b h = rw (eqb-true b 0x2c h) refl
parts-break name b h = rw (eqb-true b 0x2c h) refl
parts-break member b h = rw (eqb-true b 0x3a h) refl

parts-no-space : (t : Turn) (b : ℕ) → parts_at t b ≡ true → is_space b ≡ false
parts-no-space whole b h = absurd (cc)
parts-no-space nothing b h = absurd (cc)
parts-no-space element b h = rw (eqb-true b 0x2c h) refl
parts-no-space name b h = rw (eqb-true b 0x2c h) refl
parts-no-space member b h = rw (eqb-true b 0x3a h) refl

parts-no-close : (t : Turn) (b : ℕ) → parts_at t b ≡ true → closes t b ≡ false
parts-no-close whole b h = refl
parts-no-close nothing b h = refl
parts-no-close element b h = rw (eqb-true b 0x2c h) refl
parts-no-close name b h = rw (eqb-true b 0x2c h) refl
parts-no-close member b h = refl

pub close-step : (b : ℕ) (f : Frame) (fs : List Frame) → closes f.turn b ≡ true → step_after b f fs ≡ close b f fs
close-step b f fs h = rw (closes-no-space f.turn b h, h) refl

pub mark-step : (b : ℕ) (f : Frame) (fs : List Frame) → parts_at f.turn b ≡ true → step_after b f fs ≡ Some (state next (with_byte b f) fs)
mark-step b f fs h = rw (parts-no-space f.turn b h, parts-no-close f.turn b h, h) refl

pub fresh-close-step : (b : ℕ) (f : Frame) (fs : List Frame) → closes f.turn b ≡ true → step_in first b f fs ≡ close b f fs
fresh-close-step b f fs h = rw (closes-no-space f.turn b h, h) refl
