-- What the bytes so far are in each state of the reader: where the text may end, they spell the value.
use Rattle.std.proofs.Common.{◌≡◌, ℕ, suc, ◌+◌, ◌≤◌, Bool, true, false, cond, List, [], ◌∷◌, ◌++◌, refl, sym, ◌∙◌, ap, subst, append_assoc, append-nil, ◌⊎◌, inl, inr, arith, length, Option, Some, None}
use Rattle.std.proofs.lemmas.Bool.{eqb-true}
use Rattle.std.specs.Prelude.{⊤, ◌==◌, codes}
use Rattle.json_text.proofs.Characters.{AreLeft, left_all, left-all-snoc, are-left-on, ended-is-character, start-left}
use Rattle.json_text.proofs.Numbers.{HasStage, stage-on, end-number}
use Rattle.json_text.proofs.Frames.{first_turn, opener, starts, IsFresh, IsDone, IsParted, IsReady, HasParts, fresh-space, done-space, parted-space, done-parted, ready-put, fresh-closed, done-closed, depth-snoc, depth-closed, spelling-closed, first-following}
use Rattle.json_text.specs.Bytes.{is_space}
use Rattle.json_text.specs.Lexical.{Pattern, characters, AreCharacters, none, more, IsNumber}
use Rattle.json_text.specs.Grammar.{Json, null, boolean, number, text, Parts, no_parts, part, spelling, Turn, whole, nothing, element, name, member, following, parts_at, may_stand, IsSpaces, IsValue, AreMore, IsText, depth, depth_of_parts}
use Rattle.json_text.specs.Automaton.{Frame, Mode, first, next, after, text_at, character, numeral, word, State, state, with_byte, put, closes, closed, close, open_at, begin_word, begin_number, begin_value, begin_after, begin, step_after, step_character, step_numeral, step_word, step_in, step, next_stage, may_end, left_after, has_ended, value_of, ended, only_part, start, takes_values, token}
use Rattle.json_text.specs.Entries.{bytes_below}
use Rattle.json_text.specs.declared.number.Stage.{Stage}
use Rattle.json_text.specs.declared.number.Stage.TheVariants as stage

pub record IsTextSoFar (w : List ℕ) : Type 0 where
  pub inside : List ℕ
  pub spelled : w ≡ 0x22 ∷ inside
  pub are_characters : AreCharacters inside

pub record IsInCharacter (w : List ℕ) (ps : List Pattern) : Type 0 where
  pub inside : List ℕ
  pub begun : List ℕ
  pub spelled : w ≡ 0x22 ∷ (inside ++ begun)
  pub are_characters : AreCharacters inside
  pub are_left : AreLeft begun ps
  pub left_is : ps ≡ left_all begun characters

pub record IsInWord (f : Frame) (w rest : List ℕ) (j : Json) : Type 0 where
  pub ready : IsReady f
  pub spelled : spelling j ≡ w ++ rest
  pub is_value : IsValue j
  pub flat : depth j ≡ 0
  pub stands : may_stand f.turn j ≡ true

pub record IsInNumber (f : Frame) (w : List ℕ) (s : Stage) : Type 0 where
  pub ready : IsReady f
  pub has_stage : HasStage s w
  pub stands : may_stand f.turn (number w) ≡ true

abbrev pub HasSome : List Pattern → Type 0
HasSome [] = ⊥
HasSome (p ∷ ps) = ⊤

abbrev pub GoesOn : List ℕ → Type 0
GoesOn [] = ⊥
GoesOn (b ∷ bs) = ⊤

abbrev pub Fits : Mode → Frame → Type 0
Fits first f = IsFresh f
Fits next f = IsParted f
Fits after f = IsDone f
Fits (text_at w) f = IsReady f × IsTextSoFar w
Fits (character w ps) f = IsReady f × IsInCharacter w ps × (has_ended ps ≡ false) × HasSome ps
Fits (numeral w s) f = IsInNumber f w s
Fits (word w rest j) f = IsInWord f w rest j × GoesOn rest

abbrev pub has_bracket : Turn → Bool
has_bracket whole = false
has_bracket nothing = false
has_bracket element = true
has_bracket name = true
has_bracket member = true

bracket-following : (t : Turn) → has_bracket t ≡ true → has_bracket (following t) ≡ true
bracket-following whole h = h
bracket-following nothing h = h
bracket-following element h = h
bracket-following name h = h
bracket-following member h = h

pub stands-any : (t : Turn) (j : Json) → takes_values t ≡ true → may_stand t j ≡ true
stands-any whole j h = refl
stands-any nothing j h = h
stands-any element j h = refl
stands-any name j h = absurd (cc)
stands-any member j h = refl

abbrev pub Nested : ℕ → Turn → List Frame → Type 0
Nested limit t [] = first_turn t ≡ whole
Nested limit t (g ∷ gs) = IsReady g × (depth_of_parts g.parts + length gs ≤ limit) × Nested limit g.turn gs × (takes_values g.turn ≡ true) × (has_bracket t ≡ true)

pub record Stands (limit : ℕ) (u : List ℕ) (s : State) : Type 0 where
  pub fits : Fits s.mode s.top
  pub shallow : depth_of_parts s.top.parts + length s.below ≤ limit
  pub nested : Nested limit s.top.turn s.below
  pub spelled : u ≡ bytes_below s.below ++ s.top.bytes ++ token s.mode

nested-following : (limit : ℕ) (t : Turn) (fs : List Frame) → Nested limit t fs → Nested limit (following t) fs
nested-following limit t [] h = first-following t ∙ h
nested-following limit t (g ∷ gs) h = (h.0, h.1, h.2, h.3, bracket-following t h.4)

-- ---- parts that are read

pub put-stands : (limit : ℕ) (u : List ℕ) (f : Frame) (fs : List Frame) (j : Json) (w : List ℕ)
    → IsReady f → IsValue j → may_stand f.turn j ≡ true → depth_of_parts f.parts + length fs ≤ limit → depth j + length fs ≤ limit → Nested limit f.turn fs → spelling j ≡ w → u ≡ bytes_below fs ++ f.bytes ++ w
    → Stands limit u (state after (put j f) fs)
put-stands limit u f fs j w r v s d e n k h = record {
  fits = ready-put f j r v s;
  shallow = depth-snoc f.parts j (length fs) limit d e;
  nested = nested-following limit f.turn fs n;
  spelled = h ∙ ap (λ (x : List ℕ). bytes_below fs ++ f.bytes ++ x) (sym k) ∙ append_assoc (bytes_below fs) f.bytes (spelling j) ∙ sym (append-nil (bytes_below fs ++ (f.bytes ++ spelling j)));
}

byte-on : (a b : List ℕ) (x : ℕ) → (a ++ b ++ []) ++ x ∷ [] ≡ a ++ (b ++ x ∷ []) ++ []
byte-on a b x = ap (λ (v : List ℕ). v ++ x ∷ []) (append-nil (a ++ b)) ∙ append_assoc a b (x ∷ []) ∙ sym (append-nil (a ++ (b ++ x ∷ [])))

token-on : (a b c : List ℕ) (x : ℕ) → (a ++ b ++ c) ++ x ∷ [] ≡ a ++ b ++ (c ++ x ∷ [])
token-on a b c x = append_assoc (a ++ b) c (x ∷ [])

pub record Before (limit : ℕ) (u : List ℕ) (f : Frame) (fs : List Frame) (w : List ℕ) : Type 0 where
  pub shallow : depth_of_parts f.parts + length fs ≤ limit
  pub nested : Nested limit f.turn fs
  pub spelled : u ≡ bytes_below fs ++ f.bytes ++ w

-- the statement of a step, for its answer
abbrev Leads : ℕ → List ℕ → Option State → Type 0
Leads limit u o = (t : State) → o ≡ Some t → length t.below ≤ limit → Stands limit u t

leads-some : (limit : ℕ) (u : List ℕ) (t : State) → (length t.below ≤ limit → Stands limit u t) → Leads limit u (Some t)
leads-some limit u t h s e l = let same : t ≡ s = cc in subst (λ (x : State). length x.below ≤ limit → Stands limit u x) same h l

leads-none : (limit : ℕ) (u : List ℕ) → Leads limit u None
leads-none limit u s e l = absurd (cc)

leads-cond : (limit : ℕ) (u : List ℕ) (b : Bool) (x y : Option State) → (b ≡ true → Leads limit u x) → (b ≡ false → Leads limit u y) → Leads limit u (cond b x y)
leads-cond limit u true x y h k = h refl
leads-cond limit u false x y h k = k refl

-- ---- each way of a step

spaced : (limit : ℕ) (u : List ℕ) (b : ℕ) (m n : Mode) (f : Frame) (fs : List Frame) → token m ≡ [] → token n ≡ [] → Before limit u f fs (token m) → Fits n (with_byte b f) → Leads limit (u ++ b ∷ []) (Some (state n (with_byte b f) fs))
spaced limit u b m n f fs e g h k = leads-some limit (u ++ b ∷ []) (state n (with_byte b f) fs) (λ l. record {
  fits = k;
  shallow = h.shallow;
  nested = h.nested;
  spelled = ap (λ (v : List ℕ). v ++ b ∷ []) (h.spelled ∙ ap (λ (v : List ℕ). bytes_below fs ++ f.bytes ++ v) e) ∙ byte-on (bytes_below fs) f.bytes b ∙ ap (λ (v : List ℕ). bytes_below fs ++ (f.bytes ++ b ∷ []) ++ v) (sym g);
})

close-leads : (limit : ℕ) (u : List ℕ) (b : ℕ) (f : Frame) (fs : List Frame) → closes f.turn b ≡ true → IsValue (closed f.turn (f.bytes ++ b ∷ []) f.parts) → Before limit u f fs [] → Leads limit (u ++ b ∷ []) (close b f fs)
close-leads limit u b f [] c v h = leads-none limit (u ++ b ∷ [])
close-leads limit u b f (g ∷ gs) c v h =
    let j : Json = closed f.turn (f.bytes ++ b ∷ []) f.parts in
    leads-some limit (u ++ b ∷ []) (state after (put j g) gs) (λ l.
    put-stands limit (u ++ b ∷ []) g gs j (f.bytes ++ b ∷ []) h.nested.0 v (stands-any g.turn j h.nested.3) h.nested.1
    (let d : depth j ≡ suc (depth_of_parts f.parts) = depth-closed f.turn (f.bytes ++ b ∷ []) f.parts in
    let s : depth_of_parts f.parts + suc (length gs) ≤ limit = h.shallow in omega arith)
    h.nested.2 (spelling-closed f.turn (f.bytes ++ b ∷ []) f.parts)
    (ap (λ (x : List ℕ). x ++ b ∷ []) (h.spelled ∙ append-nil (bytes_below gs ++ g.bytes ++ f.bytes)) ∙ append_assoc (bytes_below gs ++ g.bytes) f.bytes (b ∷ [])))

after-leads : (limit : ℕ) (u : List ℕ) (b : ℕ) (f : Frame) (fs : List Frame) → IsDone f → Before limit u f fs [] → Leads limit (u ++ b ∷ []) (step_after b f fs)
after-leads limit u b f fs d h =
    leads-cond limit (u ++ b ∷ []) (is_space b) (Some (state after (with_byte b f) fs)) (cond (closes f.turn b) (close b f fs) (cond (parts_at f.turn b) (Some (state next (with_byte b f) fs)) None))
    (λ e. spaced limit u b after after f fs refl refl h (done-space f b d e))
    (λ _. leads-cond limit (u ++ b ∷ []) (closes f.turn b) (close b f fs) (cond (parts_at f.turn b) (Some (state next (with_byte b f) fs)) None)
    (λ e. close-leads limit u b f fs e (done-closed f b d e) h)
    (λ _. leads-cond limit (u ++ b ∷ []) (parts_at f.turn b) (Some (state next (with_byte b f) fs)) None
    (λ e. spaced limit u b after next f fs refl refl h (done-parted f b d e))
    (λ _. leads-none limit (u ++ b ∷ []))))

-- a token begins
begun : (limit : ℕ) (u : List ℕ) (b : ℕ) (m : Mode) (f : Frame) (fs : List Frame) → token m ≡ b ∷ [] → Before limit u f fs [] → Fits m f → Leads limit (u ++ b ∷ []) (Some (state m f fs))
begun limit u b m f fs e h k = leads-some limit (u ++ b ∷ []) (state m f fs) (λ l. record {
  fits = k;
  shallow = h.shallow;
  nested = h.nested;
  spelled = ap (λ (v : List ℕ). v ++ b ∷ []) (h.spelled ∙ append-nil (bytes_below fs ++ f.bytes)) ∙ ap (λ (v : List ℕ). bytes_below fs ++ f.bytes ++ v) (sym e);
})

open-leads : (limit : ℕ) (u : List ℕ) (b : ℕ) (t : Turn) (f : Frame) (fs : List Frame) → IsReady f → takes_values f.turn ≡ true → opener t ≡ b ∷ [] → starts t ≡ true → has_bracket t ≡ true → Before limit u f fs [] → Leads limit (u ++ b ∷ []) (Some (open_at t b f fs))
open-leads limit u b t f fs r v o s k h = leads-some limit (u ++ b ∷ []) (open_at t b f fs) (λ l. record {
  fits = record { spaces = []; spelled = sym (append-nil (opener t) ∙ o); are_spaces = tt; parts = refl; starts_there = s };
  shallow = (let m : suc (length fs) ≤ limit = l in omega arith);
  nested = (r, h.shallow, h.nested, v, k);
  spelled = ap (λ (v : List ℕ). v ++ b ∷ []) (h.spelled ∙ append-nil (bytes_below fs ++ f.bytes)) ∙ sym (append-nil ((bytes_below fs ++ f.bytes) ++ b ∷ []));
})

word-leads : (limit : ℕ) (u : List ℕ) (b : ℕ) (f : Frame) (fs : List Frame) → IsReady f → takes_values f.turn ≡ true → Before limit u f fs [] → Leads limit (u ++ b ∷ []) (begin_word b f fs)
word-leads limit u b f fs r v h =
    leads-cond limit (u ++ b ∷ []) (b == 0x6e) (Some (state (word (b ∷ []) (codes "ull") null) f fs)) (cond (b == 0x74) (Some (state (word (b ∷ []) (codes "rue") (boolean true)) f fs)) (cond (b == 0x66) (Some (state (word (b ∷ []) (codes "alse") (boolean false)) f fs)) None))
    (λ e. begun limit u b (word (b ∷ []) (codes "ull") null) f fs refl h ((record { ready = r; spelled = ap (λ (x : ℕ). x ∷ codes "ull") (sym (eqb-true b 0x6e e)); is_value = tt; flat = refl; stands = stands-any f.turn null v }), tt))
    (λ _. leads-cond limit (u ++ b ∷ []) (b == 0x74) (Some (state (word (b ∷ []) (codes "rue") (boolean true)) f fs)) (cond (b == 0x66) (Some (state (word (b ∷ []) (codes "alse") (boolean false)) f fs)) None)
    (λ e. begun limit u b (word (b ∷ []) (codes "rue") (boolean true)) f fs refl h ((record { ready = r; spelled = ap (λ (x : ℕ). x ∷ codes "rue") (sym (eqb-true b 0x74 e)); is_value = tt; flat = refl; stands = stands-any f.turn (boolean true) v }), tt))
    (λ _. leads-cond limit (u ++ b ∷ []) (b == 0x66) (Some (state (word (b ∷ []) (codes "alse") (boolean false)) f fs)) None
    (λ e. begun limit u b (word (b ∷ []) (codes "alse") (boolean false)) f fs refl h ((record { ready = r; spelled = ap (λ (x : ℕ). x ∷ codes "alse") (sym (eqb-true b 0x66 e)); is_value = tt; flat = refl; stands = stands-any f.turn (boolean false) v }), tt))
    (λ _. leads-none limit (u ++ b ∷ []))))

number-leads : (limit : ℕ) (u : List ℕ) (b : ℕ) (f : Frame) (fs : List Frame) (o : Option Stage) → next_stage stage.Start b ≡ o → IsReady f → takes_values f.turn ≡ true → Before limit u f fs [] → Leads limit (u ++ b ∷ []) (begin_number b o f fs)
number-leads limit u b f fs None e r v h = word-leads limit u b f fs r v h
number-leads limit u b f fs (Some s) e r v h = begun limit u b (numeral (b ∷ []) s) f fs refl h
    (record { ready = r; has_stage = stage-on stage.Start b s [] refl e; stands = stands-any f.turn (number (b ∷ [])) v })

value-leads : (limit : ℕ) (u : List ℕ) (b : ℕ) (f : Frame) (fs : List Frame) → IsReady f → takes_values f.turn ≡ true → Before limit u f fs [] → Leads limit (u ++ b ∷ []) (begin_value b f fs)
value-leads limit u b f fs r v h =
    leads-cond limit (u ++ b ∷ []) (b == 0x5b) (Some (open_at element b f fs)) (cond (b == 0x7b) (Some (open_at name b f fs)) (begin_number b (next_stage stage.Start b) f fs))
    (λ e. open-leads limit u b element f fs r v (ap (λ (x : ℕ). x ∷ []) (sym (eqb-true b 0x5b e))) refl refl h)
    (λ _. leads-cond limit (u ++ b ∷ []) (b == 0x7b) (Some (open_at name b f fs)) (begin_number b (next_stage stage.Start b) f fs)
    (λ e. open-leads limit u b name f fs r v (ap (λ (x : ℕ). x ∷ []) (sym (eqb-true b 0x7b e))) refl refl h)
    (λ _. number-leads limit u b f fs (next_stage stage.Start b) refl r v h))

begin-after-leads : (limit : ℕ) (u : List ℕ) (b : ℕ) (t : Turn) (f : Frame) (fs : List Frame) → f.turn ≡ t → IsReady f → Before limit u f fs [] → Leads limit (u ++ b ∷ []) (begin_after t b f fs)
begin-after-leads limit u b whole f fs e r h = value-leads limit u b f fs r (ap takes_values e) h
begin-after-leads limit u b nothing f fs e r h = leads-none limit (u ++ b ∷ [])
begin-after-leads limit u b element f fs e r h = value-leads limit u b f fs r (ap takes_values e) h
begin-after-leads limit u b name f fs e r h = leads-none limit (u ++ b ∷ [])
begin-after-leads limit u b member f fs e r h = value-leads limit u b f fs r (ap takes_values e) h

begin-leads : (limit : ℕ) (u : List ℕ) (b : ℕ) (f : Frame) (fs : List Frame) → IsReady f → Before limit u f fs [] → Leads limit (u ++ b ∷ []) (begin b f fs)
begin-leads limit u b f fs r h =
    leads-cond limit (u ++ b ∷ []) (b == 0x22) (Some (state (text_at (b ∷ [])) f fs)) (begin_after f.turn b f fs)
    (λ e. begun limit u b (text_at (b ∷ [])) f fs refl h (r, record { inside = []; spelled = ap (λ (x : ℕ). x ∷ []) (eqb-true b 0x22 e); are_characters = none }))
    (λ _. begin-after-leads limit u b f.turn f fs refl r h)

-- a token goes on
gone-on : (limit : ℕ) (u : List ℕ) (b : ℕ) (w : List ℕ) (m : Mode) (f : Frame) (fs : List Frame) → token m ≡ w ++ b ∷ [] → Before limit u f fs w → Fits m f → Leads limit (u ++ b ∷ []) (Some (state m f fs))
gone-on limit u b w m f fs e h k = leads-some limit (u ++ b ∷ []) (state m f fs) (λ l. record {
  fits = k;
  shallow = h.shallow;
  nested = h.nested;
  spelled = ap (λ (v : List ℕ). v ++ b ∷ []) h.spelled ∙ token-on (bytes_below fs) f.bytes w b ∙ ap (λ (v : List ℕ). bytes_below fs ++ f.bytes ++ v) (sym e);
})

character-choice : (w : List ℕ) (p : Pattern) (ps : List Pattern) (f : Frame) → IsReady f → IsInCharacter w (p ∷ ps) → (v : Bool) → has_ended (p ∷ ps) ≡ v → Fits (cond v (text_at w) (character w (p ∷ ps))) f
character-choice w p ps f r h true e = (r, record { inside = h.inside ++ h.begun; spelled = h.spelled; are_characters = more h.inside h.begun h.are_characters (ended-is-character h.begun (p ∷ ps) h.are_left e) })
character-choice w p ps f r h false e = (r, h, e, tt)

character-token : (w : List ℕ) (p : Pattern) (ps : List Pattern) (v : Bool) → token (cond v (text_at w) (character w (p ∷ ps))) ≡ w
character-token w p ps true = refl
character-token w p ps false = refl

character-leads : (limit : ℕ) (u : List ℕ) (b : ℕ) (w : List ℕ) (ps : List Pattern) (f : Frame) (fs : List Frame) → IsReady f → Before limit u f fs w → IsInCharacter (w ++ b ∷ []) ps → Leads limit (u ++ b ∷ []) (step_character (w ++ b ∷ []) ps f fs)
character-leads limit u b w [] f fs r h k = leads-none limit (u ++ b ∷ [])
character-leads limit u b w (p ∷ ps) f fs r h k =
    gone-on limit u b w (cond (has_ended (p ∷ ps)) (text_at (w ++ b ∷ [])) (character (w ++ b ∷ []) (p ∷ ps))) f fs (character-token (w ++ b ∷ []) p ps (has_ended (p ∷ ps))) h
    (character-choice (w ++ b ∷ []) p ps f r k (has_ended (p ∷ ps)) refl)

in-character-on : (w : List ℕ) (ps : List Pattern) (b : ℕ) → IsInCharacter w ps → IsInCharacter (w ++ b ∷ []) (left_after b ps)
in-character-on w ps b h = record {
  inside = h.inside;
  begun = h.begun ++ b ∷ [];
  spelled = ap (λ (x : List ℕ). x ++ b ∷ []) h.spelled ∙ ap (λ (x : List ℕ). 0x22 ∷ x) (append_assoc h.inside h.begun (b ∷ []));
  are_characters = h.are_characters;
  are_left = are-left-on h.begun ps b h.are_left;
  left_is = ap (left_after b) h.left_is ∙ sym (left-all-snoc h.begun b characters);
}

in-character-start : (w : List ℕ) → IsTextSoFar w → IsInCharacter w characters
in-character-start w h = record { inside = h.inside; begun = []; spelled = h.spelled ∙ ap (λ (x : List ℕ). 0x22 ∷ x) (sym (append-nil h.inside)); are_characters = h.are_characters; are_left = start-left; left_is = refl }

pub stands-text : (t : Turn) (w : List ℕ) → (starts t ≡ true) ⊎ ((b : ℕ) × (parts_at t b ≡ true)) → may_stand t (text w) ≡ true
stands-text whole w h = refl
stands-text nothing w (inl h) = h
stands-text nothing w (inr h) = h.1
stands-text element w h = refl
stands-text name w h = refl
stands-text member w h = refl

ready-text : (f : Frame) (w : List ℕ) → IsReady f → may_stand f.turn (text w) ≡ true
ready-text f w (inl h) = stands-text f.turn w (inl h.starts_there)
ready-text f w (inr h) = stands-text f.turn w (inr (h.mark, h.separates))

put-leads : (limit : ℕ) (u : List ℕ) (b : ℕ) (w : List ℕ) (j : Json) (f : Frame) (fs : List Frame) → IsReady f → Before limit u f fs w → IsValue j → depth j ≡ 0 → may_stand f.turn j ≡ true → spelling j ≡ w ++ b ∷ [] → Leads limit (u ++ b ∷ []) (Some (state after (put j f) fs))
put-leads limit u b w j f fs r h v d s e = leads-some limit (u ++ b ∷ []) (state after (put j f) fs) (λ l.
    put-stands limit (u ++ b ∷ []) f fs j (w ++ b ∷ []) r v s h.shallow (let n : length fs ≤ limit = l in omega (arith, d)) h.nested e
    (ap (λ (x : List ℕ). x ++ b ∷ []) h.spelled ∙ token-on (bytes_below fs) f.bytes w b))

text-leads : (limit : ℕ) (u : List ℕ) (b : ℕ) (w : List ℕ) (f : Frame) (fs : List Frame) → IsReady f → IsTextSoFar w → Before limit u f fs w → Leads limit (u ++ b ∷ []) (step_in (text_at w) b f fs)
text-leads limit u b w f fs r t h =
    leads-cond limit (u ++ b ∷ []) (b == 0x22) (Some (state after (put (text (w ++ b ∷ [])) f) fs)) (step_character (w ++ b ∷ []) (left_after b characters) f fs)
    (λ e. put-leads limit u b w (text (w ++ b ∷ [])) f fs r h
    (record { inside = t.inside; spelled = ap (λ (x : List ℕ). x ++ b ∷ []) t.spelled ∙ ap (λ (x : ℕ). 0x22 ∷ t.inside ++ x ∷ []) (eqb-true b 0x22 e); characters = t.are_characters })
    refl (ready-text f (w ++ b ∷ []) r) refl)
    (λ _. character-leads limit u b w (left_after b characters) f fs r h (in-character-on w characters b (in-character-start w t)))

-- the number that ends here
pub number-put : (limit : ℕ) (u : List ℕ) (w : List ℕ) (s : Stage) (f : Frame) (fs : List Frame) → IsInNumber f w s → may_end s ≡ true → Before limit u f fs w → IsDone (put (number w) f) × Before limit u (put (number w) f) fs []
number-put limit u w s f fs n e h =
    let v : IsNumber w = end-number s w n.has_stage e in (
      ready-put f (number w) n.ready v n.stands,
      record {
        shallow = depth-snoc f.parts (number w) (length fs) limit h.shallow (let m : depth_of_parts f.parts + length fs ≤ limit = h.shallow in omega arith);
        nested = nested-following limit f.turn fs h.nested;
        spelled = h.spelled ∙ append_assoc (bytes_below fs) f.bytes w ∙ sym (append-nil (bytes_below fs ++ (f.bytes ++ w)));
      },
    )

number-stands : (t : Turn) (v w : List ℕ) → may_stand t (number v) ≡ true → may_stand t (number w) ≡ true
number-stands whole v w h = refl
number-stands nothing v w h = h
number-stands element v w h = refl
number-stands name v w h = h
number-stands member v w h = refl

numeral-leads : (limit : ℕ) (u : List ℕ) (b : ℕ) (w : List ℕ) (s : Stage) (o : Option Stage) (f : Frame) (fs : List Frame) → next_stage s b ≡ o → IsInNumber f w s → Before limit u f fs w → Leads limit (u ++ b ∷ []) (step_numeral b w s o f fs)
numeral-leads limit u b w s (Some t) f fs e n h = gone-on limit u b w (numeral (w ++ b ∷ []) t) f fs refl h
    (record { ready = n.ready; has_stage = stage-on s b t w n.has_stage e; stands = number-stands f.turn w (w ++ b ∷ []) n.stands })
numeral-leads limit u b w s None f fs e n h =
    leads-cond limit (u ++ b ∷ []) (may_end s) (step_after b (put (number w) f) fs) None
    (λ k. let p = number-put limit u w s f fs n k h in after-leads limit u b (put (number w) f) fs p.0 p.1)
    (λ _. leads-none limit (u ++ b ∷ []))

word-on : (limit : ℕ) (u : List ℕ) (b : ℕ) (w rest : List ℕ) (j : Json) (f : Frame) (fs : List Frame) → IsInWord f (w ++ b ∷ []) rest j → Before limit u f fs w → Leads limit (u ++ b ∷ []) (Some (step_word (w ++ b ∷ []) rest j f fs))
word-on limit u b w [] j f fs k h = put-leads limit u b w j f fs k.ready h k.is_value k.flat k.stands (k.spelled ∙ append-nil (w ++ b ∷ []))
word-on limit u b w (c ∷ cs) j f fs k h = gone-on limit u b w (word (w ++ b ∷ []) (c ∷ cs) j) f fs refl h (k, tt)

word-step-leads : (limit : ℕ) (u : List ℕ) (b : ℕ) (w rest : List ℕ) (j : Json) (f : Frame) (fs : List Frame) → IsInWord f w rest j → Before limit u f fs w → Leads limit (u ++ b ∷ []) (step_in (word w rest j) b f fs)
word-step-leads limit u b w [] j f fs k h = leads-none limit (u ++ b ∷ [])
word-step-leads limit u b w (c ∷ cs) j f fs k h =
    leads-cond limit (u ++ b ∷ []) (b == c) (Some (step_word (w ++ b ∷ []) cs j f fs)) None
    (λ e. word-on limit u b w cs j f fs (record { ready = k.ready; spelled = k.spelled ∙ ap (λ (x : ℕ). w ++ x ∷ cs) (sym (eqb-true b c e)) ∙ sym (append_assoc w (b ∷ []) cs); is_value = k.is_value; flat = k.flat; stands = k.stands }) h)
    (λ _. leads-none limit (u ++ b ∷ []))

step-in-leads : (limit : ℕ) (u : List ℕ) (b : ℕ) (m : Mode) (f : Frame) (fs : List Frame) → Fits m f → Before limit u f fs (token m) → Leads limit (u ++ b ∷ []) (step_in m b f fs)
step-in-leads limit u b first f fs k h =
    leads-cond limit (u ++ b ∷ []) (is_space b) (Some (state first (with_byte b f) fs)) (cond (closes f.turn b) (close b f fs) (begin b f fs))
    (λ e. spaced limit u b first first f fs refl refl h (fresh-space f b k e))
    (λ _. leads-cond limit (u ++ b ∷ []) (closes f.turn b) (close b f fs) (begin b f fs)
    (λ e. close-leads limit u b f fs e (fresh-closed f b k e) h)
    (λ _. begin-leads limit u b f fs (inl k) h))
step-in-leads limit u b next f fs k h =
    leads-cond limit (u ++ b ∷ []) (is_space b) (Some (state next (with_byte b f) fs)) (begin b f fs)
    (λ e. spaced limit u b next next f fs refl refl h (parted-space f b k e))
    (λ _. begin-leads limit u b f fs (inr k) h)
step-in-leads limit u b after f fs k h = after-leads limit u b f fs k h
step-in-leads limit u b (text_at w) f fs k h = text-leads limit u b w f fs k.0 k.1 h
step-in-leads limit u b (character w ps) f fs k h = character-leads limit u b w (left_after b ps) f fs k.0 h (in-character-on w ps b k.1)
step-in-leads limit u b (numeral w s) f fs k h = numeral-leads limit u b w s (next_stage s b) f fs refl k h
step-in-leads limit u b (word w rest j) f fs k h = word-step-leads limit u b w rest j f fs k.0 h

pub stands-on : (limit : ℕ) (u : List ℕ) (s t : State) (b : ℕ) → Stands limit u s → step s b ≡ Some t → length t.below ≤ limit → Stands limit (u ++ b ∷ []) t
unfolding step
stands-on limit u s t b h e l = step-in-leads limit u b s.mode s.top s.below h.fits (record { shallow = h.shallow; nested = h.nested; spelled = h.spelled }) t e l

pub start-stands : (limit : ℕ) → Stands limit [] start
start-stands limit = record { fits = record { spaces = []; spelled = refl; are_spaces = tt; parts = refl; starts_there = refl }; shallow = omega arith; nested = refl; spelled = refl }

-- ---- where the text may end

whole-turn : (t : Turn) → first_turn t ≡ whole → opener t ≡ []
whole-turn whole h = refl
whole-turn nothing h = refl
whole-turn element h = absurd (cc)
whole-turn name h = absurd (cc)
whole-turn member h = absurd (cc)

one-more : (js rest : Parts) (v j : Json) → js ≡ part v rest → only_part js ≡ Some j → (v ≡ j) × (rest ≡ no_parts)
one-more no_parts rest v j h e = absurd (cc)
one-more (part i no_parts) rest v j h e = let a : part i no_parts ≡ part v rest = h in let b : Some i ≡ Some j = e in ((cc), (cc))
one-more (part i (part k is)) rest v j h e = absurd (cc)

pub empty-more : (t : Turn) (w : List ℕ) (js : Parts) → js ≡ no_parts → AreMore t w js → w ≡ []
empty-more t w no_parts e h = h
empty-more t w (part i is) e h = absurd (cc)

whole-ended : (limit : ℕ) (u : List ℕ) (t : Turn) (w : List ℕ) (js : Parts) (inside spaces : List ℕ) (j : Json) → first_turn t ≡ whole → w ≡ opener t ++ inside ++ spaces → IsSpaces spaces → HasParts (first_turn t) inside t js → depth_of_parts js + 0 ≤ limit → u ≡ w → only_part js ≡ Some j → IsText u j × (depth j ≤ limit)
whole-ended limit u t w js inside spaces j o e a p d h k =
    let one = one-more js p.more p.value j p.parts k in
    let same : p.value ≡ j = one.0 in
    let rest : p.rest ≡ [] = empty-more (following (first_turn t)) p.rest p.more one.1 p.are_more in (
      record {
        before = p.before;
        after = spaces;
        spelled = h ∙ e ∙ ap (λ (x : List ℕ). x ++ inside ++ spaces) (whole-turn t o) ∙ ap (λ (x : List ℕ). x ++ spaces) p.spelled
            ∙ ap (λ (x : List ℕ). p.before ++ spelling p.value ++ x ++ spaces) rest ∙ ap (λ (x : List ℕ). x ++ spaces) (append-nil (p.before ++ spelling p.value))
            ∙ ap (λ (x : Json). p.before ++ spelling x ++ spaces) same;
        spaces_before = p.spaces;
        spaces_after = a;
        value = subst (λ (x : Json). IsValue x) same p.is_value;
      },
      (let m : depth_of_parts js ≤ limit = omega arith in
          let n : depth_of_parts (part p.value p.more) ≤ limit = subst (λ (x : Parts). depth_of_parts x ≤ limit) p.parts m in
          subst (λ (x : Json). depth x ≤ limit) same (omega arith)),
    )

done-ended : (limit : ℕ) (u : List ℕ) (f : Frame) (fs : List Frame) (j : Json) → IsDone f → Before limit u f fs [] → ended f fs ≡ Some j → IsText u j × (depth j ≤ limit)
done-ended limit u f [] j d h e = whole-ended limit u f.turn f.bytes f.parts d.inside d.spaces j h.nested d.spelled d.are_spaces d.has_parts h.shallow (h.spelled ∙ append-nil ([] ++ f.bytes)) e
done-ended limit u f (g ∷ gs) j d h e = absurd (cc)

numeral-ended : (limit : ℕ) (u : List ℕ) (w : List ℕ) (st : Stage) (f : Frame) (fs : List Frame) (j : Json) → (v : Bool) → may_end st ≡ v → IsInNumber f w st → Before limit u f fs w → cond v (ended (put (number w) f) fs) None ≡ Some j → IsText u j × (depth j ≤ limit)
numeral-ended limit u w st f fs j true k n h e = let p = number-put limit u w st f fs n k h in done-ended limit u (put (number w) f) fs j p.0 p.1 e
numeral-ended limit u w st f fs j false k n h e = absurd (cc)

ended-in : (limit : ℕ) (u : List ℕ) (m : Mode) (f : Frame) (fs : List Frame) (j : Json) → Fits m f → Before limit u f fs (token m) → value_of (state m f fs) ≡ Some j → IsText u j × (depth j ≤ limit)
unfolding value_of
ended-in limit u first f fs j k h e = absurd (cc)
ended-in limit u next f fs j k h e = absurd (cc)
ended-in limit u after f fs j k h e = done-ended limit u f fs j k h e
ended-in limit u (text_at w) f fs j k h e = absurd (cc)
ended-in limit u (character w ps) f fs j k h e = absurd (cc)
ended-in limit u (numeral w st) f fs j k h e = numeral-ended limit u w st f fs j (may_end st) refl k h e
ended-in limit u (word w rest i) f fs j k h e = absurd (cc)

pub may-end-here : (limit : ℕ) (u : List ℕ) (s : State) (j : Json) → Stands limit u s → value_of s ≡ Some j → IsText u j × (depth j ≤ limit)
unfolding value_of
may-end-here limit u s j h e = ended-in limit u s.mode s.top s.below j h.fits (record { shallow = h.shallow; nested = h.nested; spelled = h.spelled }) e
