-- What each arm of the code's step answers, as the automaton.
use Rattle.std.proofs.Common.{◌≡◌, ℕ, ◌+◌, ◌<◌, Bool, true, false, List, [], ◌∷◌, ◌++◌, refl, sym, ◌∙◌, ap, subst, append_assoc, Option, Some, None, Result, Ok, Err}
use Rattle.std.proofs.lemmas.Bool.{eqb-true, eq-eqb}
use Rattle.std.specs.Prelude.{⊤, ◌==◌, codes, OnOk, IfErr}
use Rattle.json_text.specs.Bytes.{is_space}
use Rattle.json_text.specs.Lexical.{Pattern}
use Rattle.json_text.specs.Grammar.{Json, null, boolean, number, text, Turn, whole, nothing, element, name, member, parts_at}
use Rattle.json_text.specs.Automaton.{token, Frame, Mode, closes, with_byte, first, next, after, text_at, character, numeral, word, State, state, put, begin, begin_after, begin_value, begin_number, takes_values, left_after, has_ended, step_in, step_after, step_character, step_word, next_stage, may_end}
use Rattle.json_text.specs.Nodes.{nodes, kind_of, parts_of}
use Rattle.json_text.specs.Building.{Puts}
use Rattle.json_text.specs.Reading.{IsMode, IsWithin, IsToken, Holds, Stays, Answers, Begins}
use Rattle.json_text.specs.Steps.{alternatives, next_within, rest_of, word_value, first_of}
use Rattle.json_text.proofs.Shown.{as-answer, goes-on, puts, number-stays}
use Rattle.json_text.proofs.Reading.{takes-begin}
use Rattle.json_text.proofs.Within.{within-leads, Leads}
use Rattle.json_text.specs.declared.character.Within.{Within}
use Rattle.json_text.specs.declared.character.Within.TheVariants as inside
use Rattle.json_text.specs.declared.fault.JsonFault.{JsonFault}
use Rattle.json_text.specs.declared.fault.JsonFault.TheVariants as fault
use Rattle.json_text.specs.declared.kind.Kind.{Kind}
use Rattle.json_text.specs.declared.kind.Kind.TheVariants as kind
use Rattle.json_text.specs.declared.number.Stage.{Stage}
use Rattle.json_text.specs.declared.number.Stage.TheVariants as stage
use Rattle.json_text.specs.declared.reader.Mode.{Mode as CodeMode}
use Rattle.json_text.specs.declared.reader.Mode.TheVariants as code
use Rattle.json_text.specs.declared.reader.Reader.{Reader}
use Rattle.json_text.specs.declared.word.Word.{Word}
use Rattle.json_text.specs.declared.word.Word.TheVariants as words

-- ---- the first byte of a part

pub not-eq : (a b : ℕ) → (a ≡ b → ⊥) → (a == b) ≡ false
not-eq a b h = go (a == b) refl
  where
    go : (v : Bool) → (a == b) ≡ v → v ≡ false
    go true e = absurd (h (eqb-true a b e))
    go false e = refl

pub begin-quote : (b : ℕ) (f : Frame) (fs : List Frame) → b ≡ 0x22 → begin b f fs ≡ Some (state (text_at (b ∷ [])) f fs)
begin-quote b f fs e = rw (eq-eqb b 0x22 e) refl

pub begin-values : (b : ℕ) (f : Frame) (fs : List Frame) → (b ≡ 0x22 → ⊥) → takes_values f.turn ≡ true → begin b f fs ≡ begin_value b f fs
begin-values b f fs n h = rw (not-eq b 0x22 n) (takes-begin f.turn b f fs h)

not-taken : (t : Turn) (b : ℕ) (f : Frame) (fs : List Frame) → takes_values t ≡ false → begin_after t b f fs ≡ None
not-taken whole b f fs h = absurd (cc)
not-taken nothing b f fs h = refl
not-taken element b f fs h = absurd (cc)
not-taken name b f fs h = refl
not-taken member b f fs h = absurd (cc)

pub begin-nothing : (b : ℕ) (f : Frame) (fs : List Frame) → (b ≡ 0x22 → ⊥) → takes_values f.turn ≡ false → begin b f fs ≡ None
begin-nothing b f fs n h = rw (not-eq b 0x22 n) (not-taken f.turn b f fs h)

pub begin-other : (b : ℕ) (f : Frame) (fs : List Frame) → (b ≡ 0x5b → ⊥) → (b ≡ 0x7b → ⊥) → begin_value b f fs ≡ begin_number b (next_stage stage.Start b) f fs
begin-other b f fs n m = rw (not-eq b 0x5b n, not-eq b 0x7b m) refl

pub begins-numeral : (b : ℕ) (s : Stage) → next_stage stage.Start b ≡ Some s → Begins b (Some (code.Number s))
begins-numeral b s e = (numeral (b ∷ []) s, refl, refl, tt, λ f fs. ap (λ (x : Option Stage). begin_number b x f fs) e)

pub begins-null : (b : ℕ) → b ≡ 0x6e → Begins b (Some (code.Word words.Ull))
begins-null b e = subst (λ (x : ℕ). Begins x (Some (code.Word words.Ull))) (sym e) (word (0x6e ∷ []) (codes "ull") null, (refl, refl, refl), refl, tt, λ f fs. refl)

pub begins-true : (b : ℕ) → b ≡ 0x74 → Begins b (Some (code.Word words.Rue))
begins-true b e = subst (λ (x : ℕ). Begins x (Some (code.Word words.Rue))) (sym e) (word (0x74 ∷ []) (codes "rue") (boolean true), (refl, refl, refl), refl, tt, λ f fs. refl)

pub begins-false : (b : ℕ) → b ≡ 0x66 → Begins b (Some (code.Word words.Alse))
begins-false b e = subst (λ (x : ℕ). Begins x (Some (code.Word words.Alse))) (sym e) (word (0x66 ∷ []) (codes "alse") (boolean false), (refl, refl, refl), refl, tt, λ f fs. refl)

-- ---- strings

pub text-ends : (w : List ℕ) (r s : Reader) (at byte : ℕ) (m : Mode) (f : Frame) (fs : List Frame) (u : ⊤)
    → s.bytes ≡ r.bytes → IsMode s.mode after → Puts r.builder r.start (at + 1) kind.Text s.builder → byte ≡ 0x22 → IsWithin inside.Between m → Holds w r at byte m f fs → Answers w at (step_in m byte f fs) (Ok u) s
text-ends w r s at byte first f fs u b i p e h k = absurd h
text-ends w r s at byte next f fs u b i p e h k = absurd h
text-ends w r s at byte after f fs u b i p e h k = absurd h
text-ends w r s at byte (text_at v) f fs u b i p e h k =
    puts w r s at byte (text_at v) f fs (text (v ++ byte ∷ [])) kind.Text (step_in (text_at v) byte f fs) u b i p refl refl refl tt k refl (rw (eq-eqb byte 0x22 e) refl)
text-ends w r s at byte (character v ps) f fs u b i p e h k = absurd (h.1 refl)
text-ends w r s at byte (numeral v st) f fs u b i p e h k = absurd h
text-ends w r s at byte (word v rest j) f fs u b i p e h k = absurd h

no-first : (x : Within) → IsWithin x first → ⊥
no-first x h = h

no-next : (x : Within) → IsWithin x next → ⊥
no-next x h = h

no-after : (x : Within) → IsWithin x after → ⊥
no-after x h = h

no-numeral : (x : Within) (v : List ℕ) (st : Stage) → IsWithin x (numeral v st) → ⊥
no-numeral x v st h = h

no-word : (x : Within) (v rest : List ℕ) (j : Json) → IsWithin x (word v rest j) → ⊥
no-word x v rest j h = h

is-between : (x : Within) (v : List ℕ) → IsWithin x (text_at v) → x ≡ inside.Between
is-between x v h = h

in-character : (x : Within) (v : List ℕ) (ps : List Pattern) → IsWithin x (character v ps) → (ps ≡ alternatives x) × (x ≡ inside.Between → ⊥)
in-character x v ps h = h

within-token : (x : Within) (m : Mode) → IsWithin x m → IsToken m
within-token x first h = absurd (no-first x h)
within-token x next h = absurd (no-next x h)
within-token x after h = absurd (no-after x h)
within-token x (text_at v) h = tt
within-token x (character v ps) h = tt
within-token x (numeral v st) h = tt
within-token x (word v rest j) h = tt

stage-is : (a : Stage) (v : List ℕ) (st : Stage) → IsMode (code.Number a) (numeral v st) → a ≡ st
stage-is a v st h = h

-- the step inside a string, from what the patterns leave open
abbrev Lands : Option Within → List ℕ → Option State → Frame → List Frame → Type 0
Lands None v o f fs = o ≡ None
Lands (Some y) v o f fs = (n : Mode) × IsWithin y n × IsToken n × (token n ≡ v) × (o ≡ Some (state n f fs))

lands-ended : (v : List ℕ) (ps : List Pattern) (f : Frame) (fs : List Frame) → has_ended ps ≡ true → step_character v ps f fs ≡ Some (state (text_at v) f fs)
lands-ended v [] f fs h = absurd (cc)
lands-ended v (p ∷ ps) f fs h = rw h refl

lands-inside : (v : List ℕ) (ps : List Pattern) (f : Frame) (fs : List Frame) → has_ended ps ≡ false → (ps ≡ [] → ⊥) → step_character v ps f fs ≡ Some (state (character v ps) f fs)
lands-inside v [] f fs h n = absurd (n refl)
lands-inside v (p ∷ ps) f fs h n = rw h refl

lands-at : (y : Within) (v : List ℕ) (ps : List Pattern) (f : Frame) (fs : List Frame) → (y ≡ inside.Between → ⊥) → (alternatives y ≡ [] → ⊥) → ps ≡ alternatives y → has_ended ps ≡ false → Lands (Some y) v (step_character v ps f fs) f fs
lands-at y v ps f fs n m e h = (character v ps, (e, n), tt, refl, lands-inside v ps f fs h (λ q. m (sym e ∙ q)))

lands : (o : Option Within) (v : List ℕ) (ps : List Pattern) (f : Frame) (fs : List Frame) → Leads o ps → Lands o v (step_character v ps f fs) f fs
lands None v ps f fs l = ap (λ (x : List Pattern). step_character v x f fs) l
lands (Some inside.Between) v ps f fs l = (text_at v, refl, tt, refl, lands-ended v ps f fs l)
lands (Some inside.Tail1) v ps f fs l = lands-at inside.Tail1 v ps f fs (λ q. absurd (cc)) (λ q. absurd (cc)) l.0 l.1
lands (Some inside.Tail2) v ps f fs l = lands-at inside.Tail2 v ps f fs (λ q. absurd (cc)) (λ q. absurd (cc)) l.0 l.1
lands (Some inside.Tail3) v ps f fs l = lands-at inside.Tail3 v ps f fs (λ q. absurd (cc)) (λ q. absurd (cc)) l.0 l.1
lands (Some inside.AfterE0) v ps f fs l = lands-at inside.AfterE0 v ps f fs (λ q. absurd (cc)) (λ q. absurd (cc)) l.0 l.1
lands (Some inside.AfterEd) v ps f fs l = lands-at inside.AfterEd v ps f fs (λ q. absurd (cc)) (λ q. absurd (cc)) l.0 l.1
lands (Some inside.AfterF0) v ps f fs l = lands-at inside.AfterF0 v ps f fs (λ q. absurd (cc)) (λ q. absurd (cc)) l.0 l.1
lands (Some inside.AfterF4) v ps f fs l = lands-at inside.AfterF4 v ps f fs (λ q. absurd (cc)) (λ q. absurd (cc)) l.0 l.1
lands (Some inside.Escape) v ps f fs l = lands-at inside.Escape v ps f fs (λ q. absurd (cc)) (λ q. absurd (cc)) l.0 l.1
lands (Some inside.Unit) v ps f fs l = lands-at inside.Unit v ps f fs (λ q. absurd (cc)) (λ q. absurd (cc)) l.0 l.1
lands (Some inside.AfterD) v ps f fs l = lands-at inside.AfterD v ps f fs (λ q. absurd (cc)) (λ q. absurd (cc)) l.0 l.1
lands (Some inside.Hex1) v ps f fs l = lands-at inside.Hex1 v ps f fs (λ q. absurd (cc)) (λ q. absurd (cc)) l.0 l.1
lands (Some inside.Hex2) v ps f fs l = lands-at inside.Hex2 v ps f fs (λ q. absurd (cc)) (λ q. absurd (cc)) l.0 l.1
lands (Some inside.Hex3) v ps f fs l = lands-at inside.Hex3 v ps f fs (λ q. absurd (cc)) (λ q. absurd (cc)) l.0 l.1
lands (Some inside.High2) v ps f fs l = lands-at inside.High2 v ps f fs (λ q. absurd (cc)) (λ q. absurd (cc)) l.0 l.1
lands (Some inside.High1) v ps f fs l = lands-at inside.High1 v ps f fs (λ q. absurd (cc)) (λ q. absurd (cc)) l.0 l.1
lands (Some inside.AfterHigh) v ps f fs l = lands-at inside.AfterHigh v ps f fs (λ q. absurd (cc)) (λ q. absurd (cc)) l.0 l.1
lands (Some inside.LowEscape) v ps f fs l = lands-at inside.LowEscape v ps f fs (λ q. absurd (cc)) (λ q. absurd (cc)) l.0 l.1
lands (Some inside.Low) v ps f fs l = lands-at inside.Low v ps f fs (λ q. absurd (cc)) (λ q. absurd (cc)) l.0 l.1
lands (Some inside.LowAfterD) v ps f fs l = lands-at inside.LowAfterD v ps f fs (λ q. absurd (cc)) (λ q. absurd (cc)) l.0 l.1

step-within : (x : Within) (byte : ℕ) (m : Mode) (f : Frame) (fs : List Frame) → byte < 256 → (x ≡ inside.Between → byte ≡ 0x22 → ⊥) → IsWithin x m → Lands (next_within x byte) (token m ++ byte ∷ []) (step_in m byte f fs) f fs
step-within x byte first f fs l n h = absurd (no-first x h)
step-within x byte next f fs l n h = absurd (no-next x h)
step-within x byte after f fs l n h = absurd (no-after x h)
step-within x byte (text_at v) f fs l n h =
    let e : x ≡ inside.Between = is-between x v h in
    let k = lands (next_within x byte) (v ++ byte ∷ []) (left_after byte (alternatives x)) f fs (within-leads x byte l) in
    let same : step_in (text_at v) byte f fs ≡ step_character (v ++ byte ∷ []) (left_after byte (alternatives x)) f fs =
    rw (not-eq byte 0x22 (n e)) (ap (λ (y : Within). step_character (v ++ byte ∷ []) (left_after byte (alternatives y)) f fs) (sym e)) in
    subst (λ (o : Option State). Lands (next_within x byte) (v ++ byte ∷ []) o f fs) (sym same) k
step-within x byte (character v ps) f fs l n h =
    let c : (ps ≡ alternatives x) × (x ≡ inside.Between → ⊥) = in-character x v ps h in
    let k = lands (next_within x byte) (v ++ byte ∷ []) (left_after byte (alternatives x)) f fs (within-leads x byte l) in
    subst (λ (q : List Pattern). Lands (next_within x byte) (v ++ byte ∷ []) (step_character (v ++ byte ∷ []) (left_after byte q) f fs) f fs) (sym c.0) k
step-within x byte (numeral v st) f fs l n h = absurd (no-numeral x v st h)
step-within x byte (word v rest j) f fs l n h = absurd (no-word x v rest j h)

pub text-goes : (w : List ℕ) (r s : Reader) (at byte : ℕ) (x y : Within) (m : Mode) (f : Frame) (fs : List Frame) (u : ⊤)
    → s.bytes ≡ r.bytes → s.builder ≡ r.builder → s.start ≡ r.start → s.mode ≡ code.Text y → next_within x byte ≡ Some y → byte < 256 → (x ≡ inside.Between → byte ≡ 0x22 → ⊥) → IsWithin x m → Holds w r at byte m f fs → Answers w at (step_in m byte f fs) (Ok u) s
text-goes w r s at byte x y m f fs u b c d i e l n h k =
    let z = subst (λ (o : Option Within). Lands o (token m ++ byte ∷ []) (step_in m byte f fs) f fs) e (step-within x byte m f fs l n h) in
    goes-on w r s at byte m z.0 f fs (step_in m byte f fs) u b c d (subst (λ (q : CodeMode). IsMode q z.0) (sym i) z.1) (within-token x m h) k z.4

pub text-stops : (byte : ℕ) (x : Within) (m : Mode) (f : Frame) (fs : List Frame) → next_within x byte ≡ None → byte < 256 → (x ≡ inside.Between → byte ≡ 0x22 → ⊥) → IsWithin x m → step_in m byte f fs ≡ None
text-stops byte x m f fs e l n h = subst (λ (o : Option Within). Lands o (token m ++ byte ∷ []) (step_in m byte f fs) f fs) e (step-within x byte m f fs l n h)

-- ---- numbers

pub number-goes : (w : List ℕ) (r s : Reader) (at byte : ℕ) (a b : Stage) (m : Mode) (f : Frame) (fs : List Frame) (u : ⊤)
    → s.bytes ≡ r.bytes → s.builder ≡ r.builder → s.start ≡ r.start → s.mode ≡ code.Number b → next_stage a byte ≡ Some b → IsMode (code.Number a) m → Holds w r at byte m f fs → Answers w at (step_in m byte f fs) (Ok u) s
number-goes w r s at byte a b (numeral v st) f fs u c d e i n h k =
    goes-on w r s at byte (numeral v st) (numeral (v ++ byte ∷ []) b) f fs (step_in (numeral v st) byte f fs) u c d e (subst (λ (q : CodeMode). IsMode q (numeral (v ++ byte ∷ []) b)) (sym i) refl) tt k
    (rw (ap (λ (x : Stage). next_stage x byte) (sym (stage-is a v st h)) ∙ n) refl)
number-goes w r s at byte a b first f fs u c d e i n h k = absurd h
number-goes w r s at byte a b next f fs u c d e i n h k = absurd h
number-goes w r s at byte a b after f fs u c d e i n h k = absurd h
number-goes w r s at byte a b (text_at v) f fs u c d e i n h k = absurd h
number-goes w r s at byte a b (character v ps) f fs u c d e i n h k = absurd h
number-goes w r s at byte a b (word v rest j) f fs u c d e i n h k = absurd h

pub number-ends : (w : List ℕ) (r q s : Reader) (at byte : ℕ) (a : Stage) (m : Mode) (f : Frame) (fs : List Frame) (result : Result ⊤ JsonFault)
    → q.bytes ≡ r.bytes → Puts r.builder r.start at kind.Number q.builder → next_stage a byte ≡ None → may_end a ≡ true → IsMode (code.Number a) m → Holds w r at byte m f fs
    → ((g : Frame) → Stays w q at byte g fs → Answers w at (step_after byte g fs) result s) → Answers w at (step_in m byte f fs) result s
number-ends w r q s at byte a (numeral v st) f fs result b p n e h k go =
    as-answer w at (step_in (numeral v st) byte f fs) (step_after byte (put (number v) f) fs) result s
    (let i = stage-is a v st h in rw (ap (λ (x : Stage). next_stage x byte) (sym i) ∙ n, ap may_end (sym i) ∙ e) refl)
    (go (put (number v) f) (number-stays w r q at byte v st f fs b p k))
number-ends w r q s at byte a first f fs result b p n e h k go = absurd h
number-ends w r q s at byte a next f fs result b p n e h k go = absurd h
number-ends w r q s at byte a after f fs result b p n e h k go = absurd h
number-ends w r q s at byte a (text_at v) f fs result b p n e h k go = absurd h
number-ends w r q s at byte a (character v ps) f fs result b p n e h k go = absurd h
number-ends w r q s at byte a (word v rest j) f fs result b p n e h k go = absurd h

pub number-stops : (byte : ℕ) (a : Stage) (m : Mode) (f : Frame) (fs : List Frame) → next_stage a byte ≡ None → may_end a ≡ false → IsMode (code.Number a) m → step_in m byte f fs ≡ None
number-stops byte a (numeral v st) f fs n e h = let i = stage-is a v st h in rw (ap (λ (x : Stage). next_stage x byte) (sym i) ∙ n, ap may_end (sym i) ∙ e) refl
number-stops byte a first f fs n e h = absurd h
number-stops byte a next f fs n e h = absurd h
number-stops byte a after f fs n e h = absurd h
number-stops byte a (text_at v) f fs n e h = absurd h
number-stops byte a (character v ps) f fs n e h = absurd h
number-stops byte a (word v rest j) f fs n e h = absurd h

-- ---- words

more-rest : (x : Word) → (c : ℕ) × (cs : List ℕ) × (rest_of x ≡ c ∷ cs)
more-rest words.Ull = (0x75, codes "ll", refl)
more-rest words.Ll = (0x6c, codes "l", refl)
more-rest words.L = (0x6c, codes "", refl)
more-rest words.Rue = (0x72, codes "ue", refl)
more-rest words.Ue = (0x75, codes "e", refl)
more-rest words.TrueE = (0x65, codes "", refl)
more-rest words.Alse = (0x61, codes "lse", refl)
more-rest words.Lse = (0x6c, codes "se", refl)
more-rest words.Se = (0x73, codes "e", refl)
more-rest words.FalseE = (0x65, codes "", refl)

word-step : (v : List ℕ) (rest : List ℕ) (j : Json) (byte : ℕ) (cs : List ℕ) (f : Frame) (fs : List Frame) → rest ≡ byte ∷ cs → step_in (word v rest j) byte f fs ≡ Some (step_word (v ++ byte ∷ []) cs j f fs)
word-step v rest j byte cs f fs e = ap (λ (x : List ℕ). step_in (word v x j) byte f fs) e ∙ rw (eq-eqb byte byte refl) refl

pub word-goes : (w : List ℕ) (r s : Reader) (at byte : ℕ) (x y : Word) (m : Mode) (f : Frame) (fs : List Frame) (u : ⊤)
    → s.bytes ≡ r.bytes → s.builder ≡ r.builder → s.start ≡ r.start → s.mode ≡ code.Word y → byte ≡ first_of x → rest_of x ≡ first_of x ∷ rest_of y → word_value y ≡ word_value x → IsMode (code.Word x) m → Holds w r at byte m f fs → Answers w at (step_in m byte f fs) (Ok u) s
word-goes w r s at byte x y (word v rest j) f fs u b c d i e g k h o =
    let t : rest ≡ byte ∷ rest_of y = h.0 ∙ g ∙ ap (λ (n : ℕ). n ∷ rest_of y) (sym e) in
    let q = more-rest y in
    let n : Mode = word (v ++ byte ∷ []) (rest_of y) j in
    let is : IsMode (code.Word y) n = (refl, h.1 ∙ sym k, h.2 ∙ ap (λ (z : List ℕ). v ++ z) t ∙ sym (append_assoc v (byte ∷ []) (rest_of y))) in
    goes-on w r s at byte (word v rest j) n f fs (step_in (word v rest j) byte f fs) u b c d (subst (λ (z : CodeMode). IsMode z n) (sym i) is) tt o
    (word-step v rest j byte (rest_of y) f fs t ∙ ap (λ (z : List ℕ). Some (step_word (v ++ byte ∷ []) z j f fs)) q.2 ∙ ap (λ (z : List ℕ). Some (state (word (v ++ byte ∷ []) z j) f fs)) (sym q.2))
word-goes w r s at byte x y first f fs u b c d i e g k h o = absurd h
word-goes w r s at byte x y next f fs u b c d i e g k h o = absurd h
word-goes w r s at byte x y after f fs u b c d i e g k h o = absurd h
word-goes w r s at byte x y (text_at v) f fs u b c d i e g k h o = absurd h
word-goes w r s at byte x y (character v ps) f fs u b c d i e g k h o = absurd h
word-goes w r s at byte x y (numeral v st) f fs u b c d i e g k h o = absurd h

word-alone : (x : Word) → nodes (word_value x) ≡ word_value x ∷ []
word-alone words.Ull = refl
word-alone words.Ll = refl
word-alone words.L = refl
word-alone words.Rue = refl
word-alone words.Ue = refl
word-alone words.TrueE = refl
word-alone words.Alse = refl
word-alone words.Lse = refl
word-alone words.Se = refl
word-alone words.FalseE = refl

word-parts : (x : Word) → parts_of (word_value x) ≡ []
word-parts words.Ull = refl
word-parts words.Ll = refl
word-parts words.L = refl
word-parts words.Rue = refl
word-parts words.Ue = refl
word-parts words.TrueE = refl
word-parts words.Alse = refl
word-parts words.Lse = refl
word-parts words.Se = refl
word-parts words.FalseE = refl

pub word-ends : (w : List ℕ) (r s : Reader) (at byte : ℕ) (x : Word) (k : Kind) (m : Mode) (f : Frame) (fs : List Frame) (u : ⊤)
    → s.bytes ≡ r.bytes → IsMode s.mode after → Puts r.builder r.start (at + 1) k s.builder → k ≡ kind_of (word_value x) → byte ≡ first_of x → rest_of x ≡ first_of x ∷ [] → IsMode (code.Word x) m → Holds w r at byte m f fs → Answers w at (step_in m byte f fs) (Ok u) s
word-ends w r s at byte x k (word v rest j) f fs u b i p n e g h o =
    let t : rest ≡ byte ∷ [] = h.0 ∙ g ∙ ap (λ (z : ℕ). z ∷ []) (sym e) in
    puts w r s at byte (word v rest j) f fs j k (step_in (word v rest j) byte f fs) u b i p (n ∙ ap kind_of (sym h.1))
    (ap nodes h.1 ∙ word-alone x ∙ ap (λ (z : Json). z ∷ []) (sym h.1)) (ap parts_of h.1 ∙ word-parts x) tt o (h.2 ∙ ap (λ (z : List ℕ). v ++ z) t) (word-step v rest j byte [] f fs t)
word-ends w r s at byte x k first f fs u b i p n e g h o = absurd h
word-ends w r s at byte x k next f fs u b i p n e g h o = absurd h
word-ends w r s at byte x k after f fs u b i p n e g h o = absurd h
word-ends w r s at byte x k (text_at v) f fs u b i p n e g h o = absurd h
word-ends w r s at byte x k (character v ps) f fs u b i p n e g h o = absurd h
word-ends w r s at byte x k (numeral v st) f fs u b i p n e g h o = absurd h

-- ---- the arms

pub from-first : (m : Mode) → IsMode code.First m → m ≡ first
from-first first h = refl
from-first next h = absurd h
from-first after h = absurd h
from-first (text_at v) h = absurd h
from-first (character v ps) h = absurd h
from-first (numeral v st) h = absurd h
from-first (word v rest j) h = absurd h

pub from-next : (m : Mode) → IsMode code.Next m → m ≡ next
from-next next h = refl
from-next first h = absurd h
from-next after h = absurd h
from-next (text_at v) h = absurd h
from-next (character v ps) h = absurd h
from-next (numeral v st) h = absurd h
from-next (word v rest j) h = absurd h

pub from-after : (m : Mode) → IsMode code.After m → m ≡ after
from-after after h = refl
from-after first h = absurd h
from-after next h = absurd h
from-after (text_at v) h = absurd h
from-after (character v ps) h = absurd h
from-after (numeral v st) h = absurd h
from-after (word v rest j) h = absurd h

pub step-separates : (b : ℕ) (f : Frame) (fs : List Frame) → is_space b ≡ false → closes f.turn b ≡ false → parts_at f.turn b ≡ true → step_after b f fs ≡ Some (state next (with_byte b f) fs)
step-separates b f fs h k m = rw (h, k, m) refl

-- a call of `put` at the end
pub put-answers : (w : List ℕ) (r s : Reader) (at start stop : ℕ) (k : Kind) (o : Option State) (result : Result ⊤ JsonFault)
    → OnOk result (IsMode s.mode after) → OnOk result (Puts r.builder start stop k s.builder) → IfErr result (λ e. e ≡ fault.Memory)
    → ((u : ⊤) → IsMode s.mode after → Puts r.builder start stop k s.builder → Answers w at o (Ok u) s) → Answers w at o result s
put-answers w r s at start stop k o (Ok u) m p e go = go u m p
put-answers w r s at start stop k o (Err x) m p e go = subst (λ (y : JsonFault). Answers w at o (Err y) s) (sym e) tt
