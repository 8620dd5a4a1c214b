-- From each state some bytes lead to the end of a text; so where a byte cannot stand, no text goes on so.
use Rattle.std.proofs.Common.{◌≡◌, ℕ, suc, ◌+◌, ◌<◌, ◌≤◌, Bool, true, false, cond, nat_le, List, [], ◌∷◌, ◌++◌, refl, sym, ◌∙◌, ap, subst, append_assoc, append-nil, inl, arith, length, take, length-append, lit≤, Option, Some, None}
use Rattle.std.proofs.lemmas.Bool.Decides.{nat_tests}
use Rattle.std.proofs.Math.Seq.{take-append_seam, take-append-add, take-length}
use Rattle.std.specs.Prelude.{codes, option_and_then}
use Rattle.json_text.proofs.Characters.{parted_from, least_bytes, left-inhabited, left-parted, IsLeft}
use Rattle.json_text.proofs.Passing.{can-end}
use Rattle.json_text.proofs.Frames.{IsDone, first_turn, starts}
use Rattle.json_text.proofs.Standing.{HasSome, GoesOn, Stands, stands-on, start-stands, may-end-here, has_bracket, IsInCharacter}
use Rattle.json_text.proofs.Reading.{run-nil, run-one, run-append, step-in-is, IsStart, null-run, text-run, quote-run, pattern-run, numeral-run, numeral-after, word-run, close-step, mark-step}
use Rattle.json_text.proofs.Values.{text-runs}
use Rattle.json_text.specs.Lexical.{Pattern, Among, IsString, none}
use Rattle.json_text.specs.Grammar.{Json, null, number, text, Parts, no_parts, part, Turn, whole, nothing, element, name, member, following, parts_at, may_stand, AreMore, IsText, IsJson, depth}
use Rattle.json_text.specs.Automaton.{Frame, takes_values, Mode, first, next, after, text_at, character, numeral, word, State, state, with_byte, put, closes, closed, step, value_of, only_part, start, run, has_ended}
use Rattle.json_text.specs.Places.{MayBegin, NeverBegins, MayBeginDeeper, NeverBeginsDeeper, IsNotJsonAt, IsTooDeepAt}
use Rattle.json_text.specs.declared.number.Stage.{Stage}

-- ---- runs

below-of : (limit : ℕ) (w : List ℕ) (t u : State) → (c : Bool) → cond c (run limit w t) None ≡ Some u → (c ≡ true) × (run limit w t ≡ Some u)
below-of limit w t u true e = (refl, e)
below-of limit w t u false e = absurd (cc)

is-within : (n limit : ℕ) → nat_le n limit ≡ true → n ≤ limit
is-within n limit h = grind (arith, nat_tests)

-- a run of one byte and more, taken apart
pub record Goes (limit : ℕ) (b : ℕ) (w : List ℕ) (s u : State) : Type 0 where
  pub through : State
  pub steps : step s b ≡ Some through
  pub few : length through.below ≤ limit
  pub on : run limit w through ≡ Some u

goes-at : (limit : ℕ) (b : ℕ) (w : List ℕ) (s u : State) → (o : Option State) → step s b ≡ o → option_and_then (λ t. cond (nat_le (length t.below) limit) (run limit w t) None) o ≡ Some u → Goes limit b w s u
goes-at limit b w s u None e h = absurd (cc)
goes-at limit b w s u (Some t) e h =
    let k = below-of limit w t u (nat_le (length t.below) limit) h in
    record { through = t; steps = e; few = is-within (length t.below) limit k.0; on = k.1 }

pub goes : (limit : ℕ) (b : ℕ) (w : List ℕ) (s u : State) → run limit (b ∷ w) s ≡ Some u → Goes limit b w s u
unfolding run
goes limit b w s u h = goes-at limit b w s u (step s b) refl h

pub run-wider : (w : List ℕ) (limit wider : ℕ) (s t : State) → limit ≤ wider → run limit w s ≡ Some t → run wider w s ≡ Some t
run-wider [] limit wider s t l e = run-nil wider s ∙ sym (run-nil limit s) ∙ e
run-wider (b ∷ w) limit wider s t l e =
    let g = goes limit b w s t e in
    run-one wider s g.through b w g.steps (let n : length g.through.below ≤ limit = g.few in omega arith) ∙ run-wider w limit wider g.through t l g.on

pub stands-run : (w : List ℕ) (limit : ℕ) (u : List ℕ) (s t : State) → Stands limit u s → run limit w s ≡ Some t → Stands limit (u ++ w) t
stands-run [] limit u s t h e =
    let r : Some s ≡ Some t = sym (run-nil limit s) ∙ e in let same : s ≡ t = cc in
    subst (λ (x : State). Stands limit (u ++ []) x) same (subst (λ (x : List ℕ). Stands limit x s) (sym (append-nil u)) h)
stands-run (b ∷ w) limit u s t h e =
    let g = goes limit b w s t e in
    subst (λ (x : List ℕ). Stands limit x t) (append_assoc u (b ∷ []) w) (stands-run w limit (u ++ b ∷ []) g.through t (stands-on limit u s g.through b h g.steps g.few) g.on)

-- ---- to the end of a text

abbrev pub CanEnd : ℕ → State → Type 0
CanEnd limit s = (w : List ℕ) × (t : State) × (j : Json) × (run limit w s ≡ Some t) × (value_of t ≡ Some j)

ends-on : (limit : ℕ) (v : List ℕ) (s t : State) → run limit v s ≡ Some t → CanEnd limit t → CanEnd limit s
ends-on limit v s t e h = (v ++ h.0, h.1, h.2, run-append limit v h.0 s t e ∙ h.3, h.4)

-- the same, with what stands
abbrev Ends : ℕ → List Frame → Type 0
Ends limit fs = (u : List ℕ) (f : Frame) → Stands limit u (state after f fs) → CanEnd limit (state after f fs)

pub nothing-more : (t : Turn) (w : List ℕ) (js : Parts) → t ≡ nothing → AreMore t w js → js ≡ no_parts
nothing-more t w no_parts e h = refl
nothing-more t w (part i is) e h = let no : may_stand nothing i ≡ true = subst (λ (x : Turn). may_stand x i ≡ true) e h.9 in absurd (cc)

whole-one : (f : Frame) → IsDone f → first_turn f.turn ≡ whole → (j : Json) × (only_part f.parts ≡ Some j)
whole-one f h e =
    let p = h.has_parts in
    let n : following (first_turn f.turn) ≡ nothing = ap following e in
    let none : p.more ≡ no_parts = nothing-more (following (first_turn f.turn)) p.rest p.more n p.are_more in
    (p.value, ap only_part p.parts ∙ ap (λ (x : Parts). only_part (part p.value x)) none)

ends-whole : (limit : ℕ) → Ends limit []
unfolding value_of
ends-whole limit u f h = let r = whole-one f h.fits h.nested in ([], state after f [], r.0, run-nil limit (state after f []), r.1)

ends-close : (limit : ℕ) (u : List ℕ) (f g : Frame) (gs : List Frame) (b : ℕ) → closes f.turn b ≡ true → length gs ≤ limit → Stands limit u (state after f (g ∷ gs)) → Ends limit gs → CanEnd limit (state after f (g ∷ gs))
ends-close limit u f g gs b c l h go =
    let s : State = state after f (g ∷ gs) in
    let t : State = state after (put (closed f.turn (f.bytes ++ b ∷ []) f.parts) g) gs in
    let e : step s b ≡ Some t = step-in-is after f (g ∷ gs) b ∙ close-step b f (g ∷ gs) c in
    ends-on limit (b ∷ []) s t (run-one limit s t b [] e l ∙ run-nil limit t) (go (u ++ b ∷ []) (put (closed f.turn (f.bytes ++ b ∷ []) f.parts) g) (stands-on limit u s t b h e l))

ends-member : (limit : ℕ) (u : List ℕ) (f g : Frame) (gs : List Frame) → f.turn ≡ member → suc (length gs) ≤ limit → Stands limit u (state after f (g ∷ gs)) → Ends limit gs → CanEnd limit (state after f (g ∷ gs))
ends-member limit u f g gs m l h go =
    let s : State = state after f (g ∷ gs) in
    let f1 : Frame = with_byte 0x3a f in
    let s1 : State = state next f1 (g ∷ gs) in
    let f2 : Frame = put null f1 in
    let s2 : State = state after f2 (g ∷ gs) in
    let e1 : step s 0x3a ≡ Some s1 = step-in-is after f (g ∷ gs) 0x3a ∙ mark-step 0x3a f (g ∷ gs) (ap (λ (x : Turn). parts_at x 0x3a) m) in
    let e : run limit (0x3a ∷ codes "null") s ≡ Some s2 = run-one limit s s1 0x3a (codes "null") e1 l ∙ null-run limit next f1 (g ∷ gs) tt (ap takes_values m) l in
    ends-on limit (0x3a ∷ codes "null") s s2 e
    (ends-close limit (u ++ 0x3a ∷ codes "null") f2 g gs 0x7d (ap (λ (x : Turn). closes (following x) 0x7d) m) (omega arith) (stands-run (0x3a ∷ codes "null") limit u s s2 h e) go)

ends-turn : (limit : ℕ) (u : List ℕ) (f g : Frame) (gs : List Frame) (t : Turn) → f.turn ≡ t → suc (length gs) ≤ limit → has_bracket f.turn ≡ true → Stands limit u (state after f (g ∷ gs)) → Ends limit gs → CanEnd limit (state after f (g ∷ gs))
ends-turn limit u f g gs whole e l k h go = let no : has_bracket whole ≡ true = subst (λ (x : Turn). has_bracket x ≡ true) e k in absurd (cc)
ends-turn limit u f g gs nothing e l k h go = let no : has_bracket nothing ≡ true = subst (λ (x : Turn). has_bracket x ≡ true) e k in absurd (cc)
ends-turn limit u f g gs element e l k h go = ends-close limit u f g gs 0x5d (ap (λ (x : Turn). closes x 0x5d) e) (omega arith) h go
ends-turn limit u f g gs name e l k h go = ends-close limit u f g gs 0x7d (ap (λ (x : Turn). closes x 0x7d) e) (omega arith) h go
ends-turn limit u f g gs member e l k h go = ends-member limit u f g gs e l h go

ends-after : (fs : List Frame) (limit : ℕ) → length fs ≤ limit → Ends limit fs
ends-after [] limit l u f h = ends-whole limit u f h
ends-after (g ∷ gs) limit l u f h = ends-turn limit u f g gs f.turn refl l h.nested.4 h (ends-after gs limit (omega arith))

-- ---- from a part to behind it

record Comes (limit : ℕ) (s : State) (fs : List Frame) : Type 0 where
  pub bytes : List ℕ
  pub frame : Frame
  pub there : run limit bytes s ≡ Some (state after frame fs)

comes-end : (limit : ℕ) (u : List ℕ) (s : State) (fs : List Frame) → length fs ≤ limit → Stands limit u s → Comes limit s fs → CanEnd limit s
comes-end limit u s fs l h c = ends-on limit c.bytes s (state after c.frame fs) c.there (ends-after fs limit l (u ++ c.bytes) c.frame (stands-run c.bytes limit u s (state after c.frame fs) h c.there))

empty-string : IsString (0x22 ∷ 0x22 ∷ [])
empty-string = record { inside = []; spelled = refl; characters = none }

comes-start : (limit : ℕ) (m : Mode) (f : Frame) (fs : List Frame) (t : Turn) → f.turn ≡ t → IsStart m → length fs ≤ limit → (f.turn ≡ nothing → ⊥) → Comes limit (state m f fs) fs
comes-start limit m f fs whole e h l why = record { bytes = codes "null"; frame = put null f; there = null-run limit m f fs h (ap takes_values e) l }
comes-start limit m f fs nothing e h l why = absurd (why e)
comes-start limit m f fs element e h l why = record { bytes = codes "null"; frame = put null f; there = null-run limit m f fs h (ap takes_values e) l }
comes-start limit m f fs name e h l why = record { bytes = 0x22 ∷ 0x22 ∷ []; frame = put (text (0x22 ∷ 0x22 ∷ [])) f; there = text-run limit m f fs (0x22 ∷ 0x22 ∷ []) h l empty-string }
comes-start limit m f fs member e h l why = record { bytes = codes "null"; frame = put null f; there = null-run limit m f fs h (ap takes_values e) l }

comes-numeral : (limit : ℕ) (w : List ℕ) (st : Stage) (f : Frame) (fs : List Frame) → length fs ≤ limit → Comes limit (state (numeral w st) f fs) fs
comes-numeral limit w st f fs l =
    let c = can-end st in
    let g : Frame = with_byte 0x20 (put (number (w ++ c.0)) f) in
    record {
      bytes = c.0 ++ 0x20 ∷ [];
      frame = g;
      there = run-append limit c.0 (0x20 ∷ []) (state (numeral w st) f fs) (state (numeral (w ++ c.0) c.1) f fs) (numeral-run limit w c.0 st c.1 f fs c.2 l)
          ∙ run-one limit (state (numeral (w ++ c.0) c.1) f fs) (state after g fs) 0x20 [] (step-in-is (numeral (w ++ c.0) c.1) f fs 0x20 ∙ numeral-after (w ++ c.0) c.1 0x20 f fs c.3 refl) l
          ∙ run-nil limit (state after g fs);
    }

comes-character : (limit : ℕ) (w : List ℕ) (ps : List Pattern) (f : Frame) (fs : List Frame) → length fs ≤ limit → (h : IsInCharacter w ps) → has_ended ps ≡ false → (p : Pattern) → Among ps p → IsLeft h.begun p → Comes limit (state (character w ps) f fs) fs
comes-character limit w ps f fs l h e p a k =
    let v : List ℕ = least_bytes p in
    record {
      bytes = v ++ 0x22 ∷ [];
      frame = put (text ((w ++ v) ++ 0x22 ∷ [])) f;
      there = run-append limit v (0x22 ∷ []) (state (character w ps) f fs) (state (text_at (w ++ v)) f fs)
          (ap (λ (x : Bool). run limit v (state (cond x (text_at w) (character w ps)) f fs)) (sym e)
          ∙ pattern-run limit p v ps w f fs l a (subst (λ (x : List Pattern). parted_from p x ≡ true) (sym h.left_is) (left-parted h.begun p k)) (left-inhabited h.begun p k))
          ∙ quote-run limit (w ++ v) f fs l;
    }

comes-in : (limit : ℕ) (w : List ℕ) (ps : List Pattern) (f : Frame) (fs : List Frame) → length fs ≤ limit → (h : IsInCharacter w ps) → has_ended ps ≡ false → HasSome ps → Comes limit (state (character w ps) f fs) fs
comes-in limit w [] f fs l h e k = absurd k
comes-in limit w (p ∷ ps) f fs l h e k = comes-character limit w (p ∷ ps) f fs l h e p (inl refl) h.are_left.0

fresh-stands : (t : Turn) → starts t ≡ true → t ≡ nothing → ⊥
fresh-stands t h e = let k : starts nothing ≡ true = subst (λ (x : Turn). starts x ≡ true) e h in absurd (cc)

parted-stands : (t : Turn) (b : ℕ) → parts_at t b ≡ true → t ≡ nothing → ⊥
parted-stands t b h e = let k : parts_at nothing b ≡ true = subst (λ (x : Turn). parts_at x b ≡ true) e h in absurd (cc)

comes-word : (limit : ℕ) (w rest : List ℕ) (j : Json) (f : Frame) (fs : List Frame) → length fs ≤ limit → GoesOn rest → Comes limit (state (word w rest j) f fs) fs
comes-word limit w [] j f fs l h = absurd h
comes-word limit w (c ∷ cs) j f fs l h = record { bytes = c ∷ cs; frame = put j f; there = word-run limit w c cs j f fs l }

finish-in : (limit : ℕ) (u : List ℕ) (m : Mode) (f : Frame) (fs : List Frame) → Stands limit u (state m f fs) → length fs ≤ limit → CanEnd limit (state m f fs)
finish-in limit u first f fs h l = comes-end limit u (state first f fs) fs l h (comes-start limit first f fs f.turn refl tt l (fresh-stands f.turn h.fits.starts_there))
finish-in limit u next f fs h l = comes-end limit u (state next f fs) fs l h (comes-start limit next f fs f.turn refl tt l (parted-stands f.turn h.fits.mark h.fits.separates))
finish-in limit u after f fs h l = ends-after fs limit l u f h
finish-in limit u (text_at w) f fs h l = comes-end limit u (state (text_at w) f fs) fs l h (record { bytes = 0x22 ∷ []; frame = put (text (w ++ 0x22 ∷ [])) f; there = quote-run limit w f fs l })
finish-in limit u (character w ps) f fs h l = comes-end limit u (state (character w ps) f fs) fs l h (comes-in limit w ps f fs l h.fits.1 h.fits.2 h.fits.3)
finish-in limit u (numeral w st) f fs h l = comes-end limit u (state (numeral w st) f fs) fs l h (comes-numeral limit w st f fs l)
finish-in limit u (word w rest j) f fs h l = comes-end limit u (state (word w rest j) f fs) fs l h (comes-word limit w rest j f fs l h.fits.1)

pub finish : (limit : ℕ) (u : List ℕ) (s : State) → Stands limit u s → length s.below ≤ limit → CanEnd limit s
finish limit u s h l = finish-in limit u s.mode s.top s.below h l

-- ---- what a state behind the first bytes says of the whole

pub run-below : (w : List ℕ) (limit : ℕ) (s t : State) → length s.below ≤ limit → run limit w s ≡ Some t → length t.below ≤ limit
run-below [] limit s t l e = let r : Some s ≡ Some t = sym (run-nil limit s) ∙ e in let same : s ≡ t = cc in subst (λ (x : State). length x.below ≤ limit) same l
run-below (b ∷ w) limit s t l e = let g = goes limit b w s t e in run-below w limit g.through t g.few g.on

pub reads-text : (limit : ℕ) (w : List ℕ) (s : State) (j : Json) → run limit w start ≡ Some s → value_of s ≡ Some j → IsText w j × (depth j ≤ limit)
reads-text limit w s j e v = may-end-here limit w s j (stands-run w limit [] start s (start-stands limit) e) v

pub reads-json : (w : List ℕ) (s : State) (j : Json) → run 64 w start ≡ Some s → value_of s ≡ Some j → IsJson w j
reads-json w s j e v = let r = reads-text 64 w s j e v in record { spelled = r.0; shallow = r.1 }

may-begin : (v : List ℕ) (s : State) → run 64 v start ≡ Some s → MayBegin v
may-begin v s e =
    let c = finish 64 v s (stands-run v 64 [] start s (start-stands 64) e) (run-below v 64 start s (lit≤ tt) e) in
    (c.0, c.2, reads-json (v ++ c.0) c.1 c.2 (run-append 64 v c.0 start s e ∙ c.3) c.4)

refused-on : (limit : ℕ) (b : ℕ) (w : List ℕ) (s t : State) → step s b ≡ None → run limit (b ∷ w) s ≡ Some t → ⊥
refused-on limit b w s t e h = let g = goes limit b w s t h in let k : step s b ≡ Some g.through = g.steps in absurd (cc)

never-begins : (v : List ℕ) (b : ℕ) (s : State) → run 64 v start ≡ Some s → step s b ≡ None → NeverBeginsDeeper (v ++ b ∷ [])
never-begins v b s e k rest j h =
    let limit : ℕ = depth j + 64 in
    let r = text-runs limit ((v ++ b ∷ []) ++ rest) j h (omega arith) in
    refused-on limit b rest s r.0 k
    (sym (run-append limit v (b ∷ rest) start s (run-wider v 64 limit start s (omega arith) e)) ∙ ap (λ (x : List ℕ). run limit x start) (sym (append_assoc v (b ∷ []) rest)) ∙ r.1)

take-front : (v : List ℕ) (b : ℕ) (rest : List ℕ) → take (length v + 1) (v ++ b ∷ rest) ≡ v ++ b ∷ []
take-front v b rest = take-append-add v (b ∷ rest) 1

pub not-json-at : (v : List ℕ) (b : ℕ) (rest : List ℕ) (s : State) → run 64 v start ≡ Some s → step s b ≡ None → IsNotJsonAt (length v) (v ++ b ∷ rest)
not-json-at v b rest s e k = record {
  within = rw length-append (omega arith);
  before = rw take-append_seam (may-begin v s e);
  here = λ _. rw (take-front v b rest) (never-begins v b s e k);
  whole = λ j h. never-begins v b s e k rest j (subst (λ (x : List ℕ). IsText x j) (sym (append_assoc v (b ∷ []) rest)) h);
}

pub not-json-end : (w : List ℕ) (s : State) → run 64 w start ≡ Some s → value_of s ≡ None → IsNotJsonAt (length w) w
not-json-end w s e k = record {
  within = omega arith;
  before = subst (λ (x : List ℕ). MayBegin x) (sym (take-length w)) (may-begin w s e);
  here = λ h. absurd (omega arith);
  whole = λ j h.
      let limit : ℕ = depth j + 64 in
      let r = text-runs limit w j h (omega arith) in
      let same : Some s ≡ Some r.0 = sym (run-wider w 64 limit start s (omega arith) e) ∙ r.1 in
      let v : value_of r.0 ≡ Some j = r.2 in
      let t : s ≡ r.0 = cc in
      let u : value_of s ≡ Some j = ap value_of t ∙ v in
      absurd (cc);
}

deeper-begins : (v : List ℕ) (b : ℕ) (s t : State) → run 64 v start ≡ Some s → step s b ≡ Some t → 64 ≤ length t.below → MayBeginDeeper (v ++ b ∷ [])
deeper-begins v b s t e k d =
    let limit : ℕ = length t.below in
    let r : run limit (v ++ b ∷ []) start ≡ Some t = run-append limit v (b ∷ []) start s (run-wider v 64 limit start s d e) ∙ run-one limit s t b [] k (omega arith) ∙ run-nil limit t in
    let c = finish limit (v ++ b ∷ []) t (stands-run (v ++ b ∷ []) limit [] start t (start-stands limit) r) (omega arith) in
    (c.0, c.2, (reads-text limit ((v ++ b ∷ []) ++ c.0) c.1 c.2 (run-append limit (v ++ b ∷ []) c.0 start t r ∙ c.3) c.4).0)

never-deep : (v : List ℕ) (b : ℕ) (s t : State) → run 64 v start ≡ Some s → step s b ≡ Some t → 64 < length t.below → NeverBegins (v ++ b ∷ [])
never-deep v b s t e k d rest j h =
    let r = text-runs 64 ((v ++ b ∷ []) ++ rest) j h.spelled h.shallow in
    let g = goes 64 b rest s r.0 (sym (run-append 64 v (b ∷ rest) start s e) ∙ ap (λ (x : List ℕ). run 64 x start) (sym (append_assoc v (b ∷ []) rest)) ∙ r.1) in
    let same : Some g.through ≡ Some t = sym g.steps ∙ k in
    let u : g.through ≡ t = cc in
    let few : length t.below ≤ 64 = subst (λ (x : State). length x.below ≤ 64) u g.few in
    absurd (omega arith)

pub too-deep-at : (v : List ℕ) (b : ℕ) (rest : List ℕ) (s t : State) → run 64 v start ≡ Some s → step s b ≡ Some t → 64 < length t.below → IsTooDeepAt (length v) (v ++ b ∷ rest)
too-deep-at v b rest s t e k d = record {
  within = rw length-append (omega arith);
  before = rw take-append_seam (may-begin v s e);
  deeper = rw (take-front v b rest) (deeper-begins v b s t e k (omega arith));
  here = rw (take-front v b rest) (λ r j h. never-deep v b s t e k d r j h);
}

-- a text spells one value
pub one-value : (w : List ℕ) (i j : Json) → IsText w i → IsText w j → i ≡ j
one-value w i j h k =
    let limit : ℕ = depth i + depth j in
    let a = text-runs limit w i h (omega arith) in
    let b = text-runs limit w j k (omega arith) in
    let same : Some a.0 ≡ Some b.0 = sym a.1 ∙ b.1 in
    let s : a.0 ≡ b.0 = cc in
    let u : Some i ≡ Some j = sym a.2 ∙ ap value_of s ∙ b.2 in
    cc
