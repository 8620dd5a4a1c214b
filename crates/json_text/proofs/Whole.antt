-- From the steps of the code to the whole text.
use Rattle.std.proofs.Common.{◌≡◌, ℕ, suc, ◌+◌, ◌<◌, ◌≤◌, true, false, List, [], ◌∷◌, ◌++◌, refl, sym, ◌∙◌, ap, subst, append-nil, ◌⊎◌, inl, inr, arith, length, take, drop, Option, Some, None, Result, Ok, Err, lit≤}
use Rattle.std.proofs.Math.Seq.{take-length}
use Rattle.json_text.specs.declared.entry.Entry.{Entry}
use Rattle.std.proofs.lemmas.List.{length-take, take-append-drop, drop_more}
use Rattle.std.specs.Prelude.{⊤, slice_index, MatchResult}
use Rattle.json_text.specs.Grammar.{Json, number, Parts, no_parts, part, whole, Turn, following, IsJson}
use Rattle.json_text.specs.Automaton.{Frame, Mode, first, next, after, text_at, character, numeral, word, State, state, put, start, step, run, value_of, ended, only_part, may_end, token}
use Rattle.json_text.specs.Places.{IsFaultOf, IsNotJsonAt, IsTooDeepAt}
use Rattle.json_text.specs.Entries.{bytes_below, AreEntries, Laid}
use Rattle.json_text.specs.Building.{IsLeaf, Puts}
use Rattle.json_text.specs.Trees.{IsTree, tree_of}
use Rattle.json_text.specs.declared.bracket.Bracket.{Bracket}
use Rattle.json_text.specs.declared.character.Within.{Within}
use Rattle.json_text.specs.declared.word.Word.{Word}
use Rattle.json_text.specs.declared.kind.Kind.TheVariants as kind
use Rattle.json_text.specs.declared.reader.Mode.{Mode as CodeMode}
use Rattle.json_text.specs.declared.reader.Mode.TheVariants as code
use Rattle.json_text.proofs.Laying.{laid-depth}
use Rattle.json_text.proofs.Walking.{tree-is, tree-stands}
use Rattle.json_text.proofs.Arms.{from-first, from-next}
use Rattle.json_text.specs.Nodes.{Document, nodes, nodes_of}
use Rattle.json_text.specs.Reading.{Shows, Holds, Answers, Ends, EndsAs, Closes, HasOne, IsAlone, IsMode, BeginsAt}
use Rattle.json_text.proofs.Frames.{IsDone, first_turn}
use Rattle.json_text.proofs.Standing.{Stands, start-stands, number-put}
use Rattle.json_text.proofs.Reading.{run-nil, run-one, run-append}
use Rattle.json_text.proofs.Faults.{stands-run, run-below, reads-json, not-json-at, not-json-end, too-deep-at, nothing-more}
use Rattle.json_text.proofs.Shown.{take-one, leaf}
use Rattle.json_text.specs.declared.fault.JsonFault.{JsonFault}
use Rattle.json_text.specs.declared.fault.JsonFault.TheVariants as fault
use Rattle.json_text.specs.declared.number.Stage.{Stage}
use Rattle.json_text.specs.declared.reader.Reader.{Reader}

pub record ReadsTo (w : List ℕ) (r : Reader) (at : ℕ) : Type 0 where
  pub here : State
  pub ran : run 64 (take at w) start ≡ Some here
  pub shows : Shows w r here

stands : (w : List ℕ) (at : ℕ) (s : State) → run 64 (take at w) start ≡ Some s → Stands 64 (take at w) s
stands w at s e = stands-run (take at w) 64 [] start s (start-stands 64) e

pub reads-start : (w : List ℕ) (r : Reader) → Shows w r start → ReadsTo w r 0
reads-start w r h = record { here = start; ran = run-nil 64 start; shows = h }

pub reads-hold : (w : List ℕ) (r : Reader) (at byte : ℕ) (h : ReadsTo w r at) → at < length w → byte ≡ slice_index w at → Holds w r at byte h.here.mode h.here.top h.here.below
reads-hold w r at byte h l e = record { shows = h.shows; spelled = (stands w at h.here h.ran).spelled; few = run-below (take at w) 64 start h.here (lit≤ tt) h.ran; within = l; byte_is = e }

pub reads-on : (w : List ℕ) (r s : Reader) (at byte : ℕ) (u : ⊤) (h : ReadsTo w r at) → at < length w → byte ≡ slice_index w at → Answers w at (step h.here byte) (Ok u) s → ReadsTo w s (at + 1)
reads-on w r s at byte u h l e a = record {
  here = a.0;
  ran = ap (λ (x : List ℕ). run 64 x start) (take-one w at byte l e) ∙ run-append 64 (take at w) (byte ∷ []) start h.here h.ran ∙ run-one 64 h.here a.0 byte [] a.1 a.2 ∙ run-nil 64 a.0;
  shows = a.3;
}

pub split-at : (w : List ℕ) (at byte : ℕ) → at < length w → byte ≡ slice_index w at → take at w ++ byte ∷ drop (at + 1) w ≡ w
split-at w at byte l e = ap (λ (x : ℕ). take at w ++ x ∷ drop (at + 1) w) e ∙ ap (λ (x : List ℕ). take at w ++ x) (sym (drop_more w at 0 l)) ∙ take-append-drop at w

pub taken : (w : List ℕ) (at : ℕ) → at < length w → length (take at w) ≡ at
taken w at l = omega (arith, length-take at w)

pub faults : (w : List ℕ) (r s : Reader) (at byte : ℕ) (e : JsonFault) (h : ReadsTo w r at) → at < length w → byte ≡ slice_index w at → Answers w at (step h.here byte) (Err e) s → IsFaultOf e w
faults w r s at byte (fault.NotJson p) h l e a =
    let k = not-json-at (take at w) byte (drop (at + 1) w) h.here h.ran a.1 in
    subst (λ (x : ℕ). IsNotJsonAt x w) (taken w at l ∙ sym a.0) (subst (λ (x : List ℕ). IsNotJsonAt (length (take at w)) x) (split-at w at byte l e) k)
faults w r s at byte (fault.TooDeep p) h l e a =
    let k = too-deep-at (take at w) byte (drop (at + 1) w) h.here a.1.0 h.ran a.1.1 a.1.2 in
    subst (λ (x : ℕ). IsTooDeepAt x w) (taken w at l ∙ sym a.0) (subst (λ (x : List ℕ). IsTooDeepAt (length (take at w)) x) (split-at w at byte l e) k)
faults w r s at byte fault.Memory h l e a = tt

-- ---- the end

done-one : (f : Frame) → IsDone f → first_turn f.turn ≡ whole → HasOne f.parts
done-one f h e =
    let p = h.has_parts in
    (p.value, p.parts ∙ ap (λ (x : Parts). part p.value x) (nothing-more (following (first_turn f.turn)) p.rest p.more (ap following e) p.are_more))

alone-in : (w : List ℕ) (m : Mode) (f : Frame) (fs : List Frame) → Stands 64 w (state m f fs) → IsAlone m f fs
alone-in w first f fs h = tt
alone-in w next f fs h = tt
alone-in w after f [] h = λ _. done-one f h.fits h.nested
alone-in w after f (g ∷ gs) h = λ e. absurd (cc)
alone-in w (text_at v) f fs h = tt
alone-in w (character v ps) f fs h = tt
alone-in w (numeral v st) f [] h = λ _ m. (let p = number-put 64 w v st f [] h.fits m (record { shallow = h.shallow; nested = h.nested; spelled = h.spelled }) in done-one (put (number v) f) p.0 p.1.nested)
alone-in w (numeral v st) f (g ∷ gs) h = λ e m. absurd (cc)
alone-in w (word v rest j) f fs h = tt

pub reads-end : (w : List ℕ) (r : Reader) (at : ℕ) (h : ReadsTo w r at) → at ≡ length w → Ends w r h.here
reads-end w r at h e =
    let t : take at w ≡ w = ap (λ (x : ℕ). take x w) e ∙ take-length w in
    let s : Stands 64 w h.here = subst (λ (x : List ℕ). Stands 64 x h.here) t (stands w at h.here h.ran) in
    record { shows = h.shows; spelled = s.spelled; alone = alone-in w h.here.mode h.here.top h.here.below s }

pub reads-ok : (w : List ℕ) (r : Reader) (at : ℕ) (h : ReadsTo w r at) → at ≡ length w → (j : Json) → value_of h.here ≡ Some j → IsJson w j
reads-ok w r at h e j v =
    let t : take at w ≡ w = ap (λ (x : ℕ). take x w) e ∙ take-length w in
    reads-json w h.here j (ap (λ (x : List ℕ). run 64 x start) (sym t) ∙ h.ran) v

pub reads-fault : (w : List ℕ) (r : Reader) (at : ℕ) (h : ReadsTo w r at) → at ≡ length w → (e : JsonFault) → (e ≡ fault.Memory) ⊎ ((e ≡ fault.NotJson (length w)) × (value_of h.here ≡ None)) → IsFaultOf e w
reads-fault w r at h e f (inl m) = subst (λ (x : JsonFault). IsFaultOf x w) (sym m) tt
reads-fault w r at h e f (inr m) =
    let t : take at w ≡ w = ap (λ (x : ℕ). take x w) e ∙ take-length w in
    subst (λ (x : JsonFault). IsFaultOf x w) (sym m.0) (not-json-end w h.here (ap (λ (x : List ℕ). run 64 x start) (sym t) ∙ h.ran) m.1)

-- the entries of the one value
pub one-laid : (w : List ℕ) (es : List Entry) (js : Parts) (j : Json) → js ≡ part j no_parts → AreEntries w 0 es (nodes_of js) → AreEntries w 0 es (nodes j)
one-laid w es js j e h = subst (λ (x : List Json). AreEntries w 0 es x) (append-nil (nodes j)) (subst (λ (x : Parts). AreEntries w 0 es (nodes_of x)) e h)

bottom-laid : (w : List ℕ) (es : List Entry) (b : Bracket) (bs : List Bracket) (t : Turn) (js : Parts) (fs : List Frame) → length bs ≤ 0 → Laid w es b bs t js fs → (fs ≡ []) × AreEntries w 0 es (nodes_of js)
bottom-laid w es b bs t js [] l h = (refl, h.2)
bottom-laid w es b bs t js (g ∷ gs) l h = absurd (let d : length bs ≡ suc (length gs) = laid-depth w es b bs t js (g ∷ gs) h in omega arith)

into-entries : (w : List ℕ) (r : Reader) (f : Frame) (fs : List Frame) → Closes w r f fs → length r.builder.below.items ≤ 0 → (j : Json) × (fs ≡ []) × (f.parts ≡ part j no_parts) × AreEntries w 0 r.builder.nodes.items (nodes j)
into-entries w r f fs h l =
    let k = bottom-laid w r.builder.nodes.items r.builder.top r.builder.below.items f.turn f.parts fs l h.lies in
    let o = h.alone k.0 in
    (o.0, k.0, o.1, one-laid w r.builder.nodes.items f.parts o.0 o.1 k.1)

pub into-stands : (w : List ℕ) (r : Reader) (f : Frame) (fs : List Frame) → Closes w r f fs → length r.builder.below.items ≤ 0 → IsTree w r.builder.nodes.items
into-stands w r f fs h l = let k = into-entries w r f fs h l in tree-stands w r.builder.nodes.items k.0 k.3

pub into-is : (w : List ℕ) (r : Reader) (f : Frame) (fs : List Frame) → Closes w r f fs → length r.builder.below.items ≤ 0 → ended f fs ≡ Some (tree_of w r.builder.nodes.items)
into-is w r f fs h l = let k = into-entries w r f fs h l in
    ap (λ (x : List Frame). ended f x) k.1 ∙ ap only_part k.2 ∙ ap Some (sym (tree-is w r.builder.nodes.items k.0 k.3))

pub after-closes : (w : List ℕ) (r : Reader) (s : State) → Ends w r s → s.mode ≡ after → Closes w r s.top s.below
after-closes w r s h e = record { lies = h.shows.lies; alone = subst (λ (x : Mode). IsAlone x s.top s.below) e h.alone }

pub after-value : (s : State) → s.mode ≡ after → value_of s ≡ ended s.top s.below
unfolding value_of
after-value s e = ap (λ (x : Mode). value_of (state x s.top s.below)) e

number-stage : (a : Stage) (v : List ℕ) (st : Stage) → IsMode (code.Number a) (numeral v st) → a ≡ st
number-stage a v st h = h

pub is-number : (m : Mode) (st : Stage) → IsMode (code.Number st) m → (v : List ℕ) × (m ≡ numeral v st)
is-number first st h = absurd h
is-number next st h = absurd h
is-number after st h = absurd h
is-number (text_at v) st h = absurd h
is-number (character v ps) st h = absurd h
is-number (numeral v t) st h = (v, ap (λ (x : Stage). numeral v x) (sym (number-stage st v t h)))
is-number (word v rest j) st h = absurd h

pub number-value : (s : State) (v : List ℕ) (st : Stage) → s.mode ≡ numeral v st → may_end st ≡ true → value_of s ≡ ended (put (number v) s.top) s.below
unfolding value_of
number-value s v st e m = ap (λ (x : Mode). value_of (state x s.top s.below)) e ∙ rw m refl

pub number-no-value : (s : State) (v : List ℕ) (st : Stage) → s.mode ≡ numeral v st → may_end st ≡ false → value_of s ≡ None
unfolding value_of
number-no-value s v st e m = ap (λ (x : Mode). value_of (state x s.top s.below)) e ∙ rw m refl

pub number-closes : (w : List ℕ) (r q : Reader) (s : State) (v : List ℕ) (st : Stage) → Ends w r s → s.mode ≡ numeral v st → may_end st ≡ true → Puts r.builder r.start (length w) kind.Number q.builder → Closes w q (put (number v) s.top) s.below
number-closes w r q s v st h e m p =
    let a : List ℕ = bytes_below s.below ++ s.top.bytes in
    let sp : w ≡ a ++ v = h.spelled ∙ ap (λ (x : Mode). a ++ token x) e in
    let lf : IsLeaf w r.start (length w) kind.Number (number v) = leaf w a v r.start (length w) (number v) (subst (λ (x : Mode). BeginsAt x r.start (length a)) e h.shows.begins) (omega arith) (take-length w ∙ sp) refl refl refl in
    record { lies = p w s.top.turn s.top.parts s.below (number v) lf h.shows.lies; alone = λ k. subst (λ (x : Mode). IsAlone x s.top s.below) e h.alone k m }

first-value : (s : State) → s.mode ≡ first → value_of s ≡ None
unfolding value_of
first-value s e = ap (λ (x : Mode). value_of (state x s.top s.below)) e

next-value : (s : State) → s.mode ≡ next → value_of s ≡ None
unfolding value_of
next-value s e = ap (λ (x : Mode). value_of (state x s.top s.below)) e

text-value : (m : Mode) (f : Frame) (fs : List Frame) (x : Within) → IsMode (code.Text x) m → value_of (state m f fs) ≡ None
unfolding value_of
text-value first f fs x h = absurd h
text-value next f fs x h = absurd h
text-value after f fs x h = absurd h
text-value (text_at v) f fs x h = refl
text-value (character v ps) f fs x h = refl
text-value (numeral v st) f fs x h = absurd h
text-value (word v rest j) f fs x h = absurd h

word-value : (m : Mode) (f : Frame) (fs : List Frame) (x : Word) → IsMode (code.Word x) m → value_of (state m f fs) ≡ None
unfolding value_of
word-value first f fs x h = absurd h
word-value next f fs x h = absurd h
word-value after f fs x h = absurd h
word-value (text_at v) f fs x h = absurd h
word-value (character v ps) f fs x h = absurd h
word-value (numeral v st) f fs x h = absurd h
word-value (word v rest j) f fs x h = refl

pub other-value : (c : CodeMode) (s : State) → IsMode c s.mode → (c ≡ code.After → ⊥) → ((st : Stage) → c ≡ code.Number st → ⊥) → value_of s ≡ None
other-value code.First s h n m = first-value s (from-first s.mode h)
other-value code.Next s h n m = next-value s (from-next s.mode h)
other-value code.After s h n m = absurd (n refl)
other-value (code.Text x) s h n m = text-value s.mode s.top s.below x h
other-value (code.Number st) s h n m = absurd (m st refl)
other-value (code.Word x) s h n m = word-value s.mode s.top s.below x h

-- the same of another count of bytes, and where the value is another's
pub ends-answer : (n m : ℕ) (o p : Option Json) (result : Result Document JsonFault) → n ≡ m → p ≡ o → EndsAs n o result → EndsAs m p result
ends-answer n m o p (Ok t) h k a = k ∙ a
ends-answer n m o p (Err e) h k (inl f) = inl f
ends-answer n m o p (Err e) h k (inr a) = inr (a.0 ∙ ap (λ (x : ℕ). fault.NotJson x) h, k ∙ a.1)

pub reads-result : (w : List ℕ) (r : Reader) (at : ℕ) (h : ReadsTo w r at) → at ≡ length w → (result : Result Document JsonFault) → Ends r.bytes.now r h.here
    → (Ends r.bytes.now r h.here → EndsAs (length r.bytes.now) (value_of h.here) result)
    → MatchResult result (λ t. IsJson w t.value) (λ e. IsFaultOf e w)
reads-result w r at h e (Ok t) n go = reads-ok w r at h e t.value (go n)
reads-result w r at h e (Err x) n go = reads-fault w r at h e x (same-length (go n))
  where
    same-length : ((x ≡ fault.Memory) ⊎ ((x ≡ fault.NotJson (length r.bytes.now)) × (value_of h.here ≡ None))) → (x ≡ fault.Memory) ⊎ ((x ≡ fault.NotJson (length w)) × (value_of h.here ≡ None))
    same-length (inl m) = inl m
    same-length (inr m) = inr (m.0 ∙ ap (λ (y : List ℕ). fault.NotJson (length y)) h.shows.source, m.1)
