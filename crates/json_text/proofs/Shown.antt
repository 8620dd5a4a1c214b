-- What each call of the code's reader leaves, as a state of the automaton.
use Rattle.std.proofs.Common.{◌≡◌, ℕ, suc, ◌+◌, ◌<◌, ◌≤◌, List, [], ◌∷◌, ◌++◌, refl, sym, ◌∙◌, ap, subst, append_assoc, append-nil, arith, length, take, Option, Some, None, Result, Ok, Err}
use Rattle.std.specs.Prelude.{⊤, slice_index, slice_range}
use Rattle.std.proofs.lemmas.List.{length-take, take_more}
use Rattle.json_text.specs.Grammar.{Json, number, spelling}
use Rattle.json_text.specs.Automaton.{token, Frame, Mode, first, next, after, text_at, character, numeral, word, State, state, with_byte, put, closed, close, open_at, start}
use Rattle.json_text.specs.Nodes.{nodes, kind_of, parts_of}
use Rattle.json_text.specs.Entries.{turn_of, bytes_below}
use Rattle.json_text.specs.Building.{Lies, IsLeaf, Puts, Opens, Closes, IsInside, IsOutermost}
use Rattle.json_text.specs.Reading.{IsMode, IsToken, BeginsAt, Holds, Stays, Answers}
use Rattle.json_text.proofs.Laying.{slice-between, front-length, laid-depth}
use Rattle.json_text.specs.declared.bracket.Turn.{Turn as CodeTurn}
use Rattle.json_text.specs.declared.fault.JsonFault.{JsonFault}
use Rattle.json_text.specs.declared.fault.JsonFault.TheVariants as fault
use Rattle.json_text.specs.declared.kind.Kind.{Kind}
use Rattle.json_text.specs.declared.kind.Kind.TheVariants as kind
use Rattle.json_text.specs.declared.number.Stage.{Stage}
use Rattle.json_text.specs.declared.reader.Reader.{Reader}

pub as-answer : (w : List ℕ) (at : ℕ) (o p : Option State) (result : Result ⊤ JsonFault) (r : Reader) → o ≡ p → Answers w at p result r → Answers w at o result r
as-answer w at o p result r e h = subst (λ (x : Option State). Answers w at x result r) (sym e) h

pub not-json-answer : (w : List ℕ) (at : ℕ) (o : Option State) (f : JsonFault) (r : Reader) → f ≡ fault.NotJson at → o ≡ None → Answers w at o (Err f) r
not-json-answer w at o f r e h = subst (λ (x : JsonFault). Answers w at o (Err x) r) (sym e) (refl, h)

pub take-one : (w : List ℕ) (at byte : ℕ) → at < length w → byte ≡ slice_index w at → take (at + 1) w ≡ take at w ++ byte ∷ []
take-one w at byte h e = take_more w at 0 h ∙ ap (λ (x : ℕ). take at w ++ x ∷ []) (sym e)

at-length : (w : List ℕ) (at : ℕ) (a : List ℕ) → at < length w → take at w ≡ a → at ≡ length a
at-length w at a h e = let l : length (take at w) ≡ length a = ap length e in omega (arith, length-take at w)

-- ---- between tokens

pub moves : (w : List ℕ) (r s : Reader) (at byte : ℕ) (n : Mode) (f : Frame) (fs : List Frame) (o : Option State) (u : ⊤)
    → s.bytes ≡ r.bytes → s.builder ≡ r.builder → IsMode s.mode n → BeginsAt n s.start (length (bytes_below fs ++ (f.bytes ++ byte ∷ []))) → Stays w r at byte f fs → o ≡ Some (state n (with_byte byte f) fs) → Answers w at o (Ok u) s
moves w r s at byte n f fs o u b c m g h e = (
  state n (with_byte byte f) fs,
  e,
  h.few,
  record { source = ap (λ x. x.now) b ∙ h.source; mode = m; begins = g; lies = subst (λ x. Lies w x f.turn f.parts fs) (sym c) h.lies },
)

begins-at : (m : Mode) (n k : ℕ) → n ≡ k → BeginsAt m n k
begins-at first n k e = tt
begins-at next n k e = tt
begins-at after n k e = tt
begins-at (text_at w) n k e = e
begins-at (character w ps) n k e = e
begins-at (numeral w s) n k e = e
begins-at (word w rest j) n k e = e

pub begins-token : (m : Mode) (n k : ℕ) → IsToken m → BeginsAt m n k → n ≡ k
begins-token first n k h e = absurd h
begins-token next n k h e = absurd h
begins-token after n k h e = absurd h
begins-token (text_at w) n k h e = e
begins-token (character w ps) n k h e = e
begins-token (numeral w s) n k h e = e
begins-token (word w rest j) n k h e = e

pub begins : (w : List ℕ) (r s : Reader) (at byte : ℕ) (m : Mode) (f : Frame) (fs : List Frame) (o : Option State) (u : ⊤)
    → s.bytes ≡ r.bytes → s.builder ≡ r.builder → IsMode s.mode m → s.start ≡ at → Stays w r at byte f fs → o ≡ Some (state m f fs) → Answers w at o (Ok u) s
begins w r s at byte m f fs o u b c i n h e = (
  state m f fs,
  e,
  h.few,
  record {
    source = ap (λ x. x.now) b ∙ h.source;
    mode = i;
    begins = begins-at m s.start (length (bytes_below fs ++ f.bytes)) (n ∙ at-length w at (bytes_below fs ++ f.bytes) h.within h.spelled);
    lies = subst (λ x. Lies w x f.turn f.parts fs) (sym c) h.lies;
  },
)

-- ---- in a token

pub goes-on : (w : List ℕ) (r s : Reader) (at byte : ℕ) (m n : Mode) (f : Frame) (fs : List Frame) (o : Option State) (u : ⊤)
    → s.bytes ≡ r.bytes → s.builder ≡ r.builder → s.start ≡ r.start → IsMode s.mode n → IsToken m → Holds w r at byte m f fs → o ≡ Some (state n f fs) → Answers w at o (Ok u) s
goes-on w r s at byte m n f fs o u b c d i t h e =
    let k : r.start ≡ length (bytes_below fs ++ f.bytes) = begins-token m r.start (length (bytes_below fs ++ f.bytes)) t h.shows.begins in (
      state n f fs,
      e,
      h.few,
      record {
        source = ap (λ x. x.now) b ∙ h.shows.source;
        mode = i;
        begins = begins-at n s.start (length (bytes_below fs ++ f.bytes)) (d ∙ k);
        lies = subst (λ x. Lies w x f.turn f.parts fs) (sym c) h.shows.lies;
      },
    )

pub leaf : (w : List ℕ) (a v : List ℕ) (start stop : ℕ) (j : Json) → start ≡ length a → stop ≤ length w → take stop w ≡ a ++ v → spelling j ≡ v → nodes j ≡ j ∷ [] → parts_of j ≡ [] → IsLeaf w start stop (kind_of j) j
leaf w a v start stop j e n t s o p =
    let l : stop ≡ length a + length v = front-length w a v stop n t in
    record {
      is_kind = refl;
      alone = o;
      no_parts_there = p;
      ordered = omega arith;
      within = n;
      slice = ap (λ (x : ℕ). slice_range w x stop) e ∙ slice-between w a v stop (omega arith) t ∙ sym s;
    }

pub puts : (w : List ℕ) (r s : Reader) (at byte : ℕ) (m : Mode) (f : Frame) (fs : List Frame) (j : Json) (k : Kind) (o : Option State) (u : ⊤)
    → s.bytes ≡ r.bytes → IsMode s.mode after → Puts r.builder r.start (at + 1) k s.builder → k ≡ kind_of j → nodes j ≡ j ∷ [] → parts_of j ≡ [] → IsToken m → Holds w r at byte m f fs
    → spelling j ≡ token m ++ byte ∷ [] → o ≡ Some (state after (put j f) fs) → Answers w at o (Ok u) s
puts w r s at byte m f fs j k o u b i p ke al np t h sp e =
    let a : List ℕ = bytes_below fs ++ f.bytes in
    let st : r.start ≡ length a = begins-token m r.start (length a) t h.shows.begins in
    let tk : take (at + 1) w ≡ a ++ (token m ++ byte ∷ []) = take-one w at byte h.within h.byte_is ∙ ap (λ (x : List ℕ). x ++ byte ∷ []) h.spelled ∙ append_assoc a (token m) (byte ∷ []) in
    let lf : IsLeaf w r.start (at + 1) (kind_of j) j = leaf w a (token m ++ byte ∷ []) r.start (at + 1) j st (let q : at < length w = h.within in omega arith) tk sp al np in (
      state after (put j f) fs,
      e,
      h.few,
      record {
        source = ap (λ x. x.now) b ∙ h.shows.source;
        mode = i;
        begins = tt;
        lies = p w f.turn f.parts fs j (subst (λ (x : Kind). IsLeaf w r.start (at + 1) x j) (sym ke) lf) h.shows.lies;
      },
    )

-- the number that ends before this byte
pub number-stays : (w : List ℕ) (r s : Reader) (at byte : ℕ) (v : List ℕ) (st : Stage) (f : Frame) (fs : List Frame)
    → s.bytes ≡ r.bytes → Puts r.builder r.start at kind.Number s.builder → Holds w r at byte (numeral v st) f fs → Stays w s at byte (put (number v) f) fs
number-stays w r s at byte v st f fs b p h =
    let a : List ℕ = bytes_below fs ++ f.bytes in
    let lf : IsLeaf w r.start at kind.Number (number v) = leaf w a v r.start at (number v) h.shows.begins (let q : at < length w = h.within in omega arith) h.spelled refl refl refl in
    record {
      source = ap (λ x. x.now) b ∙ h.shows.source;
      lies = p w f.turn f.parts fs (number v) lf h.shows.lies;
      spelled = h.spelled ∙ append_assoc (bytes_below fs) f.bytes v;
      few = h.few;
      within = h.within;
      byte_is = h.byte_is;
    }

-- ---- brackets

pub close-true : (w : List ℕ) (r s : Reader) (at byte : ℕ) (f : Frame) (fs : List Frame) (u : ⊤)
    → Closes r.builder (at + 1) s.builder → IsInside r.builder → s.bytes ≡ r.bytes → IsMode s.mode after → Stays w r at byte f fs → Answers w at (close byte f fs) (Ok u) s
close-true w r s at byte f [] u c i b m h = absurd (i w f.turn f.parts h.lies)
close-true w r s at byte f (g ∷ gs) u c i b m h = (
  state after (put (closed f.turn (f.bytes ++ byte ∷ []) f.parts) g) gs,
  refl,
  (let k : suc (length gs) ≤ 64 = h.few in omega arith),
  record {
    source = ap (λ x. x.now) b ∙ h.source;
    mode = m;
    begins = tt;
    lies = c w f.turn f.parts g gs (f.bytes ++ byte ∷ []) h.lies (let q : at < length w = h.within in omega arith)
        (take-one w at byte h.within h.byte_is ∙ ap (λ (x : List ℕ). x ++ byte ∷ []) h.spelled ∙ append_assoc (bytes_below (g ∷ gs)) f.bytes (byte ∷ []));
  },
)

pub close-false : (w : List ℕ) (r s : Reader) (at byte : ℕ) (f : Frame) (fs : List Frame) (x : JsonFault) → x ≡ fault.NotJson at → IsOutermost r.builder → Stays w r at byte f fs → Answers w at (close byte f fs) (Err x) s
close-false w r s at byte f [] x e i h = not-json-answer w at None x s e refl
close-false w r s at byte f (g ∷ gs) x e i h = absurd (i w f.turn f.parts g gs h.lies)

pub open-answer : (w : List ℕ) (r s : Reader) (at byte : ℕ) (t : CodeTurn) (f : Frame) (fs : List Frame) (u : ⊤)
    → length r.builder.below.items < 64 → Opens r.builder t at s.builder → s.bytes ≡ r.bytes → IsMode s.mode first → Stays w r at byte f fs → Answers w at (Some (open_at (turn_of t) byte f fs)) (Ok u) s
open-answer w r s at byte t f fs u l p b m h =
    let d : length r.builder.below.items ≡ length fs = laid-depth w r.builder.nodes.items r.builder.top r.builder.below.items f.turn f.parts fs h.lies in (
      open_at (turn_of t) byte f fs,
      refl,
      (let k : suc (length fs) ≤ 64 = omega arith in k),
      record {
        source = ap (λ x. x.now) b ∙ h.source;
        mode = m;
        begins = tt;
        lies = p w f fs h.lies (at-length w at (bytes_below fs ++ f.bytes) h.within h.spelled);
      },
    )

pub deep-answer : (w : List ℕ) (r s : Reader) (at byte : ℕ) (t : CodeTurn) (f : Frame) (fs : List Frame)
    → 64 ≤ length r.builder.below.items → Stays w r at byte f fs → Answers w at (Some (open_at (turn_of t) byte f fs)) (Err (fault.TooDeep at)) s
deep-answer w r s at byte t f fs l h =
    let d : length r.builder.below.items ≡ length fs = laid-depth w r.builder.nodes.items r.builder.top r.builder.below.items f.turn f.parts fs h.lies in
    (refl, (open_at (turn_of t) byte f fs, refl, (let k : 64 < suc (length fs) = omega arith in k)))

-- between tokens, what holds stays
pub holds-stays : (w : List ℕ) (r : Reader) (at byte : ℕ) (m : Mode) (f : Frame) (fs : List Frame) → token m ≡ [] → Holds w r at byte m f fs → Stays w r at byte f fs
holds-stays w r at byte m f fs e h = record { source = h.shows.source; lies = h.shows.lies; spelled = h.spelled ∙ ap (λ (x : List ℕ). bytes_below fs ++ f.bytes ++ x) e ∙ append-nil (bytes_below fs ++ f.bytes); few = h.few; within = h.within; byte_is = h.byte_is }
