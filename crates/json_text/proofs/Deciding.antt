-- A whole text is read as the automaton reads it.
use Rattle.std.proofs.Common.{◌≡◌, ℕ, ◌+◌, ◌<◌, ◌≤◌, Bool, true, false, cond, nat_le, List, [], ◌∷◌, ◌++◌, append-nil, refl, sym, ◌∙◌, ap, ◌⊎◌, inl, inr, arith, length, take, drop, Option, Some, Result, Ok, Err}
use Rattle.std.proofs.lemmas.Bool.Decides.{nat_tests}
use Rattle.std.proofs.Math.Seq.{take-length}
use Rattle.std.specs.Prelude.{slice_index}
use Rattle.lists.specs.Starved.{OrStarved}
use Rattle.json_text.specs.Nodes.{Document}
use Rattle.json_text.specs.Automaton.{State, start, step, run, value_of}
use Rattle.json_text.specs.Reading.{Answers, EndsAs}
use Rattle.json_text.specs.Texts.{end_at, go_on, read_from, read_text, value_read}
use Rattle.json_text.specs.declared.fault.JsonFault.{JsonFault}
use Rattle.json_text.specs.declared.fault.JsonFault.TheVariants as fault
use Rattle.json_text.specs.declared.reader.Reader.{Reader}
use Rattle.json_text.proofs.Faults.{goes}
use Rattle.json_text.proofs.Reading.{run-nil}
use Rattle.json_text.proofs.Whole.{ReadsTo, split-at, taken}

is-few : (n limit : ℕ) → n ≤ limit → nat_le n limit ≡ true
is-few n limit h = grind (arith, nat_tests)

is-many : (n limit : ℕ) → limit < n → nat_le n limit ≡ false
is-many n limit h = grind (arith, nat_tests)

read-one : (at b : ℕ) (bs : List ℕ) (s : State) → read_from at (b ∷ bs) s ≡ go_on at (step s b) (λ t. read_from (at + 1) bs t)
unfolding read_from
read-one at b bs s = refl

read-end : (at : ℕ) (s : State) → read_from at [] s ≡ end_at at (value_of s)
unfolding read_from
read-end at s = refl

ran-nothing : (s t : State) → run 64 [] s ≡ Some t → s ≡ t
ran-nothing s t h = let e : Some s ≡ Some t = sym (run-nil 64 s) ∙ h in cc

-- Behind bytes that the automaton takes, the rest is read from its state.
read-run : (v rest : List ℕ) (at : ℕ) (s t : State) → run 64 v s ≡ Some t → read_from at (v ++ rest) s ≡ read_from (at + length v) rest t
read-run [] rest at s t h = ap (λ (x : State). read_from at rest x) (ran-nothing s t h) ∙ ap (λ (n : ℕ). read_from n rest t) (omega arith)
read-run (b ∷ bs) rest at s t h =
    let g = goes 64 b bs s t h in
    read-one at b (bs ++ rest) s
    ∙ ap (λ (o : Option State). go_on at o (λ u. read_from (at + 1) (bs ++ rest) u)) g.steps
    ∙ ap (λ (c : Bool). cond c (read_from (at + 1) (bs ++ rest) g.through) (Err (fault.TooDeep at))) (is-few (length g.through.below) 64 g.few)
    ∙ read-run bs rest (at + 1) g.through t g.on
    ∙ ap (λ (n : ℕ). read_from n rest t) (omega arith)

-- where the automaton stands behind the first bytes, the text is read from there
read-here : (w : List ℕ) (r : Reader) (at : ℕ) (h : ReadsTo w r at) (rest : List ℕ) → take at w ++ rest ≡ w → length (take at w) ≡ at → read_text w ≡ read_from at rest h.here
read-here w r at h rest parts size =
    ap (λ (x : List ℕ). read_from 0 x start) (sym parts)
    ∙ read-run (take at w) rest 0 start h.here h.ran
    ∙ ap (λ (n : ℕ). read_from n rest h.here) (omega (arith, size))

-- what a call that reads a text answers
abbrev pub Decides : List ℕ → Result Document JsonFault → Type 0
Decides w result = OrStarved fault.Memory (read_text w) (value_read result)

pub step-decides : (w : List ℕ) (r s : Reader) (at byte : ℕ) (e : JsonFault) (h : ReadsTo w r at) → at < length w → byte ≡ slice_index w at → Answers w at (step h.here byte) (Err e) s → (read_text w ≡ Err e) ⊎ (e ≡ fault.Memory)
step-decides w r s at byte (fault.NotJson p) h l e a =
    inl (read-here w r at h (byte ∷ drop (at + 1) w) (split-at w at byte l e) (taken w at l) ∙ read-one at byte (drop (at + 1) w) h.here
    ∙ ap (λ (o : Option State). go_on at o (λ u. read_from (at + 1) (drop (at + 1) w) u)) a.1
    ∙ ap (λ (n : ℕ). Err (fault.NotJson n)) (sym a.0))
step-decides w r s at byte (fault.TooDeep p) h l e a =
    inl (read-here w r at h (byte ∷ drop (at + 1) w) (split-at w at byte l e) (taken w at l) ∙ read-one at byte (drop (at + 1) w) h.here
    ∙ ap (λ (o : Option State). go_on at o (λ u. read_from (at + 1) (drop (at + 1) w) u)) a.1.1
    ∙ ap (λ (c : Bool). cond c (read_from (at + 1) (drop (at + 1) w) a.1.0) (Err (fault.TooDeep at))) (is-many (length a.1.0.below) 64 a.1.2)
    ∙ ap (λ (n : ℕ). Err (fault.TooDeep n)) (sym a.0))
step-decides w r s at byte fault.Memory h l e a = inr refl

-- the end of the text
text-end : (w : List ℕ) (r : Reader) (at : ℕ) (h : ReadsTo w r at) → at ≡ length w → read_text w ≡ end_at (length w) (value_of h.here)
text-end w r at h e =
    let all : take at w ≡ w = ap (λ (x : ℕ). take x w) e ∙ take-length w in
    read-here w r at h [] (ap (λ (x : List ℕ). x ++ []) all ∙ append-nil w) (ap length all ∙ sym e)
    ∙ read-end at h.here ∙ ap (λ (n : ℕ). end_at n (value_of h.here)) e

pub end-decides : (w : List ℕ) (r : Reader) (at : ℕ) (h : ReadsTo w r at) → at ≡ length w → (result : Result Document JsonFault)
    → EndsAs (length r.bytes.now) (value_of h.here) result → Decides w result
end-decides w r at h e (Ok t) v = text-end w r at h e ∙ ap (end_at (length w)) v
end-decides w r at h e (Err x) (inl m) = inr m
end-decides w r at h e (Err x) (inr m) = inl (text-end w r at h e ∙ ap (end_at (length w)) m.1 ∙ ap Err (ap (λ (y : List ℕ). fault.NotJson (length y)) (sym h.shows.source) ∙ sym m.0))
