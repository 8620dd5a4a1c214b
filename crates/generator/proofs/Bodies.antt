-- What the bodies of the generator's replies are read as.
use Rattle.std.proofs.Common.{◌≡◌, ℕ, ◌+◌, ◌/◌, ◌%◌, ◌^◌, ◌<◌, ◌≤◌, Bool, true, false, cond, nat_le, List, [], ◌∷◌, ◌++◌, codes, length, Option, Some, None, Ok, Err, refl, sym, ap, subst, ◌∙◌, inl, inr, append-nil, arith}
use Rattle.std.specs.Prelude.{decimal, option_and_then}
use Rattle.std.proofs.lemmas.Bool.Decides.{nat_tests}
use Rattle.std.proofs.lemmas.Fmt.{decimal_by_steps}
use Rattle.json_text.specs.Automaton as json
use Rattle.json_text.specs.Automaton.{Frame, State, next, after, closed, put, run, start, state, value_of}
use Rattle.json_text.specs.Bytes.{Each, is_digit, is_leading_digit}
use Rattle.json_text.specs.Grammar.{Json, null, number, text, array, object, spelling, Parts, no_parts, part, element, member, whole}
use Rattle.json_text.specs.Lexical.{IsNumber, IsPositive}
use Rattle.json_text.specs.Texts.{go_on, read_from, read_text}
use Rattle.json_text.specs.declared.fault.JsonFault.TheVariants.{TooDeep}
use Rattle.generator.specs.Inputs.{step}
use Rattle.json_text.proofs.Reading.{IsAt, at-step, number-run, run-append, run-one}

-- ## From one state to another

-- whatever the place, these bytes are read as this value
abbrev IsReadFrom : State → List ℕ → Json → Type 0
IsReadFrom s w j = (at : ℕ) → read_from at w s ≡ Ok j

led-in : (v w : List ℕ) (t u : State) (j : Json) → ((s : State) → run 64 v s ≡ Some t → IsReadFrom s (v ++ w) j)
    → (at : ℕ) (c : Bool) → cond c (run 64 v u) None ≡ Some t
    → cond c (read_from (at + 1) (v ++ w) u) (Err (TooDeep at)) ≡ Ok j
led-in v w t u j more at true e = more u e (at + 1)
led-in v w t u j more at false e = absurd (cc)

led-on : (v w : List ℕ) (t : State) (j : Json) → ((s : State) → run 64 v s ≡ Some t → IsReadFrom s (v ++ w) j)
    → (at : ℕ) (o : Option State)
    → option_and_then (λ u. cond (nat_le (length u.below) 64) (run 64 v u) None) o ≡ Some t
    → go_on at o (λ u. read_from (at + 1) (v ++ w) u) ≡ Ok j
led-on v w t j more at None e = absurd (cc)
led-on v w t j more at (Some u) e = led-in v w t u j more at (nat_le (length u.below) 64) e

leads : (v w : List ℕ) (t : State) (j : Json) → IsReadFrom t w j → (s : State) → run 64 v s ≡ Some t
    → IsReadFrom s (v ++ w) j
unfolding run read_from
leads [] w t j h s e at = let same : s ≡ t = cc in subst (λ u. read_from at w u ≡ Ok j) (sym same) (h at)
leads (b ∷ v) w t j h s e at = led-on v w t j (leads v w t j h) at (json.step s b) e

ends : (t : State) (j : Json) → value_of t ≡ Some j → IsReadFrom t [] j
unfolding read_from
ends t j e at = rw e refl

reads : (w : List ℕ) (t : State) (j : Json) → run 64 w start ≡ Some t → value_of t ≡ Some j → read_text w ≡ Ok j
reads w t j e k = subst (λ v. read_text v ≡ Ok j) (append-nil w) (leads w [] t j (ends t j k) start e 0)

-- ## A number

each-last : (w : List ℕ) (b : ℕ) → Each is_digit w → is_digit b ≡ true → Each is_digit (w ++ b ∷ [])
each-last [] b h k = (k, tt)
each-last (c ∷ w) b h k = (h.0, each-last w b h.1 k)

leads-digit : (n : ℕ) → 0 < n → n < 10 → is_leading_digit (48 + n) ≡ true
leads-digit n h k = grind (arith, nat_tests)

is-digit : (n : ℕ) → n < 10 → is_digit (48 + n) ≡ true
is-digit n h = grind (arith, nat_tests)

abbrev IsPositiveOf : ℕ → List ℕ → Type 0
IsPositiveOf n w = 0 < n → IsPositive w

one-digit : (n : ℕ) → n < 10 → IsPositiveOf n ((48 + n) ∷ [])
one-digit n h k = record {
  first = 48 + n;
  rest = [];
  spelled = refl;
  leads = leads-digit n k h;
  digits = tt;
}

more-digits : (n : ℕ) (ds : List ℕ) → 10 ≤ n → IsPositiveOf (n / 10) ds → IsPositiveOf n (ds ++ (48 + n % 10) ∷ [])
more-digits n ds l h k =
    let p = h (omega arith) in
    record {
      first = p.first;
      rest = p.rest ++ (48 + n % 10) ∷ [];
      spelled = ap (λ w. w ++ (48 + n % 10) ∷ []) p.spelled;
      leads = p.leads;
      digits = each-last p.rest (48 + n % 10) p.digits (is-digit (n % 10) (omega arith));
    }

positive-decimal : (n : ℕ) → 0 < n → n < 2 ^ 64 → IsPositive (decimal n)
positive-decimal n h l = decimal_by_steps IsPositiveOf one-digit more-digits n l h

positive-number : (w : List ℕ) → IsPositive w → IsNumber w
positive-number w h = record {
  minus = [];
  whole = w;
  fraction = [];
  exponent = [];
  spelled = sym (append-nil (w ++ []) ∙ append-nil w);
  is_minus = inl refl;
  is_whole = inr h;
  is_fraction = inl refl;
  is_exponent = inl refl;
}

pub decimal-number : (n : ℕ) → 0 < n → n < 2 ^ 64 → IsNumber (decimal n)
decimal-number n h l = positive-number (decimal n) (positive-decimal n h l)

-- ## The body of a step's reply

abbrev pub object_begun : List ℕ
object_begun = codes "{\"id\":\"" ++ step ++ codes "\",\"op\":\"StepRun\",\"data\":"

abbrev pub begun : List ℕ
begun = codes "[" ++ object_begun

abbrev pub names_so_far : Parts → Parts
names_so_far last =
    part (text (codes "\"id\"")) (part (text (codes "\"" ++ step ++ codes "\""))
    (part (text (codes "\"op\"")) (part (text (codes "\"StepRun\"")) (part (text (codes "\"data\"")) last))))

abbrev pub told : List ℕ → Json
told w = object (object_begun ++ w ++ codes "}") (names_so_far (part (number w) no_parts))

abbrev pub told_alone : List ℕ → Json
told_alone w = array (codes "[" ++ spelling (told w) ++ codes "]") (part (told w) no_parts)

abbrev object_frame : Frame
object_frame = record { turn = member; bytes = object_begun; parts = names_so_far no_parts }

abbrev array_frame : Frame
array_frame = record { turn = element; bytes = codes "["; parts = no_parts }

abbrev text_frame : Frame
text_frame = record { turn = whole; bytes = []; parts = no_parts }

begun-run : run 64 begun start ≡ Some (state next object_frame (array_frame ∷ text_frame ∷ []))
unfolding run json.step
begun-run = refl

abbrev behind_object : List ℕ → State
behind_object w = state after (put (told w) array_frame) (text_frame ∷ [])

abbrev behind_array : List ℕ → State
behind_array w = state after (put (told_alone w) text_frame) []

array-ended : (w : List ℕ) → run 64 (0x5d ∷ []) (behind_object w) ≡ Some (behind_array w)
unfolding run json.step
array-ended w = refl

ended-run : (w : List ℕ) (s : State) → IsAt s object_frame (array_frame ∷ text_frame ∷ []) (number w)
    → run 64 (codes "}]") s ≡ Some (behind_array w)
unfolding run json.step
ended-run w s h =
    run-one 64 s (behind_object w) 0x7d (0x5d ∷ [])
    (at-step s object_frame (array_frame ∷ text_frame ∷ []) (number w) 0x7d h refl) (omega arith)
    ∙ array-ended w

body-run : (w : List ℕ) → IsNumber w → run 64 (begun ++ w ++ codes "}]") start ≡ Some (behind_array w)
body-run w h =
    let fs = array_frame ∷ text_frame ∷ [] in
    let at = number-run 64 next object_frame fs w tt refl (omega arith) h in
    run-append 64 begun (w ++ codes "}]") start (state next object_frame fs) begun-run
    ∙ run-append 64 w (codes "}]") (state next object_frame fs) at.0 at.1
    ∙ ended-run w at.0 at.2

pub body-read : (w : List ℕ) → IsNumber w → read_text (begun ++ w ++ codes "}]") ≡ Ok (told_alone w)
unfolding json.value_of
body-read w h = reads (begun ++ w ++ codes "}]") (behind_array w) (told_alone w) (body-run w h) refl

pub null-read : read_text (codes "null") ≡ Ok null
unfolding read_from json.step json.value_of
null-read = refl
