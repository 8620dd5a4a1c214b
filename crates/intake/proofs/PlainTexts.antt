-- What is written of a text that is spelled without escapes.
use Rattle.std.proofs.Common.{◌≡◌, ℕ, ◌+◌, ◌-◌, ◌==◌, nat_le, nat_lt, Bool, true, false, not, ◌&&◌, ◌||◌, List, [], ◌∷◌, ◌++◌, length, take, refl, sym, ap, ◌∙◌, arith, subst, inl, inr, length-append}
use Rattle.std.proofs.Math.Seq.{take-append_seam}
use Rattle.std.proofs.lemmas.Bool.Decides.{nat_tests}
use Rattle.json_text.specs.Bytes.{Each}
use Rattle.json_text.specs.Lexical.{Class, Pattern, in_class, matches, characters, Among, IsCharacter, AreCharacters, none, more, IsString}
use Rattle.json_text.specs.Text.{text_from, inside, unescaped, escaped, escaped_byte, quoted}
use Rattle.json_text.specs.Text as place
use Rattle.intake.specs.Plain.{begins_no_escape, HasNoEscape}

-- the byte stands for itself between quotation marks
abbrev is_plain : ℕ → Bool
is_plain b = nat_le 0x20 b && not (b == 0x22) && not (b == 0x5c)

-- ---- classes without a byte that doesn't stand for itself

abbrev leaves_out : ℕ → ℕ × ℕ → Bool
leaves_out b r = nat_lt r.1 b || nat_lt b r.0

abbrev plain_range : ℕ × ℕ → Bool
plain_range r = nat_le 0x20 r.0 && leaves_out 0x22 r && leaves_out 0x5c r

abbrev plain_class : Class → Bool
plain_class [] = true
plain_class (r ∷ rs) = plain_range r && plain_class rs

abbrev plain_pattern : Pattern → Bool
plain_pattern [] = true
plain_pattern (c ∷ cs) = plain_class c && plain_pattern cs

-- an escape begins with a backslash
abbrev is_backslash : Class → Bool
is_backslash [] = false
is_backslash (r ∷ []) = (r.0 == 0x5c) && (r.1 == 0x5c)
is_backslash (r ∷ s ∷ rs) = false

abbrev is_escape : Pattern → Bool
is_escape [] = false
is_escape (c ∷ cs) = is_backslash c

abbrev all_known : List Pattern → Bool
all_known [] = true
all_known (p ∷ ps) = (plain_pattern p || is_escape p) && all_known ps

range-plain : (r : ℕ × ℕ) (b : ℕ) → plain_range r ≡ true → (nat_le r.0 b && nat_le b r.1) ≡ true → is_plain b ≡ true
range-plain r b h k = grind (arith, nat_tests)

class-plain : (c : Class) (b : ℕ) → plain_class c ≡ true → in_class c b ≡ true → is_plain b ≡ true
class-plain [] b h k = cc
class-plain (r ∷ rs) b h k = grind (arith, nat_tests, range-plain, class-plain rs b)

and-left : (a b : Bool) → (a && b) ≡ true → a ≡ true
and-left true b h = refl
and-left false b h = h

and-right : (a b : Bool) → (a && b) ≡ true → b ≡ true
and-right true b h = h
and-right false b h = absurd (cc)

pattern-plain : (p : Pattern) (w : List ℕ) → plain_pattern p ≡ true → matches p w ≡ true → Each is_plain w
pattern-plain [] [] h k = tt
pattern-plain [] (b ∷ bs) h k = absurd (cc)
pattern-plain (c ∷ cs) [] h k = absurd (cc)
pattern-plain (c ∷ cs) (b ∷ bs) h k =
    (class-plain c b (and-left _ _ h) (and-left _ _ k), pattern-plain cs bs (and-right _ _ h) (and-right _ _ k))

-- an escape has one
escape-begins : (p : Pattern) (w : List ℕ) → is_escape p ≡ true → matches p w ≡ true → HasNoEscape w → ⊥
escape-begins [] w h k l = absurd (cc)
escape-begins ([] ∷ cs) w h k l = absurd (cc)
escape-begins ((r ∷ s ∷ rs) ∷ cs) w h k l = absurd (cc)
escape-begins ((r ∷ []) ∷ cs) [] h k l = absurd (cc)
escape-begins ((r ∷ []) ∷ cs) (b ∷ bs) h k l =
    let first : b ≡ 0x5c = (let at : in_class (r ∷ []) b ≡ true = and-left (in_class (r ∷ []) b) (matches cs bs) k in grind (arith, nat_tests)) in
    let other = l.0 in
    grind (arith, nat_tests)

known-of : (ps : List Pattern) (p : Pattern) → all_known ps ≡ true → Among ps p → (plain_pattern p || is_escape p) ≡ true
known-of [] p h k = absurd k
known-of (q ∷ qs) p h (inl same) = rw same (and-left _ _ h)
known-of (q ∷ qs) p h (inr among) = known-of qs p (and-right _ _ h) among

plain-or-escape : (p : Pattern) (w : List ℕ) → (plain_pattern p || is_escape p) ≡ true → matches p w ≡ true → HasNoEscape w → Each is_plain w
plain-or-escape p w h k l = by (plain_pattern p) refl
  where
    by : (b : Bool) → plain_pattern p ≡ b → Each is_plain w
    by true e = pattern-plain p w e k
    by false e = absurd (escape-begins p w (sym (ap (λ x. x || is_escape p) e) ∙ h) k l)

character-plain : (w : List ℕ) → IsCharacter w → HasNoEscape w → Each is_plain w
character-plain w c l = plain-or-escape c.pattern w (known-of characters c.pattern refl c.known) c.fits l

-- ---- texts

each-left : (test : ℕ → Bool) (w c : List ℕ) → Each test (w ++ c) → Each test w
each-left test [] c h = tt
each-left test (b ∷ w) c h = (h.0, each-left test w c h.1)

each-right : (test : ℕ → Bool) (w c : List ℕ) → Each test (w ++ c) → Each test c
each-right test [] c h = h
each-right test (b ∷ w) c h = each-right test w c h.1

each-join : (test : ℕ → Bool) (w c : List ℕ) → Each test w → Each test c → Each test (w ++ c)
each-join test [] c h k = k
each-join test (b ∷ w) c h k = (h.0, each-join test w c h.1 k)

characters-plain : (w : List ℕ) → AreCharacters w → HasNoEscape w → Each is_plain w
characters-plain _ none l = tt
characters-plain _ (more w c before last) l =
    each-join is_plain w c
    (characters-plain w before (each-left begins_no_escape w c l))
    (character-plain c last (each-right begins_no_escape w c l))

escaped-plain : (w : List ℕ) → Each is_plain w → escaped w ≡ w
escaped-plain [] h = refl
escaped-plain (b ∷ w) h =
    let one : escaped_byte b ≡ b ∷ [] = (let plain = h.0 in grind (arith, nat_tests)) in
    ap (λ (x : List ℕ). x ++ escaped w) one ∙ ap (λ (x : List ℕ). b ∷ x) (escaped-plain w h.1)

text-plain : (w : List ℕ) → Each is_plain w → text_from place.none w ≡ w
unfolding text_from
text-plain [] h = refl
text-plain (b ∷ w) h =
    let other : (b == 0x5c) ≡ false = (let plain = h.0 in grind (arith, nat_tests)) in
    rw other (ap (λ (x : List ℕ). b ∷ x) (text-plain w h.1))

inside-quotes : (w : List ℕ) → inside (0x22 ∷ w ++ 0x22 ∷ []) ≡ w
inside-quotes w =
    let n : length (w ++ 0x22 ∷ []) ≡ length w + 1 = length-append w (0x22 ∷ []) in
    let m : length (0x22 ∷ w ++ 0x22 ∷ []) - 2 ≡ length w = omega arith in
    ap (λ (x : ℕ). take x (w ++ 0x22 ∷ [])) m ∙ take-append_seam w (0x22 ∷ [])

quoted-plain : (w : List ℕ) → Each is_plain w → quoted (unescaped (0x22 ∷ w ++ 0x22 ∷ [])) ≡ 0x22 ∷ w ++ 0x22 ∷ []
quoted-plain w h =
    ap (λ (x : List ℕ). quoted (text_from place.none x)) (inside-quotes w)
    ∙ ap (λ (x : List ℕ). quoted x) (text-plain w h)
    ∙ ap (λ (x : List ℕ). 0x22 ∷ x ++ 0x22 ∷ []) (escaped-plain w h)

pub quoted-unescaped : (w : List ℕ) → IsString w → HasNoEscape w → quoted (unescaped w) ≡ w
quoted-unescaped w s l =
    let between : HasNoEscape (s.inside ++ 0x22 ∷ []) = (let P : List ℕ → Type 0 = λ x. HasNoEscape x in subst P s.spelled l).1 in
    let plain = characters-plain s.inside s.characters (each-left begins_no_escape s.inside (0x22 ∷ []) between) in
    ap (λ (x : List ℕ). quoted (unescaped x)) s.spelled ∙ quoted-plain s.inside plain ∙ sym s.spelled
