-- What is written of a text in UTF-8 is read as that text.
use Rattle.std.proofs.Common.{◌≡◌, ℕ, ◌+◌, ◌-◌, ◌/◌, ◌%◌, ◌<◌, ◌≤◌, Bool, true, false, cond, ◌||◌, nat_lt, List, [], ◌∷◌, ◌++◌, length, length-append, take, refl, sym, ◌∙◌, ap, subst, append_assoc, append-nil, ◌⊎◌, inl, inr, arith}
use Rattle.std.proofs.lemmas.Bool.{eqb-true}
use Rattle.std.proofs.lemmas.Bool.Decides.{nat_tests}
use Rattle.std.proofs.lemmas.Str.{encode_ascii}
use Rattle.std.proofs.Math.Seq.{take-append_seam}
use Rattle.std.specs.Prelude.{⊤, ◌==◌, IsUtf8}
use lib.Utf8.{encode, encodes, scalar, scalars, low_scalar}
use Rattle.json_text.proofs.Booleans.{both, and_left, and_right, either_of, decide}
use Rattle.json_text.proofs.Arms.{not-eq}
use Rattle.json_text.proofs.Within.{below}
use Rattle.json_text.proofs.Writing.{escaped-append}
use Rattle.json_text.specs.Lexical.{Pattern, in_class, matches, Among, characters, IsCharacter, AreCharacters, none, more, IsString}
use Rattle.json_text.specs.Grammar.{text, IsJson}
use Rattle.json_text.specs.Text.{text_from, code_unit, is_high_surrogate, character_bytes, hex_digit, inside, unescaped, escaped, escaped_byte, quoted}
use Rattle.json_text.specs.Text as place

less : (a b : ℕ) → a < b → nat_lt a b ≡ true
less a b h = grind (arith, nat_tests)

at-least : (a b : ℕ) → b ≤ a → nat_lt a b ≡ false
at-least a b h = grind (arith, nat_tests)

is-less : (a b : ℕ) → nat_lt a b ≡ true → a < b
is-less a b h = grind (arith, nat_tests)

is-at-least : (a b : ℕ) → nat_lt a b ≡ false → b ≤ a
is-at-least a b h = grind (arith, nat_tests)

-- ---- the bytes of a character, by the number of them

encode-two : (c : ℕ) → 0x80 ≤ c → c < 0x800 → encode c ≡ (0xc0 + c / 64) ∷ (0x80 + c % 64) ∷ []
unfolding encode
encode-two c h k = rw (at-least c 0x80 h, less c 0x800 k) refl

encode-three : (c : ℕ) → 0x800 ≤ c → c < 0x10000 → encode c ≡ (0xe0 + c / 4096) ∷ (0x80 + c / 64 % 64) ∷ (0x80 + c % 64) ∷ []
unfolding encode
encode-three c h k = rw (at-least c 0x80 (omega arith), at-least c 0x800 h, less c 0x10000 k) refl

encode-four : (c : ℕ) → 0x10000 ≤ c → encode c ≡ (0xf0 + c / 262144) ∷ (0x80 + c / 4096 % 64) ∷ (0x80 + c / 64 % 64) ∷ (0x80 + c % 64) ∷ []
unfolding encode
encode-four c h = rw (at-least c 0x80 (omega arith), at-least c 0x800 (omega arith), at-least c 0x10000 h) refl

-- ---- characters of the grammar

among-by : (p : Pattern) (w : List ℕ) → Among characters p → matches p w ≡ true → IsCharacter w
among-by p w h k = record { pattern = p; known = h; fits = k }

in-one : (low high b : ℕ) → low ≤ b → b ≤ high → in_class ((low, high) ∷ []) b ≡ true
in-one low high b h k = grind (arith, nat_tests)

character-two : (a b : ℕ) → 0xc2 ≤ a → a ≤ 0xdf → 0x80 ≤ b → b ≤ 0xbf → IsCharacter (a ∷ b ∷ [])
character-two a b h k l m = among-by _ (a ∷ b ∷ []) (inr (inl refl)) (both (in-one 0xc2 0xdf a h k) (both (in-one 0x80 0xbf b l m) refl))

character-e0 : (b c : ℕ) → 0xa0 ≤ b → b ≤ 0xbf → 0x80 ≤ c → c ≤ 0xbf → IsCharacter (0xe0 ∷ b ∷ c ∷ [])
character-e0 b c h k l m = among-by _ (0xe0 ∷ b ∷ c ∷ []) (inr (inr (inl refl))) (both (in-one 0xa0 0xbf b h k) (both (in-one 0x80 0xbf c l m) refl))

in-two : (a b c d x : ℕ) → ((a ≤ x) × (x ≤ b)) ⊎ ((c ≤ x) × (x ≤ d)) → in_class ((a, b) ∷ (c, d) ∷ []) x ≡ true
in-two a b c d x h = grind (arith, nat_tests)

character-three : (a b c : ℕ) → ((0xe1 ≤ a) × (a ≤ 0xec)) ⊎ ((0xee ≤ a) × (a ≤ 0xef)) → 0x80 ≤ b → b ≤ 0xbf → 0x80 ≤ c → c ≤ 0xbf → IsCharacter (a ∷ b ∷ c ∷ [])
character-three a b c h k l m n = among-by _ (a ∷ b ∷ c ∷ []) (inr (inr (inr (inl refl)))) (both (in-two 0xe1 0xec 0xee 0xef a h) (both (in-one 0x80 0xbf b k l) (both (in-one 0x80 0xbf c m n) refl)))

character-ed : (b c : ℕ) → 0x80 ≤ b → b ≤ 0x9f → 0x80 ≤ c → c ≤ 0xbf → IsCharacter (0xed ∷ b ∷ c ∷ [])
character-ed b c h k l m = among-by _ (0xed ∷ b ∷ c ∷ []) (inr (inr (inr (inr (inl refl))))) (both (in-one 0x80 0x9f b h k) (both (in-one 0x80 0xbf c l m) refl))

character-f0 : (b c d : ℕ) → 0x90 ≤ b → b ≤ 0xbf → 0x80 ≤ c → c ≤ 0xbf → 0x80 ≤ d → d ≤ 0xbf → IsCharacter (0xf0 ∷ b ∷ c ∷ d ∷ [])
character-f0 b c d h k l m n o = among-by _ (0xf0 ∷ b ∷ c ∷ d ∷ []) (inr (inr (inr (inr (inr (inl refl)))))) (both (in-one 0x90 0xbf b h k) (both (in-one 0x80 0xbf c l m) (both (in-one 0x80 0xbf d n o) refl)))

character-four : (a b c d : ℕ) → 0xf1 ≤ a → a ≤ 0xf3 → 0x80 ≤ b → b ≤ 0xbf → 0x80 ≤ c → c ≤ 0xbf → 0x80 ≤ d → d ≤ 0xbf → IsCharacter (a ∷ b ∷ c ∷ d ∷ [])
character-four a b c d f g h k l m n o = among-by _ (a ∷ b ∷ c ∷ d ∷ []) (inr (inr (inr (inr (inr (inr (inl refl))))))) (both (in-one 0xf1 0xf3 a f g) (both (in-one 0x80 0xbf b h k) (both (in-one 0x80 0xbf c l m) (both (in-one 0x80 0xbf d n o) refl))))

character-f4 : (b c d : ℕ) → 0x80 ≤ b → b ≤ 0x8f → 0x80 ≤ c → c ≤ 0xbf → 0x80 ≤ d → d ≤ 0xbf → IsCharacter (0xf4 ∷ b ∷ c ∷ d ∷ [])
character-f4 b c d h k l m n o = among-by _ (0xf4 ∷ b ∷ c ∷ d ∷ []) (inr (inr (inr (inr (inr (inr (inr (inl refl)))))))) (both (in-one 0x80 0x8f b h k) (both (in-one 0x80 0xbf c l m) (both (in-one 0x80 0xbf d n o) refl)))

scalar-range : (c : ℕ) → scalar c ≡ true → (c < 0xd800) ⊎ ((0xe000 ≤ c) × (c < 0x110000))
scalar-range c h = grind (arith, nat_tests)

is-two : (c : ℕ) → 0x80 ≤ c → c < 0x800 → IsCharacter (encode c)
is-two c h k = subst IsCharacter (sym (encode-two c h k)) (character-two (0xc0 + c / 64) (0x80 + c % 64) (omega arith) (omega arith) (omega arith) (omega arith))

lead-is : (a n : ℕ) (rest : List ℕ) → a ≡ n → IsCharacter (n ∷ rest) → IsCharacter (a ∷ rest)
lead-is a n rest e h = subst (λ (x : ℕ). IsCharacter (x ∷ rest)) (sym e) h

three-at : (c : ℕ) → 0x800 ≤ c → c < 0x10000 → scalar c ≡ true → IsCharacter ((0xe0 + c / 4096) ∷ (0x80 + c / 64 % 64) ∷ (0x80 + c % 64) ∷ [])
three-at c h k s =
    elim (decide (nat_lt c 0x1000)) [
      | inl e ↦ (let m : c < 0x1000 = is-less c 0x1000 e in
          lead-is (0xe0 + c / 4096) 0xe0 _ (omega arith) (character-e0 (0x80 + c / 64 % 64) (0x80 + c % 64) (omega arith) (omega arith) (omega arith) (omega arith)))
      | inr e ↦ (let m : 0x1000 ≤ c = is-at-least c 0x1000 e in
          elim (decide (nat_lt c 0xd000)) [
            | inl f ↦ (let n : c < 0xd000 = is-less c 0xd000 f in character-three (0xe0 + c / 4096) (0x80 + c / 64 % 64) (0x80 + c % 64) (inl ((omega arith), (omega arith))) (omega arith) (omega arith) (omega arith) (omega arith))
            | inr f ↦ (let n : 0xd000 ≤ c = is-at-least c 0xd000 f in
                elim (scalar-range c s) [
                  | inl g ↦ lead-is (0xe0 + c / 4096) 0xed _ (omega arith) (character-ed (0x80 + c / 64 % 64) (0x80 + c % 64) (omega arith) (omega arith) (omega arith) (omega arith))
                  | inr g ↦ (let o : 0xe000 ≤ c = g.0 in character-three (0xe0 + c / 4096) (0x80 + c / 64 % 64) (0x80 + c % 64) (inr ((omega arith), (omega arith))) (omega arith) (omega arith) (omega arith) (omega arith))
                ])
          ])
    ]

four-at : (c : ℕ) → 0x10000 ≤ c → c < 0x110000 → IsCharacter ((0xf0 + c / 262144) ∷ (0x80 + c / 4096 % 64) ∷ (0x80 + c / 64 % 64) ∷ (0x80 + c % 64) ∷ [])
four-at c h k =
    elim (decide (nat_lt c 0x40000)) [
      | inl e ↦ (let m : c < 0x40000 = is-less c 0x40000 e in
          lead-is (0xf0 + c / 262144) 0xf0 _ (omega arith) (character-f0 (0x80 + c / 4096 % 64) (0x80 + c / 64 % 64) (0x80 + c % 64) (omega arith) (omega arith) (omega arith) (omega arith) (omega arith) (omega arith)))
      | inr e ↦ (let m : 0x40000 ≤ c = is-at-least c 0x40000 e in
          elim (decide (nat_lt c 0x100000)) [
            | inl f ↦ (let n : c < 0x100000 = is-less c 0x100000 f in
                character-four (0xf0 + c / 262144) (0x80 + c / 4096 % 64) (0x80 + c / 64 % 64) (0x80 + c % 64) (omega arith) (omega arith) (omega arith) (omega arith) (omega arith) (omega arith) (omega arith) (omega arith))
            | inr f ↦ (let n : 0x100000 ≤ c = is-at-least c 0x100000 f in
                lead-is (0xf0 + c / 262144) 0xf4 _ (omega arith) (character-f4 (0x80 + c / 4096 % 64) (0x80 + c / 64 % 64) (0x80 + c % 64) (omega arith) (omega arith) (omega arith) (omega arith) (omega arith) (omega arith)))
          ])
    ]

pub is-character : (c : ℕ) → 0x80 ≤ c → scalar c ≡ true → IsCharacter (encode c)
is-character c h s =
    elim (decide (nat_lt c 0x800)) [
      | inl e ↦ is-two c h (is-less c 0x800 e)
      | inr e ↦ (let m : 0x800 ≤ c = is-at-least c 0x800 e in
          elim (decide (nat_lt c 0x10000)) [
            | inl f ↦ (let n : c < 0x10000 = is-less c 0x10000 f in subst IsCharacter (sym (encode-three c m n)) (three-at c m n s))
            | inr f ↦ (let n : 0x10000 ≤ c = is-at-least c 0x10000 f in
                elim (scalar-range c s) [
                  | inl g ↦ absurd (omega arith)
                  | inr g ↦ subst IsCharacter (sym (encode-four c n)) (four-at c n g.1)
                ])
          ])
    ]

-- ---- bytes below 0x80

abbrev fits_one : List Pattern → List ℕ → Bool
fits_one [] w = false
fits_one (p ∷ ps) w = matches p w || fits_one ps w

which : (ps : List Pattern) (w : List ℕ) → fits_one ps w ≡ true → (p : Pattern) × Among ps p × (matches p w ≡ true)
which [] w h = absurd (cc)
which (p ∷ ps) w h = elim (either_of (matches p w) (fits_one ps w) h) [
  | inl m ↦ (p, inl refl, m)
  | inr m ↦ (let r = which ps w m in (r.0, inr r.1, r.2))
]

ascii-character : (c : ℕ) → c < 128 → IsCharacter (escaped_byte c)
ascii-character c h =
    let r = which characters (escaped_byte c) (below 128 (λ (n : ℕ). fits_one characters (escaped_byte n)) refl c h) in
    among-by r.0 (escaped_byte c) r.1 r.2

abbrev spells : ℕ → Bool
spells c = code_unit 0x30 0x30 (hex_digit (c / 16)) (hex_digit (c % 16)) == c

spelled : (c : ℕ) → c < 32 → code_unit 0x30 0x30 (hex_digit (c / 16)) (hex_digit (c % 16)) ≡ c
spelled c h = eqb-true _ c (below 32 spells refl c h)

low-unit : (c : ℕ) → c < 32 → is_high_surrogate c ≡ false
low-unit c h = grind (arith, nat_tests)

control-bytes : (c : ℕ) → c < 32 → character_bytes c ≡ c ∷ []
control-bytes c h = rw (low_scalar c (omega arith)) (encode_ascii c (omega arith))

control-step : (a b : ℕ) (r : List ℕ) → text_from place.none (0x5c ∷ 0x75 ∷ 0x30 ∷ 0x30 ∷ a ∷ b ∷ r)
    ≡ cond (is_high_surrogate (code_unit 0x30 0x30 a b)) (text_from (place.low_unit (code_unit 0x30 0x30 a b)) r) (character_bytes (code_unit 0x30 0x30 a b) ++ text_from place.none r)
unfolding text_from
control-step a b r = refl

control-text : (c : ℕ) (r : List ℕ) → c < 32 → text_from place.none (0x5c ∷ 0x75 ∷ 0x30 ∷ 0x30 ∷ hex_digit (c / 16) ∷ hex_digit (c % 16) ∷ r) ≡ c ∷ text_from place.none r
control-text c r h =
    control-step (hex_digit (c / 16)) (hex_digit (c % 16)) r
    ∙ ap (λ (u : ℕ). cond (is_high_surrogate u) (text_from (place.low_unit u) r) (character_bytes u ++ text_from place.none r)) (spelled c h)
    ∙ rw (low-unit c h) (ap (λ (x : List ℕ). x ++ text_from place.none r) (control-bytes c h))

quote-text : (r : List ℕ) → text_from place.none (0x5c ∷ 0x22 ∷ r) ≡ 0x22 ∷ text_from place.none r
unfolding text_from
quote-text r = refl

backslash-text : (r : List ℕ) → text_from place.none (0x5c ∷ 0x5c ∷ r) ≡ 0x5c ∷ text_from place.none r
unfolding text_from
backslash-text r = refl

plain-text : (c : ℕ) (r : List ℕ) → (c == 0x5c) ≡ false → text_from place.none (c ∷ r) ≡ c ∷ text_from place.none r
unfolding text_from
plain-text c r h = rw h refl

abbrev pub escape_of : Bool → Bool → Bool → ℕ → List ℕ
escape_of q b s c = cond (q || b) (0x5c ∷ c ∷ []) (cond s (0x5c ∷ 0x75 ∷ 0x30 ∷ 0x30 ∷ hex_digit (c / 16) ∷ hex_digit (c % 16) ∷ []) (c ∷ []))

pub escape-text : (c : ℕ) (r : List ℕ) (q b s : Bool) → (c == 0x22) ≡ q → (c == 0x5c) ≡ b → nat_lt c 0x20 ≡ s → text_from place.none (escape_of q b s c ++ r) ≡ c ∷ text_from place.none r
escape-text c r true b s e f g = let n : c ≡ 0x22 = eqb-true c 0x22 e in subst (λ (x : ℕ). text_from place.none (0x5c ∷ x ∷ r) ≡ x ∷ text_from place.none r) (sym n) (quote-text r)
escape-text c r false true s e f g = let n : c ≡ 0x5c = eqb-true c 0x5c f in subst (λ (x : ℕ). text_from place.none (0x5c ∷ x ∷ r) ≡ x ∷ text_from place.none r) (sym n) (backslash-text r)
escape-text c r false false true e f g = control-text c r (is-less c 0x20 g)
escape-text c r false false false e f g = plain-text c r f

-- ---- bytes from 0x80 on

abbrev AllHigh : List ℕ → Type 0
AllHigh [] = ⊤
AllHigh (b ∷ bs) = (0x80 ≤ b) × AllHigh bs

high-byte : (b : ℕ) → 0x80 ≤ b → escaped_byte b ≡ b ∷ []
high-byte b h = rw (not-eq b 0x22 (λ e. omega arith), not-eq b 0x5c (λ e. omega arith), at-least b 0x20 (omega arith)) refl

high-escaped : (w : List ℕ) → AllHigh w → escaped w ≡ w
high-escaped [] h = refl
high-escaped (b ∷ bs) h = ap (λ (x : List ℕ). x ++ escaped bs) (high-byte b h.0) ∙ ap (λ (x : List ℕ). b ∷ x) (high-escaped bs h.1)

encode-high : (c : ℕ) → 0x80 ≤ c → AllHigh (encode c)
encode-high c h =
    elim (decide (nat_lt c 0x800)) [
      | inl e ↦ subst AllHigh (sym (encode-two c h (is-less c 0x800 e))) ((omega arith), ((omega arith), tt))
      | inr e ↦ (let m : 0x800 ≤ c = is-at-least c 0x800 e in
          elim (decide (nat_lt c 0x10000)) [
            | inl f ↦ subst AllHigh (sym (encode-three c m (is-less c 0x10000 f))) ((omega arith), ((omega arith), ((omega arith), tt)))
            | inr f ↦ subst AllHigh (sym (encode-four c (is-at-least c 0x10000 f))) ((omega arith), ((omega arith), ((omega arith), ((omega arith), tt))))
          ])
    ]

-- ---- characters

one-character : (c : ℕ) → scalar c ≡ true → IsCharacter (escaped (encode c))
one-character c s =
    elim (decide (nat_lt c 0x80)) [
      | inl e ↦ (let m : c < 0x80 = is-less c 0x80 e in
          subst IsCharacter (sym (ap escaped (encode_ascii c m) ∙ append-nil (escaped_byte c))) (ascii-character c m))
      | inr e ↦ (let m : 0x80 ≤ c = is-at-least c 0x80 e in
          subst IsCharacter (sym (high-escaped (encode c) (encode-high c m))) (is-character c m s))
    ]

all-characters : (cs w : List ℕ) → AreCharacters w → scalars cs ≡ true → AreCharacters (w ++ escaped (encodes cs))
all-characters [] w h s = subst (λ (x : List ℕ). AreCharacters x) (sym (append-nil w)) h
all-characters (c ∷ cs) w h s =
    subst (λ (x : List ℕ). AreCharacters x) (append_assoc w (escaped (encode c)) (escaped (encodes cs)) ∙ ap (λ (x : List ℕ). w ++ x) (sym (escaped-append (encode c) (encodes cs))))
    (all-characters cs (w ++ escaped (encode c)) (more w (escaped (encode c)) h (one-character c (and_left (scalar c) (scalars cs) s))) (and_right (scalar c) (scalars cs) s))

text-empty : text_from place.none [] ≡ []
unfolding text_from
text-empty = refl

inside-quoted : (t : List ℕ) → inside (quoted t) ≡ escaped t
inside-quoted t =
    let n : length (escaped t ++ 0x22 ∷ []) ≡ length (escaped t) + 1 = length-append (escaped t) (0x22 ∷ []) in
    let m : length (quoted t) - 2 ≡ length (escaped t) = omega arith in
    ap (λ (x : ℕ). take x (escaped t ++ 0x22 ∷ [])) m ∙ take-append_seam (escaped t) (0x22 ∷ [])

pub quoted-string : (t : List ℕ) → IsUtf8 t → IsString (quoted t)
quoted-string t h = record {
  inside = escaped t;
  spelled = refl;
  characters = subst (λ (x : List ℕ). AreCharacters (escaped x)) h.1.1 (all-characters h.0 [] none h.1.0);
}

pub quoted-json : (t : List ℕ) → IsUtf8 t → IsJson (quoted t) (text (quoted t))
quoted-json t h = record {
  spelled = record { before = []; after = []; spelled = sym (append-nil (quoted t)); spaces_before = tt; spaces_after = tt; value = quoted-string t h };
  shallow = omega arith;
}

escaped-text : (t : List ℕ) → text_from place.none (escaped t) ≡ t
escaped-text [] = text-empty
escaped-text (b ∷ bs) = escape-text b (escaped bs) (b == 0x22) (b == 0x5c) (nat_lt b 0x20) refl refl refl ∙ ap (λ (x : List ℕ). b ∷ x) (escaped-text bs)

-- also of bytes that aren't UTF-8
pub unquoted : (t : List ℕ) → unescaped (quoted t) ≡ t
unquoted t = ap (λ (x : List ℕ). text_from place.none x) (inside-quoted t) ∙ escaped-text t
