-- The bytes that the grammar names.
use Rattle.std.specs.Prelude.{◌≡◌, ℕ, Bool, true, ◌&&◌, ◌||◌, nat_le, ◌==◌, List, [], ◌∷◌, ⊤}

-- each byte passes the test
abbrev pub Each : (ℕ → Bool) → List ℕ → Type 0
Each test [] = ⊤
Each test (b ∷ bs) = (test b ≡ true) × Each test bs

-- space, horizontal tab, line feed and carriage return (RFC 8259, section 2: `ws`)
abbrev pub is_space : ℕ → Bool
is_space b = (b == 0x20) || (b == 0x09) || (b == 0x0a) || (b == 0x0d)

abbrev pub is_digit : ℕ → Bool
is_digit b = nat_le 0x30 b && nat_le b 0x39

-- `digit1-9`
abbrev pub is_leading_digit : ℕ → Bool
is_leading_digit b = nat_le 0x31 b && nat_le b 0x39

-- `e`
abbrev pub is_exponent_mark : ℕ → Bool
is_exponent_mark b = (b == 0x65) || (b == 0x45)

-- `plus` and `minus`
abbrev pub is_sign : ℕ → Bool
is_sign b = (b == 0x2b) || (b == 0x2d)
