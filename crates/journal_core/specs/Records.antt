-- The first format of a journal: records one after another from offset 0, each a length of four bytes,
-- the highest first, and a payload of so many.
use Rattle.std.specs.Prelude.{ℕ, ◌≡◌, zero, suc, ◌+◌, nat_le, Bool, true, false, ◌&&◌, List, [], ◌∷◌, ◌++◌, length, take, drop}
use Rattle.std.specs.Int.{w32, to_be_bytes, from_be_bytes}

-- the greatest length of a payload
abbrev pub greatest : ℕ
greatest = 8388608

-- the record of a payload
abbrev pub spelled : List ℕ → List ℕ
spelled payload = to_be_bytes w32 (length payload) ++ payload

-- the length that stands at the front
unfoldable pub first_length : List ℕ → ℕ
first_length bytes = from_be_bytes w32 (take 4 bytes)

-- a whole record stands at the front
abbrev pub begins_whole : List ℕ → Bool
begins_whole bytes =
    let first = first_length bytes in
    nat_le 4 (length bytes)
    && (nat_le 1 first && (nat_le first greatest && nat_le (4 + first) (length bytes)))

abbrev pub first_payload : List ℕ → List ℕ
first_payload bytes = take (first_length bytes) (drop 4 bytes)

abbrev pub after_first : List ℕ → List ℕ
after_first bytes = drop (4 + first_length bytes) bytes

-- what a file stands for: the payloads of its whole records, and a rest that begins with none
pub record Contents : Type 0 where
  pub payloads : List (List ℕ)
  pub rest : List ℕ

-- the first payload before more of them, where a whole record stands at the front
abbrev pub with_first : Bool → List ℕ → Contents → Contents
with_first true bytes more = record { payloads = first_payload bytes ∷ more.payloads; rest = more.rest }
with_first false bytes more = record { payloads = []; rest = bytes }

-- at most n records
unfoldable pub read_records : ℕ → List ℕ → Contents
read_records zero bytes = record { payloads = []; rest = bytes }
read_records (suc n) bytes = with_first (begins_whole bytes) bytes (read_records n (after_first bytes))

-- Each record takes a byte at least.
unfoldable pub contents : List ℕ → Contents
contents bytes = read_records (length bytes) bytes

-- the payloads that the bytes stand for
abbrev pub payloads_of : List ℕ → List (List ℕ)
payloads_of bytes = (contents bytes).payloads

-- these bytes are whole records, and stand for these payloads
abbrev pub StandsFor : List (List ℕ) → List ℕ → Type 0
StandsFor payloads bytes = contents bytes ≡ record { payloads = payloads; rest = [] }
