-- Numbers as bytes are lists of numbers below 256.
use Rattle.std.proofs.Common.{ℕ, zero, suc, ◌<◌, All, arith}
use Rattle.std.specs.Int.{byte_at, bytes_high_first}
use Rattle.std.proofs.lemmas.List.Elements.{All-cons}

byte_fits : (k n : ℕ) → byte_at k n < 256
byte_fits zero n = omega arith
byte_fits (suc k) n = omega arith

-- the bytes of a number
pub high_first_fit : (count n : ℕ) → All (λ x. x < 256) (bytes_high_first count n)
high_first_fit zero n = λ k d h. absurd (omega arith)
high_first_fit (suc count) n = All-cons (λ x. x < 256) (byte_at count n) (bytes_high_first count n) (byte_fits count n) (high_first_fit count n)
