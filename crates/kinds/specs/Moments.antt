-- Moments are milliseconds since 1970.
use Rattle.std.specs.Prelude.{ℕ}

-- The last millisecond of the year 9999. A clock reading above it counts as this moment.
abbrev pub last_moment : ℕ
last_moment = 253402300799999
