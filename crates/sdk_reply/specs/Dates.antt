-- Dates as moments: milliseconds since 1970, rounded down, and 0 for what lies before.
use Rattle.std.specs.Prelude.{ℕ, ℤ, pos, negsuc, ◌/◌, ◌*◌, List}
use Rattle.std.specs.Prelude.{Option, Some, None, Result, Ok, Err, option_map}
use Rattle.httpdate.specs.Date.{parse_secs}
use Rattle.jiff.specs.Words.{parse_timestamp}
use Rattle.jiff_core.specs.declared.error.Error.{Error}

abbrev pub millis : ℤ → ℕ
millis (pos nanoseconds) = nanoseconds / 1000000
millis (negsuc before) = 0

abbrev pub moment_of : Result ℤ Error → Option ℕ
moment_of (Ok nanoseconds) = Some (millis nanoseconds)
moment_of (Err error) = None

-- an RFC 3339 date as an instant, in the reading of `jiff`
unfoldable pub date_moment : List ℕ → Option ℕ
date_moment text = moment_of (parse_timestamp text)

-- a date of an HTTP field (RFC 9110, section 5.6.7)
unfoldable pub http_moment : List ℕ → Option ℕ
http_moment text = option_map (λ seconds. seconds * 1000) (parse_secs text)
