-- When a call is to be made again, as the field `Retry-After` says.
use Rattle.std.specs.Prelude.{ℕ, ◌*◌, min, List, Option, Some, None, Result, Ok, Err}
use Rattle.text_num.specs.Digits.{u64_of}
use Rattle.text_num.specs.declared.fault.NumFault.{NumFault}
use Rattle.kinds.specs.declared.reply.After.{After}
use Rattle.kinds.specs.declared.reply.After.TheVariants as after
use Rattle.sdk_reply.specs.Dates.{date_moment, http_moment}
use Rattle.sdk_reply.specs.Delay.{longest_delay}

abbrev pub after_date : Option ℕ → After
after_date None = after.None
after_date (Some moment) = after.At moment

abbrev pub after_http : List ℕ → Option ℕ → After
after_http text None = after_date (date_moment text)
after_http text (Some moment) = after.At moment

abbrev pub after_seconds : List ℕ → Result ℕ NumFault → After
after_seconds text (Ok seconds) = after.Millis (min (seconds * 1000) longest_delay)
after_seconds text (Err fault) = after_http text (http_moment text)

-- a number of seconds, else an HTTP date, else an RFC 3339 date
abbrev pub after_text : List ℕ → After
after_text text = after_seconds text (u64_of text)

abbrev pub after_field : Option (List ℕ) → After
after_field None = after.None
after_field (Some text) = after_text text
