-- How long a failed call waits before it is made again, in milliseconds.
use Rattle.std.specs.Prelude.{ℕ, ◌-◌, ◌==◌, min, if◌then◌else◌}
use Rattle.kinds.specs.declared.reply.After.{After}
use Rattle.kinds.specs.declared.reply.After.TheVariants as after

-- a week
abbrev pub longest_delay : ℕ
longest_delay = 604800000

-- where the reply doesn't say, by attempt
abbrev pub delay_of_attempt : ℕ → ℕ
delay_of_attempt attempt =
    if attempt == 0 then 10000
    else if attempt == 1 then 30000
    else if attempt == 2 then 60000
    else if attempt == 3 then 120000
    else if attempt == 4 then 300000
    else if attempt == 5 then 600000
    else 1200000

abbrev pub delay : ℕ → After → ℕ → ℕ
delay attempt after.None moment = delay_of_attempt attempt
delay attempt (after.Millis millis) moment = min millis longest_delay
delay attempt (after.At date) moment = min (date - moment) longest_delay
