-- What is wrong with a registration, by function and member.
use Rattle.std.specs.Prelude.{ℕ, List, codes, Result, Ok, Err}
use Rattle.registry.specs.declared.fault.RegisterFault.{RegisterFault}
use Rattle.registry.specs.declared.fault.RegisterFault.TheVariants.{BadFunction, BadTrigger, BadUrl, HttpsUrl, BadLimit, TooManyLimits, BadPeriod, BadExpression, BatchWith, BadRetries, CancelName, Memory}
use Rattle.registry.specs.declared.flaw.Flaw.{Flaw}
use Rattle.registry.specs.declared.flaw.Flaw.TheVariants as flaw
use Rattle.registry.specs.declared.member.Member.{Member}
use Rattle.registry.specs.declared.member.Member.TheVariants as member

abbrev pub member_name : Member → List ℕ
member_name member.Function = codes "function"
member_name member.RateLimit = codes "rateLimit"
member_name member.Idempotency = codes "idempotency"
member_name member.Singleton = codes "singleton"
member_name member.Timeouts = codes "timeouts"
member_name member.Id = codes "id"
member_name member.Name = codes "name"
member_name member.Triggers = codes "triggers"
member_name member.Steps = codes "steps"
member_name member.Concurrency = codes "concurrency"
member_name member.Throttle = codes "throttle"
member_name member.Debounce = codes "debounce"
member_name member.BatchEvents = codes "batchEvents"
member_name member.Priority = codes "priority"
member_name member.Cancel = codes "cancel"

-- what is wrong with a member of the function of this index
abbrev pub blamed : ℕ → Member → Flaw → RegisterFault
blamed i m flaw.Function = BadFunction i m
blamed i m flaw.Trigger = BadTrigger i m
blamed i m flaw.Url = BadUrl i m
blamed i m flaw.HttpsUrl = HttpsUrl i m
blamed i m flaw.Limit = BadLimit i m
blamed i m flaw.TooManyLimits = TooManyLimits i m
blamed i m flaw.Period = BadPeriod i m
blamed i m (flaw.Expression at) = BadExpression i m at
blamed i m flaw.BatchWith = BatchWith i m
blamed i m flaw.Retries = BadRetries i m
blamed i m flaw.CancelName = CancelName i m
blamed i m flaw.Memory = Memory

abbrev pub blame : {A : Type 0} → ℕ → Member → Result A Flaw → Result A RegisterFault
blame i m (Ok value) = Ok value
blame i m (Err flaw) = Err (blamed i m flaw)
