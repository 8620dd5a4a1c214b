-- What the sender of a refused registration is told.
use Rattle.std.specs.Prelude.{ℕ, List, codes, Option, Some, None}
use Rattle.kinds.specs.Answer.{error_answer, function_error_answer}
use Rattle.kinds.specs.declared.out.Out.{Out}
use Rattle.registry.specs.Faults.{member_name}
use Rattle.registry.specs.declared.fault.RegisterFault.{RegisterFault}
use Rattle.registry.specs.declared.fault.RegisterFault.TheVariants.{NotJson, NoAppName, NoFunctions, BadFunction, BadTrigger, BadUrl, HttpsUrl, BadLimit, TooManyLimits, BadPeriod, BadExpression, BatchWith, BadRetries, CancelName, Memory}
use Rattle.registry.specs.declared.member.Member.{Member}

-- a body that isn't read has no place
abbrev pub refused : List ℕ → Out
refused word = error_answer 400 word None

abbrev pub refused_in : List ℕ → ℕ → Member → Option ℕ → Out
refused_in word index m at = function_error_answer 400 word index (member_name m) at

-- want of memory has no answer
abbrev pub fault_answer : RegisterFault → Option Out
fault_answer NotJson = Some (refused (codes "not json"))
fault_answer NoAppName = Some (refused (codes "no app name"))
fault_answer NoFunctions = Some (refused (codes "no functions"))
fault_answer (BadFunction index m) = Some (refused_in (codes "bad function") index m None)
fault_answer (BadTrigger index m) = Some (refused_in (codes "bad trigger") index m None)
fault_answer (BadUrl index m) = Some (refused_in (codes "bad url") index m None)
fault_answer (HttpsUrl index m) = Some (refused_in (codes "https url") index m None)
fault_answer (BadLimit index m) = Some (refused_in (codes "bad limit") index m None)
fault_answer (TooManyLimits index m) = Some (refused_in (codes "too many limits") index m None)
fault_answer (BadPeriod index m) = Some (refused_in (codes "bad period") index m None)
fault_answer (BadExpression index m at) = Some (refused_in (codes "bad expression") index m (Some at))
fault_answer (BatchWith index m) = Some (refused_in (codes "batch with") index m None)
fault_answer (BadRetries index m) = Some (refused_in (codes "bad retries") index m None)
fault_answer (CancelName index m) = Some (refused_in (codes "cancel name") index m None)
fault_answer Memory = None
