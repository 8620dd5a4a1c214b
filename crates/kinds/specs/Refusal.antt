-- What a refused input is answered.
use Rattle.std.specs.Prelude.{Some, None, codes}
use Rattle.kinds.specs.Answer.{error_answer}
use Rattle.kinds.specs.declared.out.Out.{Out}
use Rattle.kinds.specs.declared.refusal.Refusal.{Refusal}
use Rattle.kinds.specs.declared.refusal.Refusal.TheVariants.{NumbersSpent, KeptFull, RunsFull, FunctionsFull, UnknownCall, UnknownRun, RunEnded}

abbrev pub refusal_answer : Refusal → Out
refusal_answer (NumbersSpent greatest) = error_answer 429 (codes "numbers spent") (Some greatest)
refusal_answer (KeptFull kept) = error_answer 429 (codes "kept full") (Some kept)
refusal_answer (RunsFull live) = error_answer 429 (codes "runs full") (Some live)
refusal_answer (FunctionsFull functions) = error_answer 429 (codes "functions full") (Some functions)
refusal_answer (UnknownCall call) = error_answer 404 (codes "unknown call") (Some call)
refusal_answer (UnknownRun run) = error_answer 404 (codes "unknown run") None
refusal_answer (RunEnded run) = error_answer 400 (codes "run ended") None
