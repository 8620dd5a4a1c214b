-- What the generator's replies are taken for.
use Rattle.std.proofs.Common.{◌≡◌, ℕ, ◌^◌, ◌<◌, false, List, [], ◌∷◌, codes, None, Result, Ok, refl, ap, ◌∙◌}
use Rattle.std.specs.Prelude.{decimal}
use Rattle.json_text.specs.Grammar.{Json}
use Rattle.json_text.specs.Text.{text_from}
use Rattle.json_text.specs.declared.fault.JsonFault.{JsonFault}
use Rattle.kinds.specs.declared.reply.After.TheVariants as after
use Rattle.kinds.specs.declared.reply.Op.TheVariants.{StepRun}
use Rattle.kinds.specs.declared.reply.Outcome.TheVariants.{Ended, Ops}
use Rattle.kinds.specs.declared.reply.ReplyIn.{ReplyIn}
use Rattle.sdk_reply.specs.Operations.{op_of}
use Rattle.sdk_reply.specs.Ops.{ops_at}
use Rattle.sdk_reply.specs.Outcome.{ended_by, goes_on_by, outcome_of}
use Rattle.generator.specs.Inputs.{end_reply, step, step_reply}
use Rattle.generator.proofs.Bodies.{body-read, decimal-number, null-read, told_alone}

-- a reply with operations, which says nothing of retries
abbrev with_body : List ℕ → ReplyIn
with_body body = record { status = 206; no_retry = None; retry = None; body = body }

told-ops : (body w : List ℕ) → goes_on_by (with_body body) (Ok (told_alone w))
    ≡ Ops (StepRun step w ∷ []) false after.None
unfolding ops_at op_of text_from
told-ops body w = refl

-- one step ran, and its result is the number
pub step-outcome : (i : ℕ) → 0 < i → i < 2 ^ 64
    → outcome_of (step_reply i) ≡ Ops (StepRun step (decimal i) ∷ []) false after.None
unfolding outcome_of
step-outcome i h l =
    ap (λ (r : Result Json JsonFault). goes_on_by (step_reply i) r) (body-read (decimal i) (decimal-number i h l))
    ∙ told-ops (step_reply i).body (decimal i)

-- the run has ended with nothing
pub end-outcome : outcome_of end_reply ≡ Ended (codes "null")
unfolding outcome_of
end-outcome = ap (λ (r : Result Json JsonFault). ended_by end_reply r) null-read
