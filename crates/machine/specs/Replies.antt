-- What a reply does, of a run that may not be there.
use Rattle.std.specs.Prelude.{ℕ, ⊤, ◌<◌, ◌==◌, ◌&&◌, ◌||◌, Bool, true, false, not, List, length, Option, Some, None, bytes_eq, nat_le, nat_lt}
use Rattle.std.specs.List.{list_any}
use Rattle.kinds.specs.RunSteps.{is_recorded}
use Rattle.kinds.specs.declared.reply.After.{After}
use Rattle.kinds.specs.declared.reply.Op.{Op}
use Rattle.kinds.specs.declared.reply.Outcome.{Outcome}
use Rattle.kinds.specs.declared.store.Item.{Item}
use Rattle.run_model.specs.Making.{step_target}
use Rattle.run_model.specs.Replies.{is_idle, is_outcome_of, retries_of, take_ops, take_outcome}
use Rattle.run_model.specs.State.{State, Run, Issue}
use Rattle.machine.specs.declared.replies.Next.{Next}
use Rattle.machine.specs.declared.replies.Next.TheVariants.{Nothing, Want, Again, Fail}

abbrev pub lacks : List ℕ → List Op → Bool
lacks target ops = not (bytes_eq target step_target) && not (list_any (is_outcome_of target) ops)

abbrev pub idle_at : Option Run → State → Bool
idle_at None s = false
idle_at (Some r) s = is_idle r s

-- an item of a run is queued, or a call of it is open
abbrev pub is_called : ℕ → State → Bool
is_called run s =
    list_any (λ (i : Item). run == i.run) s.items || list_any (λ (i : Issue). run == i.item.run) s.issues

-- a run waits for nothing, and isn't to find out what comes next
abbrev pub is_resting : Run → Bool
is_resting r = not (nat_le 1 (length r.steps.pending)) && not r.wanted

abbrev pub next_by : Bool → Bool → Next
next_by true left = Want
next_by false true = Again
next_by false false = Fail

abbrev pub next_of : Option Run → Item → State → Next
next_of None i s = Nothing
next_of (Some r) i s = next_by (is_recorded i.target r.steps) (nat_lt i.attempt (retries_of r s))

-- there is an attempt more
abbrev pub HasRoom : Next → ℕ → Type 0
HasRoom Again attempt = attempt < 255
HasRoom _ attempt = ⊤

abbrev pub ops_at : Option Run → Item → List Op → Bool → After → State → State
ops_at None i ops no_retry after s = s
ops_at (Some r) i ops no_retry after s = take_ops r i ops no_retry after s

abbrev pub outcome_at : Option Run → Item → Outcome → State → State
outcome_at None i outcome s = s
outcome_at (Some r) i outcome s = take_outcome r i outcome s
