-- The parts of sleeps, waits, invocations and rules.
use Rattle.std.specs.Prelude.{ℕ, ◌==◌, Bool, not, ◌&&◌, List, filter, Option, Some, bytes_eq}
use Rattle.kinds.specs.declared.store.Parent.{Parent}
use Rattle.kinds.specs.declared.store.Rule.{Rule}
use Rattle.kinds.specs.declared.store.Wait.{Wait}
use Rattle.awaited.specs.declared.entries.Invocation.{Invocation}
use Rattle.awaited.specs.declared.entries.Sleep.{Sleep}
use Rattle.awaited.specs.declared.entries.WaitStep.{WaitStep}

-- ## Sleeps

abbrev pub sleep_number : Sleep → ℕ
sleep_number e = e.number

abbrev pub sleep_run : Sleep → ℕ
sleep_run e = e.run

abbrev pub sleep_due : Sleep → Option ℕ
sleep_due e = Some e.due

-- ## Waits

-- a wait with the name of its step
pub record Waiting : Type 0 where
  pub wait : Wait
  pub hash : List ℕ

abbrev pub wait_of : Waiting → Wait
wait_of w = w.wait

-- what the end of a wait needs
abbrev pub wait_step : Waiting → WaitStep
wait_step w = record { number = w.wait.number; run = w.wait.run; hash = w.hash; due = w.wait.due }

abbrev pub waiting_number : Waiting → ℕ
waiting_number w = w.wait.number

abbrev pub waiting_run : Waiting → ℕ
waiting_run w = w.wait.run

abbrev pub waiting_due : Waiting → Option ℕ
waiting_due w = Some w.wait.due

abbrev pub step_number : WaitStep → ℕ
step_number e = e.number

abbrev pub step_run : WaitStep → ℕ
step_run e = e.run

abbrev pub step_due : WaitStep → Option ℕ
step_due e = Some e.due

-- ## Invocations

abbrev pub invocation_number : Invocation → ℕ
invocation_number i = i.number

abbrev pub invocation_run : Invocation → ℕ
invocation_run i = i.run

abbrev pub invocation_due : Invocation → Option ℕ
invocation_due i = i.due

abbrev pub is_invocation_of : Parent → Invocation → Bool
is_invocation_of p i = (p.run == i.run) && bytes_eq p.hash i.hash

abbrev pub without_invocation_of : Parent → List Invocation → List Invocation
without_invocation_of p is = filter (λ i. not (is_invocation_of p i)) is

-- ## Rules

abbrev pub rule_due : Rule → Option ℕ
rule_due r = r.due
