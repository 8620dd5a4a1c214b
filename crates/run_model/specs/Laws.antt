-- What the laws of histories speak of.
use Rattle.std.specs.Prelude.{◌≡◌, ◌≢◌, ◌≤◌, ◌<◌, ◌⊎◌, ℕ, List, [], ◌∷◌, ◌++◌}
use Rattle.std.specs.List.{AllByRecursion}
use Rattle.std.specs.Option.{IfSome}
use Rattle.kinds.specs.declared.function.Function.{Function}
use Rattle.kinds.specs.declared.input.Input.{Input}
use Rattle.kinds.specs.declared.input.Input.TheVariants.{Register, Tick}
use Rattle.kinds.specs.declared.store.StepEntry.{StepEntry}
use Rattle.functions.specs.declared.entry.FunctionEntry.{FunctionEntry}
use Rattle.run_model.specs.Machine.{count_input, step}
use Rattle.run_model.specs.Next.{next_moment}
use Rattle.run_model.specs.State.{State, Run, at_moment, moment_at}

-- Each run that has not ended has one of the numbers that were given to runs, so no new run takes it.
abbrev pub AreCounted : State → Type 0
AreCounted s = AllByRecursion (λ (r : Run). r.number ≤ s.runs) s.live

-- the steps before are there still, in front and as they were, and others may follow
abbrev pub Follows : List StepEntry → List StepEntry → Type 0
Follows before after = (more : List StepEntry) × (after ≡ before ++ more)

-- A reading of the clock that comes before the next moment lets time go on, and nothing is said.
abbrev pub OnlyTimePasses : State → ℕ → Type 0
OnlyTimePasses s at = IfSome (next_moment s) (λ n. moment_at at s < n)
    → step s (Tick at) ≡ record { state = at_moment (moment_at at s) (count_input s); outs = [] }

-- an item is one of a list
abbrev pub IsIn : {X : Type 0} → X → List X → Type 0
IsIn x [] = ⊥
IsIn x (y ∷ ys) = (y ≡ x) ⊎ IsIn x ys

-- ## Functions

-- so many versions were given, and these functions are current
abbrev pub HasFunctions : ℕ → List FunctionEntry → State → Type 0
HasFunctions versions fs s = (s.versions ≡ versions) × (s.functions ≡ fs)

abbrev pub IsNoRegistration : Input → Type 0
IsNoRegistration (Register at app) = ⊥
IsNoRegistration _ = Unit {0}

-- no two functions have one id
abbrev pub HaveOwnIds : List Function → Type 0
HaveOwnIds [] = Unit {0}
HaveOwnIds (f ∷ fs) = AllByRecursion (λ (later : Function). f.id ≢ later.id) fs × HaveOwnIds fs

-- a registration names no id twice
abbrev pub IsFormed : Input → Type 0
IsFormed (Register at app) = HaveOwnIds app.functions
IsFormed _ = Unit {0}
