-- What a function and its first event decide of a run.
use Rattle.std.specs.Prelude.{ℕ, ◌+◌, ◌∷◌, ◌++◌, List, [], map}
use Rattle.std.specs.List.{AllByRecursion}
use Rattle.std.specs.Option.{option_map}
use Rattle.kinds.specs.declared.function.CancelEntry.{CancelEntry}
use Rattle.kinds.specs.declared.store.Rule.{Rule}
use Rattle.event_keys.specs.Buckets.{bucket_of}
use Rattle.event_keys.specs.Cells.{cells_of, start_of}
use Rattle.event_keys.specs.Expressions.{priority_shift}
use Rattle.functions.specs.declared.entry.FunctionEntry.{FunctionEntry}
use Rattle.run_model.specs.Fit.{IsBucketOf, IsRunFit}
use Rattle.run_model.specs.Making.{queue_new, step_target, text_or_none}
use Rattle.run_model.specs.State.{State, Run, EventText, text_of}
use Rattle.machine.specs.declared.making.Draft.{Draft}
use Rattle.machine.specs.declared.making.Plan.{Plan}

abbrev pub draft_of : ℕ → List ℕ → CancelEntry → Draft
draft_of moment event c = record {
  name = c.event;
  cond = c.cond;
  due = option_map (λ timeout. moment + timeout) c.timeout;
  bucket = bucket_of c.cond event;
}

-- of a run that is made at a moment, whose first event has this text
abbrev pub plan_of : FunctionEntry → List ℕ → ℕ → Plan
plan_of f event moment = record {
  version = f.version;
  cells = cells_of f.function event;
  start = start_of f.function event;
  shift = priority_shift f.function.priority event;
  rules = map (draft_of moment event) f.function.cancels;
}

-- of a run whose first event this is
abbrev pub planned : ℕ → State → FunctionEntry → Plan
planned first s f = plan_of f (text_or_none (text_of first s)) s.moment

abbrev pub rule_of : ℕ → ℕ → State → Draft → Rule
rule_of run first s d = record {
  number = s.entries + 1;
  run = run;
  first = first;
  name = d.name;
  cond = d.cond;
  due = d.due;
  bucket = d.bucket;
}

abbrev pub add_draft : ℕ → ℕ → Draft → State → State
add_draft run first d s =
    record s { entries = s.entries + 1; rules = s.rules ++ rule_of run first s d ∷ [] }

abbrev pub add_drafts : ℕ → ℕ → List Draft → State → State
add_drafts run first [] s = s
add_drafts run first (d ∷ ds) s = add_drafts run first ds (add_draft run first d s)

-- the buckets are those of the conditions over the first event
abbrev pub AreDraftsFit : List EventText → ℕ → List Draft → Type 0
AreDraftsFit texts first ds = AllByRecursion (λ (d : Draft). IsBucketOf texts first d.cond d.bucket) ds

-- a run that has the next number is there, with its first item
abbrev pub begin_run : Run → State → State
begin_run r s = queue_new r step_target (record s { runs = s.runs + 1; live = s.live ++ r ∷ [] })

abbrev pub IsNewFit : State → Run → Type 0
IsNewFit s r = IsRunFit (s.runs + 1) s.events s.versions r
